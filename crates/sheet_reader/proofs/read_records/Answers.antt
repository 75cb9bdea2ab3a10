-- `read_records`: each record lies within the file. Assumes nothing.
use Rattle.std.proofs.Common.{refl, ◌∙◌}
use Rattle.sheet_spec.specs.File.{filled_all}
use Rattle.sheet_encoding.proofs.PlacesTurn.{placed}
use Rattle.sheet_encoding.proofs.RecordTurn.{filled_more, has_room, record_room}
use Rattle.sheet_reader.proofs.read_records.Goals as goal

pub loop-record-init : goal.loop-record-init
unfolding filled_all
loop-record-init c = rw (c.into_iter-record-iterator.ensures.into_iter_gives, c.record_places-record-items.ensures.first) (c.record_places-record-items.ensures.shape, refl)

pub read_record-requires-clause-small : goal.read_record-requires-clause-small
read_record-requires-clause-small c =
    let p = placed c.loop-record.invariant.0 c.in-Some.ensures.steps.1.0 in
    (c.requires.0, has_room _ _ p.is c.requires.0 p.below)

pub read_record-requires-clause-record_in_bounds : goal.read_record-requires-clause-record_in_bounds
read_record-requires-clause-record_in_bounds c =
    let p = placed c.loop-record.invariant.0 c.in-Some.ensures.steps.1.0 in
    record_room _ _ _ _ p.is p.start p.below c.requires.1

pub loop-record-preserved : goal.loop-record-preserved
loop-record-preserved c =
    let i = c.loop-record.invariant in
    let e = c.in-Some.ensures.steps in
    let p = placed i.0 e.1.0 in
    (e.0 ∙ i.0, rw e.1.1 (filled_more _ _ p.is c.args.f.now c.args.v.now c.read_record.ensures p.start i.1))
