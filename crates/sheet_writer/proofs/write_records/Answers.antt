-- `write_records`: the next record, in the part that starts at its place. Assumes nothing.
use Rattle.std.proofs.Common.{refl, ◌∙◌, arith}
use Rattle.sheet_spec.specs.File.{coded_all, record_bytes}
use Rattle.sheet_encoding.proofs.PlacesTurn.{placed}
use Rattle.sheet_encoding.proofs.RecordTurn.{has_room, record_room}
use Rattle.sheet_writer.proofs.FileTurn.{length_record, part_back, part_length, record_next}
use Rattle.sheet_writer.proofs.write_records.Goals as goal

pub loop-record-init : goal.loop-record-init
unfolding coded_all
loop-record-init c = rw (c.into_iter-record-iterator.ensures.into_iter_gives, c.record_places-record-items.ensures.first) (c.record_places-record-items.ensures.shape, refl)

pub slice_bounds-write_record-count : goal.slice_bounds-write_record-count
slice_bounds-write_record-count c =
    let p = placed c.loop-record.invariant.0 c.in-Some.ensures.steps.1.0 in
    omega (arith, record_room _ _ _ _ p.is p.start p.below c.requires.1)

pub slice_bounds-write_record-start : goal.slice_bounds-write_record-start
slice_bounds-write_record-start c =
    let p = placed c.loop-record.invariant.0 c.in-Some.ensures.steps.1.0 in
    omega (arith, record_room _ _ _ _ p.is p.start p.below c.requires.1)

pub write_record-requires-clause-small : goal.write_record-requires-clause-small
write_record-requires-clause-small c =
    let p = placed c.loop-record.invariant.0 c.in-Some.ensures.steps.1.0 in
    (c.requires.0, has_room _ _ p.is c.requires.0 p.below)

pub write_record-requires-clause-record_in_bounds : goal.write_record-requires-clause-record_in_bounds
write_record-requires-clause-record_in_bounds c =
    let p = placed c.loop-record.invariant.0 c.in-Some.ensures.steps.1.0 in
    omega (arith, record_room _ _ _ _ p.is p.start p.below c.requires.1, part_length c.loop-record.s c.in-Some.at)

pub loop-record-preserved : goal.loop-record-preserved
loop-record-preserved c =
    let a = c.args in
    let n = a.shape.vars in
    let i = c.loop-record.invariant in
    let e = c.in-Some.ensures.steps in
    let p = placed i.0 e.1.0 in
    let room = record_room _ _ _ _ p.is p.start p.below c.requires.1 in
    let bytes = record_bytes n c.in-Some.record a.v.now in (
      e.0 ∙ i.0,
      rw e.1.1
          (record_next a.shape a.v.now a.s.now _ p.is
          (part_back c.loop-record.s c.in-Some.at bytes c.write_record.ensures (omega (arith, room, length_record n c.in-Some.record a.v.now))) p.start i.1),
    )
