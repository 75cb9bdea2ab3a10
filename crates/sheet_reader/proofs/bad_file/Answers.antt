-- `bad_file`: each record lies within the file, and its mark and its numbers are tested. Assumes nothing.
use Rattle.std.proofs.Common.{refl, sym, ◌∙◌, arith}
use Rattle.sheet_spec.specs.Refusals.{first_refusal}
use Rattle.sheet_spec.specs.File.{bad_all}
use Rattle.sheet_spec.proofs.Laws.{refused}
use Rattle.sheet_encoding.proofs.PlacesTurn.{placed}
use Rattle.sheet_encoding.proofs.RecordTurn.{has_room, record_room}
use Rattle.std.proofs.lemmas.Result.{err_from_is_err_and}
use Rattle.sheet_reader.proofs.RecordTests.{passed, wrong_mark, wrong_numbers}
use Rattle.sheet_reader.proofs.bad_file.Goals as goal

pub loop-record-init : goal.loop-record-init
unfolding bad_all first_refusal
loop-record-init c = rw (c.into_iter-record-iterator.ensures.into_iter_gives, c.record_places-record-items.ensures.first) (c.record_places-record-items.ensures.shape, refl)

pub marked-requires : goal.marked-requires
marked-requires c =
    let p = placed c.loop-record.invariant.0 c.in-Some.ensures.steps.1.0 in
    omega (arith, record_room _ _ _ _ p.is p.start p.below c.requires.1)

pub returns-then-not-marked : goal.returns-then-not-marked
returns-then-not-marked c =
    let i = c.loop-record.invariant in
    let p = placed i.0 c.in-Some.ensures.steps.1.0 in
    wrong_mark _ _ _ _ p.is p.start i.1 p.below (sym c.marked.ensures ∙ c.if-not-marked.true)

pub bad_record-requires : goal.bad_record-requires
bad_record-requires c =
    let p = placed c.loop-record.invariant.0 c.in-Some.ensures.steps.1.0 in
    (c.requires.0, has_room _ _ p.is c.requires.0 p.below)

pub returns-in_err-bad_record : goal.returns-in_err-bad_record
returns-in_err-bad_record c =
    let i = c.loop-record.invariant in
    let p = placed i.0 c.in-Some.ensures.steps.1.0 in
    let e = err_from_is_err_and c.from_residual.result c.from_residual.ensures.1 in
    rw (e.1, e.2) (wrong_numbers _ _ _ _ p.is p.start i.1 p.below (sym c.marked.ensures ∙ c.if-not-marked.false) c.in_err-bad_record.ensures (refused _))

pub loop-record-preserved : goal.loop-record-preserved
loop-record-preserved c =
    let i = c.loop-record.invariant in
    let e = c.in-Some.ensures.steps in
    let p = placed i.0 e.1.0 in
    (e.0 ∙ i.0, rw e.1.1 (passed _ _ _ _ p.is p.start i.1 (sym c.marked.ensures ∙ c.if-not-marked.false) c.in_ok-bad_record.ensures))
