-- `question_step` is the next question's step: it puts the line of the question's bytes, or ends the listing. Assumes nothing.
use Rattle.std.proofs.Common.{rules, ◌≡◌, true, false, length, refl, ap, ◌∙◌, arith}
use lib.Dec.{ltb}
use Rattle.std.proofs.lemmas.Bool.Decides.{nat_tests}
use Rattle.decision_spec.specs.Listing.{question_line}
use Rattle.listing.specs.ListingSteps.{ended, question_step}
use Rattle.listing.proofs.ListingSteps.{step_closed, step_none, step_some, listed_as}
use Rattle.listing.proofs.question_step.Goals as goal
use Rattle.listing.proofs.question_step.Goals.{in_default-via-in-Some+else-not-is_empty, in_default-via-in_default}

pub returns-in-Some-clause-listed_as : goal.returns-in-Some-clause-listed_as
unfolding question_line
returns-in-Some-clause-listed_as c =
    let args = c.args in
    let size = c.question_length-taken.ensures.0 in
    let some : ltb 0 (length args.bytes.now) ≡ true = grind (arith, nat_tests) in
    let step = ap (λ n. question_step args.sheet.now n args.bytes.now) c.in-Some.is in
    listed_as (step ∙ step_some args.sheet.now c.in-Some.ordinal args.bytes.now some)
    (record {
      line = rw (c.decide.ensures.result_value, size) at c.put_question_line.ensures;
      taken = size;
      next = search rules;
    })

pub returns-in_default-clause-listed_as : goal.returns-in_default-clause-listed_as
returns-in_default-clause-listed_as c =
    let args = c.args in
    let e : question_step args.sheet.now args.next args.bytes.now ≡ ended =
    elim c.in_default.branch [
      | in_default-via-in-Some+else-not-is_empty w ↦
          let none : ltb 0 (length args.bytes.now) ≡ false = grind (arith, nat_tests) in
          ap (λ n. question_step args.sheet.now n args.bytes.now) w.in-Some.is ∙ step_none args.sheet.now w.in-Some.ordinal args.bytes.now none
      | in_default-via-in_default w ↦ ap (λ n. question_step args.sheet.now n args.bytes.now) w.in_default.is ∙ step_closed args.sheet.now args.bytes.now
    ] in
    listed_as e (record { line = c.clear.ensures; taken = refl; next = refl })
