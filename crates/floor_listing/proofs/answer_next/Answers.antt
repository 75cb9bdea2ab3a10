-- `answer_next`: if the listing goes on, the next number is one more. Assumes nothing.
use Rattle.std.proofs.Common.{◌≡◌, ◌+◌, IfSome, ℕ, sym, subst}
use Rattle.std.specs.declared.option.Option.{Option}
use Rattle.listing.proofs.ListingSteps.{step_counts}
use Rattle.floor_listing.proofs.answer_next.Goals as goal

pub returns-clause-next : goal.returns-clause-next
returns-clause-next g c =
    subst (λ (next : Option ℕ). IfSome next (λ i. i ≡ c.args.ordinal + 1)) (sym c.question_step-step.ensures.listed_as.next)
    (step_counts c.args.sheet.now c.args.ordinal c.args.bytes.now)
