-- `sheet_step` is the sheet's step over the recovery check's answer. Assumes nothing.
use Rattle.std.proofs.Common.{refl, ap, ◌∙◌}
use Rattle.std.specs.Bool.{then_some}
use Rattle.decision_spec.specs.Decision.{is_keep}
use Rattle.decision_spec.specs.Listing.{sheet_line}
use Rattle.listing.specs.ListingSteps.{sheet_step}
use Rattle.listing.proofs.sheet_step.Goals as goal

pub returns : goal.returns
unfolding sheet_step sheet_line
returns c =
    let e = c.check_recovery-recovery.ensures in
    record {
      line = rw e at c.put_sheet_line.ensures;
      taken = refl;
      next = c.then_some.ensures ∙ ap (λ b. then_some b 1) (c.has_passed.ensures ∙ ap is_keep e);
    }
