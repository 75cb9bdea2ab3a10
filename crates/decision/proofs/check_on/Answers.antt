-- `check_on`: the attempts of the phase are the definition's, and no allowance stops them. Assumes nothing.
use Rattle.std.proofs.Common.{◌≡◌, ℕ, sym, ap, ◌∙◌, arith, List, ℤ}
use Rattle.sheet_spec.specs.Slots.{vars, recovery_box}
use Rattle.machine_spec.specs.Box.{trim}
use Rattle.machine_spec.proofs.InPlace.{trim_as}
use Rattle.machine_spec.proofs.Ranges.{sized_as}
use Rattle.decision_spec.specs.Decision.{ticks_of}
use Rattle.boxes_spec.proofs.Ranges.{recovery_sized}
use Rattle.decision_spec.proofs.Allowance.{recovery_of_unspent}
use Rattle.decision_answers.proofs.Unspent.{as_check_unspent}
use Rattle.decision.proofs.Answer.{plan_checks}
use Rattle.decision.proofs.check_on.Goals as goal

-- the box at the recovery box's place, of as many variables as the sheet has
start : (v : List ℤ) {n : ℕ} {box : List ℤ} → box ≡ trim n (recovery_box v) → n ≡ vars v → box ≡ trim (vars v) (recovery_box v)
start v box_is n_is = box_is ∙ ap (λ (n : ℕ). trim n (recovery_box v)) n_is

pub attempts-requires : goal.attempts-requires
unfolding ticks_of
attempts-requires c =
    let sheet = c.requires.0 in
    let trimmed = c.requires.1 in
    let start_is = start c.args.sheet.now c.box_at-recovery.ensures c.count.ensures ∙ trimmed in
    let ρ_is = c.count-ticks.ensures in
    record {
      sheet = sheet;
      start = sized_as start_is (recovery_sized sheet);
      trimmed = trim_as _ start_is trimmed;
      phases = omega arith;
      laws = (tt, tt);
      ticks = omega (arith, ρ_is, sheet.ρ_high);
      some = omega (arith, ρ_is, sheet.ρ_low);
      most = omega (arith, ρ_is, sheet.ρ_high);
    }

pub returns : goal.returns
returns c =
    let start_is = start c.args.sheet.now c.box_at-recovery.ensures c.count.ensures ∙ c.requires.1 in
    let answered = c.attempts.ensures ∙ plan_checks c.args.sheet.now start_is c.count-ticks.ensures in
    c.from.ensures ∙ as_check_unspent _ (λ w d e. recovery_of_unspent c.requires.0 (sym answered ∙ e)) ∙ answered
