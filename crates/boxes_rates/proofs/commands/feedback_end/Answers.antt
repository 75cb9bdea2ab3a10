-- `feedback_end` gives an end of the commands of a plain law that follows the state: the law's sum over the box, divided and clamped to the safety
-- range. Assumes nothing.
use Rattle.std.proofs.Common.{rules, arith, ◌≡◌, ◌∙◌, sym, subst, ℕ, ◌+◌, List, ℤ, FitsSigned, w32, w64}
use lib.Dec.{lit≤}
use mir.Facts.{to_z-of_z}
use Rattle.integers.proofs.Z.{ints, from32, bound_in, bound_less, fits64}
use Rattle.sheet_spec.specs.Slots.{◌!◌, N, least_in_band, greatest_in_band, law_in_band, divisor_in_law, feedback_at}
use Rattle.machine_spec.specs.Rate.{law_over}
use Rattle.boxes_arithmetic.specs.Limits.{CommandAsked}
use Rattle.boxes_rates.specs.Limits.{FeedbackAsked}
use Rattle.boxes_rates.proofs.Ends.{end_at, clamp_near}
use Rattle.boxes_rates.proofs.commands.feedback_end.Goals as goal

-- the safety range and the divisor, by the band's slot
ends_asked : {n : ℕ} {v B : List ℤ} {at : ℕ} → FeedbackAsked n v B at → CommandAsked (v ! (at + least_in_band)) (v ! (at + greatest_in_band)) (v ! (at + law_in_band + (N + divisor_in_law)))
ends_asked {v} {at} asked =
    let wf = asked.sheet in
    let k = asked.slot.band in
    let h = asked.slot.among in
    let e : at + law_in_band + (N + divisor_in_law) ≡ at + law_in_band + N + divisor_in_law = omega arith in
    subst (λ (j : ℕ). CommandAsked (v ! (at + least_in_band)) (v ! (at + greatest_in_band)) (v ! j)) (sym e)
    (subst (λ (j : ℕ). CommandAsked (v ! (j + least_in_band)) (v ! (j + greatest_in_band)) (v ! (j + law_in_band + N + divisor_in_law))) (sym asked.slot.place)
    (record {
      least = bound_in (omega (ints, wf.commands_low, wf.safety_low k h)) (omega (ints, wf.safety k h, wf.safety_high k h, wf.commands_high));
      greatest = bound_in (omega (ints, wf.commands_low, wf.safety_low k h, wf.safety k h)) (omega (ints, wf.safety_high k h, wf.commands_high));
      ordered = wf.safety k h;
      divisor = (wf.laws asked.kind k h).q;
    }))

pub clamped_command-requires : goal.clamped_command-requires
clamped_command-requires c =
    let v = c.args.sheet.now in
    let at = c.args.band in
    let least : FitsSigned w32 (v ! (at + least_in_band)) = search rules in
    let greatest : FitsSigned w32 (v ! (at + greatest_in_band)) = search rules in
    let divisor : FitsSigned w32 (v ! (at + law_in_band + (N + divisor_in_law))) = search rules in
    simp (from32 least, from32 greatest, from32 divisor) (ends_asked c.requires)

pub returns : goal.returns
returns c =
    let v = c.args.sheet.now in
    let at = c.args.band in
    let least : FitsSigned w32 (v ! (at + least_in_band)) = search rules in
    let greatest : FitsSigned w32 (v ! (at + greatest_in_band)) = search rules in
    let divisor : FitsSigned w32 (v ! (at + law_in_band + (N + divisor_in_law))) = search rules in
    let sum = c.law_over-sum.ensures in
    let sum_fits : FitsSigned w64 (law_over c.args.up c.args.n (feedback_at v (at + law_in_band)) c.args.over.now) = fits64 (rw sum.0 at sum.1) tt in
    let asks = ends_asked c.requires in
    let fits : FitsSigned w64 c.clamped_command.result = search rules in
    rw (to_z-of_z fits) (record {
      same = λ k p. c.clamped_command.ensures
          ∙ simp (from32 least, from32 greatest, from32 divisor, sum.0, to_z-of_z, sum_fits)
          (end_at c.args.up v at c.args.n c.args.over.now k p c.requires.n_is);
      near = rw c.clamped_command.ensures
          (simp (from32 least, from32 greatest)
          (clamp_near _ (bound_less asks.least (lit≤ tt)) (bound_less asks.greatest (lit≤ tt)) asks.ordered));
    })
