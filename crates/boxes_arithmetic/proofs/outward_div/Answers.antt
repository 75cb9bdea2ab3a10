-- `outward_div` divides a dividend strictly between divisor·least and divisor·greatest: it is above the least times the divisor, and its negative
-- above the negative of the greatest times the divisor. Assumes nothing.
use Rattle.std.proofs.Common.{◌≡◌, sym, ap, ◌∙◌, Bool, rules, w64, FitsSigned, ℤ, neg_ℤ, nat_abs}
use mir.Facts.{to_z-of_z}
use Rattle.integers.specs.Division.{floor_div, ceil_div}
use Rattle.integers.proofs.Z.{bound_neg, fits64}
use Rattle.machine_spec.specs.Machine.{outward_div}
use Rattle.boxes_arithmetic.specs.Limits.{WithinAsked}
use Rattle.boxes_arithmetic.proofs.Bounds.{zero_less, ceil_bound}
use Rattle.boxes_arithmetic.proofs.Command.{dividend_near, above_least, above_greatest}
use Rattle.boxes_arithmetic.proofs.outward_div.Goals as goal

module _ {l h x q : ℤ} (asked : WithinAsked l h x q) where
  greatest_fits : FitsSigned w64 (neg_ℤ h)
  greatest_fits = fits64 (bound_neg asked.range.greatest) tt

  negative_fits : FitsSigned w64 (neg_ℤ x)
  negative_fits = fits64 (bound_neg (dividend_near asked.range asked.above asked.below)) tt

  ceiling_fits : FitsSigned w64 (ceil_div x (nat_abs q))
  ceiling_fits = fits64 (ceil_bound (nat_abs q) (dividend_near asked.range asked.above asked.below)) tt

-- the negative of the floor
turned : (x : ℤ) (q : ℤ) (r : ℤ) → r ≡ floor_div (neg_ℤ x) (nat_abs q) → neg_ℤ r ≡ ceil_div x (nat_abs q)
unfolding ceil_div
turned x q r e = ap neg_ℤ e

pub overflow_sub-greatest : goal.overflow_sub-greatest
overflow_sub-greatest c = simp (to_z-of_z, c.ranges.greatest, zero_less) (greatest_fits c.requires)

pub quotient_above-requires : goal.quotient_above-requires
quotient_above-requires c =
    let a = c.requires in
    simp (to_z-of_z, c.ranges.greatest, c.ranges.dividend, c.ranges.divisor, zero_less, greatest_fits a, negative_fits a)
    (above_greatest a.range a.above a.below)

pub overflow_sub-result : goal.overflow_sub-result
overflow_sub-result c =
    let a = c.requires in
    let fits : FitsSigned w64 c.quotient_above.result = search rules in
    let is = simp (to_z-of_z, c.ranges.dividend, c.ranges.divisor, zero_less, negative_fits a) at c.quotient_above.ensures in
    rw (to_z-of_z fits, zero_less, turned c.args.dividend c.args.divisor _ is) (ceiling_fits a)

pub quotient_above-requires-else-up : goal.quotient_above-requires-else-up
quotient_above-requires-else-up c =
    let a = c.requires in
    simp (to_z-of_z, c.ranges.least, c.ranges.dividend, c.ranges.divisor) (above_least a.range a.above a.below)

-- rounded up
pub returns-then-up : goal.returns-then-up
unfolding outward_div
returns-then-up c =
    let a = c.requires in
    let fits : FitsSigned w64 c.quotient_above.result = search rules in
    let is = simp (to_z-of_z, c.ranges.dividend, c.ranges.divisor, zero_less, negative_fits a) at c.quotient_above.ensures in
    rw (to_z-of_z fits, zero_less, turned c.args.dividend c.args.divisor _ is) (to_z-of_z (ceiling_fits a))
    ∙ ap (λ (b : Bool). outward_div b c.args.dividend (nat_abs c.args.divisor)) (sym c.if-up.true)

-- rounded down
pub returns-else-up : goal.returns-else-up
unfolding outward_div
returns-else-up c =
    let fits : FitsSigned w64 c.quotient_above-else-up.result = search rules in
    to_z-of_z fits ∙ (c.quotient_above-else-up.ensures ∙ simp (to_z-of_z, c.ranges.dividend, c.ranges.divisor)
    (ap (λ (b : Bool). outward_div b c.args.dividend (nat_abs c.args.divisor)) (sym c.if-up.false)))
