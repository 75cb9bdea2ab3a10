-- `quotient_above` rounds down: the dividend is moved by the base times the divisor, so that it is not negative and 32 bits hold it, and the
-- quotient is moved back. Assumes nothing.
use mir.Facts.{to_z-of_z, to_z_pos}
use Rattle.std.proofs.Common.{◌≡◌, ◌/◌, arith, w64, FitsSigned, to_z, ℤ, pos, nat_abs, ◌+ℤ◌, ◌-ℤ◌, ◌*ℤ◌}
use Rattle.integers.specs.Bound.{Bound}
use Rattle.integers.proofs.Z.{bound_sum, fits64}
use Rattle.boxes_arithmetic.specs.Limits.{AboveAsked}
use Rattle.boxes_arithmetic.proofs.Quotient.{widest, unsigned, quotient_bound, base_bound, moved_low, moved_bound, moved_back}
use Rattle.boxes_arithmetic.proofs.quotient_above.Goals as goal

module _ {base x q : ℤ} (asked : AboveAsked base x q) where
  base_fits : FitsSigned w64 (q *ℤ base)
  base_fits = fits64 (base_bound asked) tt

  moved_fits : FitsSigned w64 (x -ℤ q *ℤ base)
  moved_fits = fits64 (moved_bound asked) tt

  -- the quotient of the moved dividend
  quotient_near : Bound (pos (nat_abs (x -ℤ q *ℤ base) / nat_abs q)) widest
  quotient_near = quotient_bound (nat_abs q) (moved_bound asked)

  -- as 64 bits
  wide : to_z w64 (nat_abs (x -ℤ q *ℤ base) / nat_abs q) ≡ pos (nat_abs (x -ℤ q *ℤ base) / nat_abs q)
  wide = to_z_pos w64 (omega (arith, quotient_near.at_most))

  back_fits : FitsSigned w64 (pos (nat_abs (x -ℤ q *ℤ base) / nat_abs q) +ℤ base)
  back_fits = fits64 (bound_sum quotient_near asked.near) tt

pub overflow_sub-moved : goal.overflow_sub-moved
overflow_sub-moved c =
    let a = c.requires in
    simp (to_z-of_z, c.ranges.dividend, c.ranges.divisor, c.ranges.base, base_fits a) (moved_fits a)

pub overflow_cast-quotient : goal.overflow_cast-quotient
overflow_cast-quotient c =
    let a = c.requires in
    simp (to_z-of_z, c.ranges.dividend, c.ranges.divisor, c.ranges.base, base_fits a, moved_fits a)
    (unsigned (c.args.dividend -ℤ c.args.divisor *ℤ c.args.base) (moved_low a) (moved_bound a))

pub overflow_add-result : goal.overflow_add-result
overflow_add-result c =
    let a = c.requires in
    simp (to_z-of_z, c.from.ensures, c.ranges.dividend, c.ranges.divisor, c.ranges.base, base_fits a, moved_fits a, wide a)
    (back_fits a)

pub returns : goal.returns
returns c =
    let a = c.requires in
    simp (to_z-of_z, c.from.ensures, c.ranges.dividend, c.ranges.divisor, c.ranges.base, base_fits a, moved_fits a, wide a, back_fits a)
    (moved_back c.args.base c.args.dividend c.args.divisor a.divisor.low (moved_low a))
