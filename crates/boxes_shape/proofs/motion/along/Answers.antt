-- `along` gives a side moved by its rate for a number of ticks. Assumes nothing.
use mir.Facts.{to_z-of_z, to_z_pos}
use Rattle.std.proofs.Common.{◌≡◌, ℕ, ◌*◌, arith, w64, FitsSigned, to_z, ℤ, pos, ◌+ℤ◌, ◌*ℤ◌}
use Rattle.integers.specs.Bound.{Bound}
use Rattle.integers.proofs.Z.{bound_lit, bound_less, bound_sum, bound_mul, fits64}
use Rattle.sheet_spec.specs.Limits.{max_ticks, max_cap}
use Rattle.boxes_shape.specs.Limits.{SideMovable}
use Rattle.boxes_shape.proofs.motion.along.Goals as goal

module _ {side : ℤ} {ticks : ℕ} {rate : ℤ} (asked : SideMovable side ticks rate) where
  moved_bound : Bound (pos ticks *ℤ rate) (max_ticks * max_cap)
  moved_bound = bound_mul {B = max_ticks} (bound_less (bound_lit (pos ticks)) (omega (arith, asked.ticks))) asked.rate

  moved_fits : FitsSigned w64 (pos ticks *ℤ rate)
  moved_fits = fits64 moved_bound tt

  sum_fits : FitsSigned w64 (side +ℤ pos ticks *ℤ rate)
  sum_fits = fits64 (bound_sum asked.side moved_bound) tt

pub returns : goal.returns
returns c =
    let ticks_are : to_z w64 c.args.ticks ≡ pos c.args.ticks = to_z_pos w64 (omega (arith, c.requires.ticks)) in
    simp (ticks_are, to_z-of_z, c.ranges.rate, c.ranges.side, moved_fits c.requires, sum_fits c.requires)
