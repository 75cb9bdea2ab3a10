-- `is_clamped` compares with the end that the face goes towards. Assumes nothing.
use mir.Facts.{to_z-of_z}
use Rattle.std.proofs.Common.{w64, FitsSigned, neg_ℤ}
use Rattle.integers.proofs.Z.{bound_neg, fits64}
use Rattle.machine_spec.specs.Rate.{neutral}
use Rattle.boxes_arithmetic.specs.Outward.{no_further}
use Rattle.boxes_arithmetic.proofs.Bounds.{zero_less}
use Rattle.boxes_arithmetic.proofs.is_clamped.Goals as goal

pub overflow_sub-result : goal.overflow_sub-result
overflow_sub-result c = simp (to_z-of_z, c.ranges.most, zero_less) (fits64 (bound_neg c.requires) tt)

pub returns-then-up : goal.returns-then-up
unfolding no_further neutral
returns-then-up c = rw c.if-up.true (simp (to_z-of_z, c.ranges.most, c.ranges.x))

pub returns-else-up : goal.returns-else-up
unfolding no_further neutral
returns-else-up c =
    let fits : FitsSigned w64 (neg_ℤ c.args.most) = fits64 (bound_neg c.requires) tt in
    rw c.if-up.false (simp (to_z-of_z, c.ranges.most, c.ranges.x, zero_less, fits))
