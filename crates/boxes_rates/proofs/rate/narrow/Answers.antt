-- `narrow` cuts the working box off at its reach from the start's face. Assumes nothing.
use Rattle.std.proofs.Common.{refl, rules, true, false, FitsSigned, w64, ◌+ℤ◌, ◌-ℤ◌}
use mir.Facts.{to_z-of_z}
use Rattle.integers.proofs.Z.{bound_sum, bound_sub, fits64}
use Rattle.sheet_spec.specs.Box.{lo, hi}
use Rattle.machine_spec.specs.Rate.{neighborhood}
use Rattle.boxes_arithmetic.proofs.Order.{int_min_is, int_max_is}
use Rattle.boxes_rates.proofs.rate.narrow.Goals as goal

pub overflow_sub-start : goal.overflow_sub-start
overflow_sub-start c =
    let side : FitsSigned w64 (hi c.args.start.now c.args.i) = search rules in
    let cut : FitsSigned w64 (hi c.args.start.now c.args.i -ℤ c.args.reach) = fits64 (bound_sub (c.requires.start true) c.requires.near) tt in
    simp (to_z-of_z, c.ranges.reach, side) cut

pub overflow_add-start : goal.overflow_add-start
overflow_add-start c =
    let side : FitsSigned w64 (lo c.args.start.now c.args.i) = search rules in
    let cut : FitsSigned w64 (lo c.args.start.now c.args.i +ℤ c.args.reach) = fits64 (bound_sum (c.requires.start false) c.requires.near) tt in
    simp (to_z-of_z, c.ranges.reach, side) cut

-- an upper face
pub returns-then-up : goal.returns-then-up
unfolding neighborhood
returns-then-up c =
    let side : FitsSigned w64 (hi c.args.start.now c.args.i) = search rules in
    let old : FitsSigned w64 (lo c.args.work.now c.args.i) = search rules in
    let cut : FitsSigned w64 (hi c.args.start.now c.args.i -ℤ c.args.reach) = fits64 (bound_sub (c.requires.start true) c.requires.near) tt in
    let new : FitsSigned w64 c.max.result = search rules in
    let is = simp (to_z-of_z, c.ranges.reach, cut, side, old) at c.max.ensures.value in
    rw (c.if-up.true, to_z-of_z new, is, int_max_is (lo c.args.work.now c.args.i) (hi c.args.start.now c.args.i -ℤ c.args.reach)) refl

-- a lower face
pub returns-else-up : goal.returns-else-up
unfolding neighborhood
returns-else-up c =
    let side : FitsSigned w64 (lo c.args.start.now c.args.i) = search rules in
    let old : FitsSigned w64 (hi c.args.work.now c.args.i) = search rules in
    let cut : FitsSigned w64 (lo c.args.start.now c.args.i +ℤ c.args.reach) = fits64 (bound_sum (c.requires.start false) c.requires.near) tt in
    let new : FitsSigned w64 c.min.result = search rules in
    let is = simp (to_z-of_z, c.ranges.reach, cut, side, old) at c.min.ensures.value in
    rw (c.if-up.false, to_z-of_z new, is, int_min_is (hi c.args.work.now c.args.i) (lo c.args.start.now c.args.i +ℤ c.args.reach)) refl
