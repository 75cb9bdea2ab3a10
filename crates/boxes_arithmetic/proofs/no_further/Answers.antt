-- `no_further` compares by the face's direction. Assumes nothing.
use mir.Facts.{to_z-of_z}
use Rattle.boxes_arithmetic.specs.Outward.{no_further}
use Rattle.boxes_arithmetic.proofs.no_further.Goals as goal

pub returns-then-up : goal.returns-then-up
unfolding no_further
returns-then-up c = rw c.if-up.true (simp (to_z-of_z, c.ranges.z, c.ranges.x))

pub returns-else-up : goal.returns-else-up
unfolding no_further
returns-else-up c = rw c.if-up.false (simp (to_z-of_z, c.ranges.z, c.ranges.x))
