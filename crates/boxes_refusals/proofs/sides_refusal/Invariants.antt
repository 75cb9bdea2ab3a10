-- `sides_refusal`: the sides of the first i variables are in range. Measure: the variables left. Assumes nothing.
use Rattle.std.proofs.Common.{◌≡◌, ◌≤◌, ◌-◌}
use Rattle.boxes_spec.specs.Reach.{sides_refusal}
use Rattle.boxes_refusals.proofs.sides_refusal.Given as goal

abbrev pub invariant-loop-i : goal.invariant-loop-i
invariant-loop-i l = sides_refusal l.i l.start ≡ 0
