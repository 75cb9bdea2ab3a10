-- `put_sides` puts the sides of a box's variables into an array: after i turns, those of the first i. Assumes nothing.
use Rattle.std.proofs.Common.{◌≡◌}
use Rattle.std.proofs.lemmas.List.Edits.{sets}
use Rattle.decision_spec.specs.Numbers.{sides_of}
use Rattle.guard_reach.proofs.numbers.put_sides.Given as goal

abbrev pub invariant-loop-i : goal.invariant-loop-i
invariant-loop-i l = l.v ≡ sets l.fn.v l.at (sides_of l.i l.b)
