-- `join`: after i turns, the first i variables are joined. Assumes nothing.
use Rattle.std.proofs.Common.{◌≡◌}
use Rattle.boxes_shape.proofs.Turn.{joined}
use Rattle.boxes_shape.proofs.motion.join.Given as goal

abbrev pub invariant-loop-i : goal.invariant-loop-i
invariant-loop-i l = l.out ≡ joined l.i l.initial.out l.other
