-- `grow`: after i turns, the first i variables are tested and joined. Assumes nothing.
use Rattle.std.proofs.Common.{◌≡◌}
use Rattle.machine_spec.specs.Box.{hull, moved, within}
use Rattle.boxes_shape.proofs.Turn.{joined}
use Rattle.boxes_shape.proofs.motion.grow.Given as goal

abbrev pub invariant-loop-i : goal.invariant-loop-i
invariant-loop-i l = record {
  test : l.inside ≡ within l.i (hull l.n l.start (moved l.n l.start l.ticks l.rates)) l.initial.work;
  joined : l.work ≡ joined l.i l.initial.work (hull l.n l.start (moved l.n l.start l.ticks l.rates));
}
