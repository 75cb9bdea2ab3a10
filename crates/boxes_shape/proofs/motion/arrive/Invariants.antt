-- `arrive`: after i turns, the first i variables are moved on. Assumes nothing.
use Rattle.boxes_shape.proofs.Arrival.{Arriving}
use Rattle.boxes_shape.proofs.motion.arrive.Given as goal

abbrev pub invariant-loop-i : goal.invariant-loop-i
invariant-loop-i l = Arriving l.initial.at l.ticks l.rates l.initial.work l.initial.path l.at l.work l.path l.i
