-- Invariant: after i turns, the rates of the first i variables; the working box is as it was, and what is known of the commands over it is
-- right if the law follows the state. Measure: the variables left.
use Rattle.std.proofs.Common.{◌-◌, ◌≡◌, ◌≤◌, true, false}
use Rattle.sheet_spec.specs.Slots.{N}
use Rattle.machine_spec.specs.Box.{box_of}
use Rattle.machine_spec.specs.Machine.{machine, vars_of}
use Rattle.machine_spec.specs.Rate.{face_rate}
use Rattle.boxes_rates.specs.Known.{Known}
use Rattle.boxes_rates.proofs.rate.rates_of.Given as goal

abbrev pub invariant-loop-i : goal.invariant-loop-i
invariant-loop-i l = record {
  turns : l.i ≤ vars_of (machine l.sheet l.plant.law);
  room : vars_of (machine l.sheet l.plant.law) ≤ N;
  work : l.work ≡ l.fn.work;
  rated : l.face_rates ≡ box_of l.i (face_rate false (machine l.sheet l.plant.law) l.start l.ticks l.fn.work) (face_rate true (machine l.sheet l.plant.law) l.start l.ticks l.fn.work);
  known : l.follows ≡ true → Known (machine l.sheet l.plant.law) l.fn.work l.ends;
}

abbrev pub decreases-loop-i : goal.decreases-loop-i
decreases-loop-i l = l.plant.n - l.i
