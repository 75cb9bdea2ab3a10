-- `step`: what is left to do of the definition's halving, from the length and the count that the loop has; the working box is the start box.
-- Measure: the length. Assumes nothing.
use Rattle.std.proofs.Common.{◌≡◌, ◌+◌, ◌*◌, ◌≤◌}
use Rattle.sheet_spec.specs.Limits.{max_cap}
use Rattle.sheet_spec.specs.Slots.{vars}
use Rattle.machine_spec.specs.Box.{Near}
use Rattle.machine_spec.specs.Machine.{machine}
use Rattle.boxes_step.specs.Allowance.{is_limited, allowed}
use Rattle.boxes_step.proofs.Turn.{Halving}
use Rattle.boxes_step.proofs.step.Given as goal

abbrev pub invariant-loop-after : goal.invariant-loop-after
invariant-loop-after l = record {
  shorter : l.ticks ≤ l.width;
  counts : l.counted + 8 * l.ticks ≤ l.count + 8 * l.width;
  work : l.work ≡ l.start;
  rates : Near (vars l.sheet) max_cap l.face_rates;
  halving : Halving (is_limited l.allowance) (allowed l.allowance) (machine l.sheet l.plant.law) l.start l.width l.count l.ticks l.counted;
}

abbrev pub decreases-loop-after : goal.decreases-loop-after
decreases-loop-after l = l.ticks
