-- `rounds`: what is left to do of the definition's rounds, from the working box and the count that the loop has.
-- Assumes nothing.
use Rattle.std.proofs.Common.{◌≡◌, ◌+◌, ◌≤◌, true}
use Rattle.sheet_spec.specs.Limits.{max_cap, max_edge}
use Rattle.sheet_spec.specs.Slots.{vars}
use Rattle.machine_spec.specs.Box.{Near, trim, within}
use Rattle.machine_spec.specs.Machine.{machine}
use Rattle.boxes_step.specs.Allowance.{is_limited, allowed}
use Rattle.boxes_step.proofs.Turn.{Rounding}
use Rattle.boxes_step.proofs.rounds.Given as goal

abbrev pub invariant-loop : goal.invariant-loop
invariant-loop l = record {
  counts : l.counted ≤ l.count + l.counter;
  trimmed : trim (vars l.sheet) l.work ≡ l.work;
  rates : Near (vars l.sheet) max_cap l.face_rates;
  holds : within (vars l.sheet) l.start l.work ≡ true;
  near : Near (vars l.sheet) max_edge l.work;
  rounding : Rounding (is_limited l.allowance) (allowed l.allowance) (machine l.sheet l.plant.law) l.start l.ticks l.count l.counter l.work l.counted;
  first : l.ticks ≡ 1 → l.work ≡ l.start;
}
