-- `attempt`: what is left to do of the definition's phases, from the box and the count that the loop has. Assumes nothing.
use Rattle.std.proofs.Common.{◌≡◌, drop}
use Rattle.sheet_spec.specs.Slots.{vars}
use Rattle.machine_spec.specs.Box.{trim}
use Rattle.boxes_step.specs.Allowance.{is_limited, allowed}
use Rattle.decision_attempt.proofs.Turn.{Following}
use Rattle.decision_attempt.proofs.attempt.Given as goal

-- after the first `phase-index` phases, at the box `end` and after `counted` rounds
abbrev pub invariant-loop-phase : goal.invariant-loop-phase
invariant-loop-phase l = record {
  trimmed : trim (vars l.sheet) l.end ≡ l.end;
  following : Following (is_limited l.allowance) (allowed l.allowance) l.sheet l.width l.phases l.start l.count (drop l.phase-index l.phases) l.end l.counted;
}
