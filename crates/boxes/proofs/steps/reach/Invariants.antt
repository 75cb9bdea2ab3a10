-- `reach`: what is left to do of the definition's steps, from the box, the ticks left and the count that the loop has; the working box
-- is the end box so far. Measure: the ticks left. Assumes nothing.
use Rattle.std.proofs.Common.{◌≡◌, ◌≤◌, ◌+◌, ◌*◌}
use Rattle.sheet_spec.specs.Slots.{vars}
use Rattle.machine_spec.specs.Box.{Sized, trim}
use Rattle.boxes_step.specs.Limits.{step_limit}
use Rattle.boxes_step.specs.Allowance.{is_limited, allowed}
use Rattle.boxes.specs.ReachPlan.{machine_on, clear_on}
use Rattle.boxes.proofs.Turn.{Reaching}
use Rattle.boxes.proofs.steps.reach.Given as goal

-- at the end box with `left` ticks left after `counted` rounds; path is the last step's swept box
abbrev pub invariant-loop-left : goal.invariant-loop-left
invariant-loop-left l = record {
  fewer : l.left ≤ l.ticks;
  counts : l.counted + 73 * l.left ≤ l.count + 73 * l.ticks;
  work : l.work ≡ l.end;
  trimmed : trim (vars l.sheet) l.end ≡ l.end;
  swept : trim (vars l.sheet) l.swept ≡ l.swept;
  path : trim (vars l.sheet) l.path ≡ l.path;
  sized : Sized (vars l.sheet) (step_limit l.left) l.end;
  reaching : Reaching (is_limited l.plan.allowance) (allowed l.plan.allowance) (machine_on l.plan l.sheet) (clear_on l.plan l.sheet) l.plan.width l.fn.end l.ticks l.count l.end l.swept l.left l.counted;
}

abbrev pub decreases-loop-left : goal.decreases-loop-left
decreases-loop-left l = l.left
