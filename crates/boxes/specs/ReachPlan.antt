-- What a reach of the code is asked, in the terms of the definitions.
use Rattle.std.specs.Prelude.{Bool, List, ℕ, ℤ}
use Rattle.sheet_spec.specs.Slots.{vars}
use Rattle.sheet_spec.specs.Box.{lowest_met, clear}
use Rattle.machine_spec.specs.Machine.{Machine, machine}
use Rattle.boxes_spec.specs.Step.{Result, Step}
use Rattle.boxes_spec.specs.Reach.{Reached, tested_step, reach}
use Rattle.boxes_step.specs.Allowance.{is_limited, allowed}
use Rattle.boxes.specs.declared.steps.ReachPlan.{ReachPlan}

-- the plan's machine on the sheet v, its test of a swept box, and the lowest number of a no-go box that a swept box meets
abbrev pub machine_on : ReachPlan → List ℤ → Machine
machine_on p v = machine v p.plant.law

abbrev pub clear_on : ReachPlan → List ℤ → List ℤ → Bool
clear_on p v = clear (vars v) v p.boxes

abbrev pub lowest_on : ReachPlan → List ℤ → List ℤ → ℕ
lowest_on p v = lowest_met (vars v) v p.boxes

-- a tested step from S with `left` ticks left, after c rounds
abbrev pub tested_step_on : ReachPlan → List ℤ → List ℤ → ℕ → ℕ → Result Step
tested_step_on p v S left c = tested_step (is_limited p.allowance) (allowed p.allowance) (machine_on p v) (clear_on p v) p.width S left c

-- a reach of `ticks` ticks from S, after c rounds
abbrev pub reach_on : ReachPlan → List ℤ → List ℤ → ℕ → ℕ → Result Reached
reach_on p v S ticks c = reach (is_limited p.allowance) (allowed p.allowance) (machine_on p v) (clear_on p v) p.width S ticks c
