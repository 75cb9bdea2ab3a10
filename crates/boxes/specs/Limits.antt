-- How far the numbers go that the code is given, and what it asks of its caller.
use Rattle.std.specs.Prelude.{◌≡◌, List, ℕ, ◌+◌, ◌*◌, ◌≤◌, ◌<◌, ℤ}
use Rattle.sheet_spec.specs.Limits.{max_boxes, max_ticks, max_width}
use Rattle.sheet_spec.specs.Slots.{vars}
use Rattle.machine_spec.specs.Box.{Sized, trim}
use Rattle.boxes_rates.specs.Plant.{Describes}
use Rattle.boxes_step.specs.Limits.{step_limit, count_limit}
use Rattle.boxes.specs.declared.steps.ReachPlan.{ReachPlan}

-- the plan can be followed on the sheet v
pub record Followable (p : ReachPlan) (v : List ℤ) : Type 0 where
  pub plant : Describes p.plant v
  pub boxes : p.boxes ≤ max_boxes
  pub some : 0 < p.width
  pub most : p.width ≤ max_width

-- a tested step from A with `left` ticks left, after c rounds; the working box E and the swept box P are lent
pub record TestedAsked (p : ReachPlan) (v : List ℤ) (left c : ℕ) (A E P : List ℤ) : Type 0 where
  pub plan : Followable p v
  pub due : 0 < left
  pub counts : c + 8 * p.width ≤ count_limit
  pub start : Sized (vars v) (step_limit left) A
  pub trimmed : trim (vars v) A ≡ A
  pub work : E ≡ A
  pub swept : trim (vars v) P ≡ P

-- a reach of T ticks from A, after c rounds
pub record ReachAsked (p : ReachPlan) (v : List ℤ) (T c : ℕ) (A : List ℤ) : Type 0 where
  pub plan : Followable p v
  pub ticks : T ≤ max_ticks
  pub counts : c + 73 * T + 8 * p.width ≤ count_limit
  pub start : Sized (vars v) (step_limit T) A
  pub trimmed : trim (vars v) A ≡ A
