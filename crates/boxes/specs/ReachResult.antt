-- What a tested step and a reach of the code come to, in the terms of the definitions, and what they leave in the boxes that they
-- were lent.
use Rattle.std.specs.Prelude.{◌≡◌, Bool, true, false, List, ℕ, ℤ}
use Rattle.sheet_spec.specs.Slots.{vars}
use Rattle.machine_spec.specs.Box.{trim, hull}
use Rattle.std.specs.declared.result.Result.{Result}
use Rattle.std.specs.declared.result.Result.TheVariants.{Ok, Err}
use Rattle.boxes_spec.specs.Step.{ok, failed, exhausted, unsettled, unsafe, Step}
use Rattle.boxes_spec.specs.Step as defined
use Rattle.boxes_spec.specs.Reach.{Reached}
use Rattle.boxes_step.specs.declared.Covered.{Covered}
use Rattle.boxes_step.specs.declared.StepFault.{StepFault}
use Rattle.boxes_step.specs.declared.StepFault.TheVariants as fault
use Rattle.boxes.specs.declared.steps.ReachPlan.{ReachPlan}
use Rattle.boxes.specs.declared.steps.Stopped.{Stopped}
use Rattle.boxes.specs.declared.steps.Stopped.TheVariants.{Unsettled, Unsafe, Exhausted}
use Rattle.boxes.specs.ReachPlan.{lowest_on, tested_step_on, reach_on}

-- what a tested step and a reach of the code come to
abbrev pub Outcome : Type 0
Outcome = Result Covered Stopped

-- a step that did not settle stops a reach
abbrev pub stopped_of : StepFault → Stopped
stopped_of (fault.Unsettled c) = Unsettled c
stopped_of (fault.Exhausted c) = Exhausted c

-- what comes of steps: `value` is what they give over the ticks that they cover, and P is the swept box of the step that failed
unfoldable pub result_of : {A : Type 0} → (ℕ → A) → List ℤ → Outcome → defined.Result A
result_of value P (Ok r) = ok (value r.ticks) r.count
result_of value P (Err (Unsettled c)) = failed unsettled c
result_of value P (Err (Unsafe left number c)) = failed (unsafe left P) c
result_of value P (Err (Exhausted c)) = exhausted c

-- a tested step with the end box E and the swept box P
abbrev pub tested_step_of : List ℤ → List ℤ → Outcome → defined.Result Step
tested_step_of E P = result_of (λ t. record { ticks = t; end = E }) P

-- a reach with the end box E and the swept box W
abbrev pub reached_of : List ℤ → List ℤ → Outcome → defined.Result Reached
reached_of E W = result_of (λ t. record { end = E; swept = W }) W

unfoldable pub is_ended : Outcome → Bool
is_ended (Ok r) = true
is_ended (Err stopped) = false

-- the ticks that it covers, if it ended
unfoldable pub covered_of : Outcome → ℕ
covered_of (Ok r) = r.ticks
covered_of (Err stopped) = 0

-- if a no-go box was met, its number is j
unfoldable pub Names : ℕ → Outcome → Type 0
Names j (Ok r) = Unit {0}
Names j (Err (Unsettled c)) = Unit {0}
Names j (Err (Unsafe left number c)) = number ≡ j
Names j (Err (Exhausted c)) = Unit {0}

-- a step from A ended in B: the working box F is that too, and P is the swept box
pub record Arrived (n : ℕ) (A B F P : List ℤ) : Type 0 where
  pub work : F ≡ B
  pub swept : P ≡ hull n A B

-- a tested step from A answers r, and leaves the end box B, the working box F and the swept box P
pub record TestedDone (p : ReachPlan) (v : List ℤ) (left c : ℕ) (A : List ℤ) (r : Outcome) (B F P : List ℤ) : Type 0 where
  pub same : tested_step_of B P r ≡ tested_step_on p v A left c
  pub names : Names (lowest_on p v P) r
  pub arrived : is_ended r ≡ true → Arrived (vars v) A B F P
  pub trimmed : trim (vars v) B ≡ B

-- a reach of T ticks from A answers r, and leaves the end box B and the swept box W
pub record ReachDone (p : ReachPlan) (v : List ℤ) (T c : ℕ) (A : List ℤ) (r : Outcome) (B W : List ℤ) : Type 0 where
  pub same : reached_of B W r ≡ reach_on p v A T c
  pub names : Names (lowest_on p v W) r
  pub covered : is_ended r ≡ true → covered_of r ≡ T
  pub trimmed : trim (vars v) B ≡ B
