-- What an attempt is asked, and what it and each of its phases come to in the code, in the terms of the definitions.
use Rattle.std.specs.Prelude.{◌≡◌, List, ℕ, ℤ}
use Rattle.sheet_spec.specs.Slots.{vars, boxes}
use Rattle.sheet_spec.specs.Box.{lowest_met}
use Rattle.machine_spec.specs.Box.{trim}
use Rattle.std.specs.declared.option.Option.{Option}
use Rattle.std.specs.declared.result.Result.{Result}
use Rattle.std.specs.declared.result.Result.TheVariants.{Ok, Err}
use Rattle.boxes_step.specs.Allowance.{is_limited, allowed}
use Rattle.boxes.specs.declared.steps.Stopped.{Stopped}
use Rattle.boxes.specs.declared.steps.Stopped.TheVariants as stopped
use Rattle.boxes.specs.ReachResult.{Outcome, reached_of, Names}
use Rattle.boxes_spec.specs.Step.{unsettled, unsafe, unrecovered, ok, failed, exhausted}
use Rattle.boxes_spec.specs.Step as step
use Rattle.decision_spec.specs.declared.Phase.{Phase}
use Rattle.decision_spec.specs.Decision.{attempt, phase_reach}
use Rattle.decision_attempt.specs.declared.Failure.{Failure}
use Rattle.decision_attempt.specs.declared.Failure.TheVariants.{Unsettled, Unsafe, Unrecovered}
use Rattle.decision_attempt.specs.declared.Fault.{Fault}
use Rattle.decision_attempt.specs.declared.Fault.TheVariants.{Failed, Exhausted}

-- the attempt of the phases ps that is asked for, on the sheet v from the box S
abbrev pub attempt_of : Option ℕ → List Phase → List ℤ → List ℤ → ℕ → ℕ → step.Result (List ℤ)
attempt_of allowance ps v S w c = attempt (is_limited allowance) (allowed allowance) v w ps S c

-- what an attempt of the code comes to
abbrev pub Attempted : Type 0
Attempted = Result ℕ Fault

-- a failure on the sheet v: of a swept box, the lowest number of a no-go box that it meets
unfoldable pub failure_of : List ℤ → step.Failure → Failure
failure_of v unsettled = Unsettled
failure_of v (unsafe left P) = Unsafe left (lowest_met (vars v) v (boxes v) P)
failure_of v unrecovered = Unrecovered

-- what a stage on the sheet v comes to, without its value
unfoldable pub summary : {A : Type 0} → List ℤ → step.Result A → Attempted
summary v (ok x c) = Ok c
summary v (failed why c) = Err (Failed (failure_of v why) c)
summary v (exhausted c) = Err (Exhausted c)

-- why an attempt did not succeed of which a reach stopped
abbrev pub fault_of : Stopped → Fault
fault_of (stopped.Unsettled c) = Failed Unsettled c
fault_of (stopped.Unsafe left number c) = Failed (Unsafe left number) c
fault_of (stopped.Exhausted c) = Exhausted c

-- the reach of a phase from A at the width w, after c rounds, answers r, and leaves the end box B and the swept box W
pub record PhaseDone (allowance : Option ℕ) (phase : Phase) (v A : List ℤ) (w c : ℕ) (r : Outcome) (B W : List ℤ) : Type 0 where
  pub same : reached_of B W r ≡ phase_reach (is_limited allowance) (allowed allowance) v w phase A c
  pub names : Names (lowest_met (vars v) v (boxes v) W) r
  pub trimmed : trim (vars v) B ≡ B
