-- What rounds and a step of the code come to, in the terms of the definitions, and what they leave in the boxes that they were lent.
use Rattle.std.specs.Prelude.{◌≡◌, Bool, false, List, ℕ, ℤ}
use Rattle.sheet_spec.specs.Limits.{max_cap}
use Rattle.machine_spec.specs.Box.{Near, trim, moved}
use Rattle.machine_spec.specs.Machine.{Machine, vars_of}
use Rattle.machine_spec.specs.Rate.{rates}
use Rattle.std.specs.declared.result.Result.{Result}
use Rattle.std.specs.declared.result.Result.TheVariants.{Ok, Err}
use Rattle.boxes_step.specs.declared.Covered.{Covered}
use Rattle.boxes_step.specs.declared.StepFault.{StepFault}
use Rattle.boxes_step.specs.declared.StepFault.TheVariants.{Unsettled, Exhausted}
use Rattle.boxes_spec.specs.Step.{ok, failed, exhausted, unsettled, settles, grown, Step}
use Rattle.boxes_spec.specs.Step as defined

-- what rounds and a step of the code come to
abbrev pub Stepped : Type 0
Stepped = Result Covered StepFault

-- rounds or a step from the box S, with the rates R of the last round
unfoldable pub step_of : ℕ → List ℤ → List ℤ → Stepped → defined.Result Step
step_of n S R (Ok s) = ok (record { ticks = s.ticks; end = moved n S s.ticks R }) s.count
step_of n S R (Err (Unsettled c)) = failed unsettled c
step_of n S R (Err (Exhausted c)) = exhausted c

-- a round of T ticks from S with the working box E answers whether it settles, and leaves the rates R and the working box F
pub record RoundDone (m : Machine) (S : List ℤ) (T : ℕ) (E : List ℤ) (answer : Bool) (F R : List ℤ) : Type 0 where
  pub settled : answer ≡ settles m S T E
  pub rated : R ≡ rates m S T E
  pub grew : answer ≡ false → F ≡ grown m S T E
  pub trimmed : trim (vars_of m) F ≡ F

-- rounds from S that are to give `result` answer r, and leave the rates R and the working box F
pub record StepDone (n : ℕ) (S : List ℤ) (result : defined.Result Step) (r : Stepped) (F R : List ℤ) : Type 0 where
  pub same : step_of n S R r ≡ result
  pub trimmed : trim n F ≡ F
  pub rates : Near n max_cap R
