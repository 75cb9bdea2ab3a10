-- Runs that ask by readings (document 02, paper 1). Such a period is one with a question's bytes or with none, and the runs that ask so are safe
-- too. proofs/Asked proves both claims.
use Rattle.std.specs.Prelude.{◌≡◌, Bool, true, false, List, map, ℕ, suc, ◌+◌, ◌*◌, ◌<◌, T, ℤ, get_or, length}
use Rattle.std.proofs.Math.Option.{none, some}
use Rattle.sheet_spec.specs.Slots.{◌!◌, vars, δ, recovery_box}
use Rattle.sheet_spec.specs.Refusals.{unless_refused}
use Rattle.sheet_spec.specs.Sheet.{values}
use Rattle.machine_spec.specs.Box.{In}
use Rattle.machine_spec.specs.declared.Law.{Law}
use Rattle.machine_spec.specs.declared.Law.TheVariants.{Baseline}
use Rattle.machine_spec.specs.Machine.{machine, Tick}
use Rattle.readings_spec.specs.declared.Reading.{Reading}
use Rattle.readings_spec.specs.Reading.{reading_at, readings_refusal}
use Rattle.readings_spec.specs.Allowed.{Allows}
use Rattle.decision_spec.specs.Question.{measured, question_head}
use Rattle.decision_spec.specs.Decision.{is_keep, decide, check_recovery}
use Rattle.decision_spec.specs.Readings.{as_bytes, decide_readings}
use Rattle.safety.specs.Run.{Period, kept, period_law, Safe}

-- ---- a period

-- what it asks: nothing, by a question's bytes, or by the bytes before the pairs and a reading of each variable
pub data Asked : Type 0 where
  nothing : Asked
  bytes : List ℕ → Asked
  readings : List ℕ → List Reading → Asked

-- the decision is keep
unfoldable pub asked_kept : List ℕ → Asked → Bool
asked_kept f nothing = false
asked_kept f (bytes g) = is_keep (decide f g)
asked_kept f (readings h rs) = is_keep (decide_readings f h rs)

-- the law that acts at each tick: if kept, the span of commands that the bytes say, else the plain law
unfoldable pub asked_law : List ℕ → Asked → Law
asked_law f nothing = Baseline
asked_law f (bytes g) = elim (asked_kept f (bytes g)) [ true ↦ (question_head g).law | false ↦ Baseline ]
asked_law f (readings h rs) = elim (asked_kept f (readings h rs)) [ true ↦ (question_head h).law | false ↦ Baseline ]

-- if kept, the measured box holds the state, or each reading allows the true value of its variable (a whole number, over 1)
unfoldable pub AskedMeasured : List ℕ → Asked → List ℤ → Type 0
AskedMeasured f nothing x = Unit {0}
AskedMeasured f (bytes g) x = T (asked_kept f (bytes g)) → In (vars (values f)) (measured (vars (values f)) g) x
AskedMeasured f (readings h rs) x = T (asked_kept f (readings h rs)) → (i : ℕ) → i < vars (values f) → Allows (reading_at rs i) (x ! i) 1

-- ---- as a period of Run, with a question's bytes or with none

-- readings that are refused ask nothing; others ask by the bytes of the box that they give
unfoldable pub as_period : List ℕ → Asked → Period
as_period f nothing = none
as_period f (bytes g) = some g
as_period f (readings h rs) = unless_refused (readings_refusal (vars (values f)) rs) (λ r. none) (some (as_bytes (values f) h rs))

-- on every sheet, whatever is asked: it is kept where that period is, and the same law acts
abbrev pub SamePeriod : Type 0
SamePeriod = (f : List ℕ) (a : Asked) → (asked_kept f a ≡ kept f (as_period f a)) × (asked_law f a ≡ period_law f (as_period f a))

-- ---- a run

-- x 0, x 1, .. are the states of a run over the periods: tick i of period p goes by the law of the period
pub record AskedRun (f : List ℕ) (periods : List Asked) (x : ℕ → List ℤ) : Type 0 where
  pub starts : length (x 0) ≡ vars (values f)
  pub ticks : (p i : ℕ) → p < length periods → i < δ (values f)
      → Tick (machine (values f) (asked_law f (get_or periods p nothing))) (x (p * δ (values f) + i)) (x (suc (p * δ (values f) + i)))
  pub measured : (p : ℕ) → p < length periods → AskedMeasured f (get_or periods p nothing) (x (p * δ (values f)))

-- demand 3 where periods may ask by readings: with the premises of SafeRuns, every run is safe
abbrev pub SafeAskedRuns : Type 0
SafeAskedRuns =
    (f : List ℕ) → T (is_keep (check_recovery f))
    → (periods : List Asked) (x : ℕ → List ℤ) → In (vars (values f)) (recovery_box (values f)) (x 0) → AskedRun f periods x → Safe f (map (as_period f) periods) x
