-- One lifted step (document 01, "One lifted step"): rounds, settling, halving. All of it computes.
use Rattle.std.specs.Prelude.{Bool, true, false, ◌&&◌, List, ℕ, zero, suc, ◌+◌, ◌-◌, ◌/◌, leb, eqb, ℤ}
use Rattle.machine_spec.specs.Box.{hull, within, moved}
use Rattle.machine_spec.specs.Machine.{Machine, vars_of}
use Rattle.machine_spec.specs.Rate.{rates}

-- ---- a round of a step of `ticks` ticks (document 01: length k) from the box S, with the working box E

-- M: the hull of start and of start with each face moved by `ticks` − 1 rates
unfoldable pub lifted : Machine → List ℤ → ℕ → List ℤ → List ℤ
lifted m S ticks E = hull (vars_of m) S (moved (vars_of m) S (ticks - 1) (rates m S ticks E))

unfoldable pub settles : Machine → List ℤ → ℕ → List ℤ → Bool
settles m S ticks E = within (vars_of m) (lifted m S ticks E) E

-- the end box of a step that settles: start moved by `ticks` rates
unfoldable pub end_box : Machine → List ℤ → ℕ → List ℤ → List ℤ
end_box m S ticks E = moved (vars_of m) S ticks (rates m S ticks E)

-- the next working box
unfoldable pub grown : Machine → List ℤ → ℕ → List ℤ → List ℤ
grown m S ticks E = hull (vars_of m) E (lifted m S ticks E)

-- ---- what a stage gives, with the count of rounds after it

-- why an attempt fails
pub data Failure : Type 0 where
  -- no length settled; it does not happen
  unsettled : Failure
  -- a swept box shares a state with a no-go box: the ticks left when its step began, and that swept box
  unsafe : ℕ → List ℤ → Failure
  -- the last end box is not within the recovery box
  unrecovered : Failure

-- a value, a failure, or no round left
pub data Result (A : Type 0) : Type 0 where
  ok : A → ℕ → Result A
  failed : Failure → ℕ → Result A
  exhausted : ℕ → Result A

-- go on if there is a value
unfoldable pub and_then : {A B : Type 0} → Result A → (A → ℕ → Result B) → Result B
and_then (ok a c) next = next a c
and_then (failed w c) next = failed w c
and_then (exhausted c) next = exhausted c

-- try another way where it failed
unfoldable pub retry : {A : Type 0} → Result A → (ℕ → Result A) → Result A
retry (ok a c) next = ok a c
retry (failed w c) next = next c
retry (exhausted c) next = exhausted c

-- a round is due and none is left: there is an allowance, and the count equals it
unfoldable pub is_exhausted : Bool → ℕ → ℕ → Bool
is_exhausted limited allowance c = limited && eqb c allowance

-- ---- the step

pub record Step : Type 0 where
  pub ticks : ℕ
  pub end : List ℤ

-- an allowance (if `limited`), a machine, the start box
module _ (limited : Bool) (allowance : ℕ) (m : Machine) (S : List ℤ) where
  -- up to `left` rounds of `ticks` ticks with the working box E
  unfoldable pub rounds : ℕ → ℕ → List ℤ → ℕ → Result Step
  rounds ticks zero E c = failed unsettled c
  rounds ticks (suc left) E c =
      elim (is_exhausted limited allowance c) [
        | true ↦ exhausted c
        | false ↦
            elim (settles m S ticks E) [
              | true ↦ ok (record { ticks = ticks; end = end_box m S ticks E }) (c + 1)
              | false ↦ rounds ticks left (grown m S ticks E) (c + 1)
            ]
      ]

  -- eight rounds of `ticks` ticks, then of half of them rounded down, and so on to 1. The fuel is not used up if it is at least `ticks`
  unfoldable pub halving : ℕ → ℕ → ℕ → Result Step
  halving zero ticks c = failed unsettled c
  halving (suc fuel) ticks c = retry (rounds ticks 8 S c) (λ c'. elim (leb ticks 1) [ true ↦ failed unsettled c' | false ↦ halving fuel (ticks / 2) c' ])

  unfoldable pub step : ℕ → ℕ → Result Step
  step ticks c = halving ticks ticks c

-- the swept box of a settled step from S
unfoldable pub swept : Machine → List ℤ → Step → List ℤ
swept m S t = hull (vars_of m) S t.end
