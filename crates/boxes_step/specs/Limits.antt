-- How far the numbers go that the code is given, and what it asks of its caller.
use Rattle.std.specs.Prelude.{◌≡◌, true, List, ℕ, ◌+◌, ◌*◌, ◌-◌, ◌≤◌, ◌<◌, ℤ}
use Rattle.sheet_spec.specs.Limits.{max_ticks, max_cap, max_edge}
use Rattle.sheet_spec.specs.Slots.{vars}
use Rattle.machine_spec.specs.Box.{Near, Ordered, Sized, trim, within}
use Rattle.boxes_rates.specs.declared.Plant.{Plant}
use Rattle.boxes_rates.specs.Plant.{Describes}

-- how far the sides of a box go with T ticks to come: no working box then goes below the first edge
abbrev pub step_limit : ℕ → ℕ
step_limit T = max_edge - T * max_cap

-- a count fits 32 bits: a reach adds at most 73 rounds a tick, and a step at most 8 times its width
abbrev pub count_limit : ℕ
count_limit = 4294967295

-- a round of T ticks from the box S with the working box E
pub record RoundAsked (p : Plant) (v S : List ℤ) (T : ℕ) (E : List ℤ) : Type 0 where
  pub plant : Describes p v
  pub some : 0 < T
  pub most : T ≤ max_ticks
  pub start : Ordered (vars v) S
  pub holds : within (vars v) S E ≡ true
  pub work : Near (vars v) max_edge E
  pub trimmed : trim (vars v) E ≡ E
  pub first : T ≡ 1 → E ≡ S

-- rounds of at most T ticks from the box S, at most `more` of them after c rounds; E is the working box and R the rates, both lent
pub record StepAsked (p : Plant) (v S : List ℤ) (T c more : ℕ) (E R : List ℤ) : Type 0 where
  pub plant : Describes p v
  pub some : 0 < T
  pub most : T ≤ max_ticks
  pub counts : c + more ≤ count_limit
  pub start : Sized (vars v) (step_limit T) S
  pub trimmed : trim (vars v) S ≡ S
  pub work : E ≡ S
  pub rates : Near (vars v) max_cap R
