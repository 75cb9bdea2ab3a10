-- How far the numbers go that the code is given, and what it asks of its caller.
use Rattle.std.specs.Prelude.{◌≡◌, List, [], ◌∷◌, ℕ, ◌+◌, ◌*◌, ◌≤◌, ◌<◌, ℤ, length}
use Rattle.sheet_spec.specs.Slots.{vars}
use Rattle.sheet_spec.specs.Valid.{ValidNumbers}
use Rattle.machine_spec.specs.Box.{Sized, trim}
use Rattle.machine_spec.specs.Accepted.{Lawful}
use Rattle.sheet_spec.specs.Limits.{max_side, max_ticks, max_width}
use Rattle.boxes_step.specs.Limits.{step_limit, count_limit}
use Rattle.decision_spec.specs.declared.Phase.{Phase}
use Rattle.decision_spec.specs.Decision.{ticks_of}

-- the most phases of an attempt
abbrev pub max_phases : ℕ
max_phases = 2

-- the sheet v allows the law of each phase
abbrev pub AllLawful : List ℤ → List Phase → Type 0
AllLawful v [] = Unit
AllLawful v (p ∷ ps) = Lawful v p.law × AllLawful v ps

-- attempts of the phases ps on the sheet v from the box S, at the width w and below
pub record AttemptsAsked (ps : List Phase) (v S : List ℤ) (w : ℕ) : Type 0 where
  pub sheet : ValidNumbers v
  pub start : Sized (vars v) max_side S
  pub trimmed : trim (vars v) S ≡ S
  pub phases : length ps ≤ max_phases
  pub laws : AllLawful v ps
  pub ticks : ticks_of ps ≤ max_ticks
  pub some : 0 < w
  pub most : w ≤ max_width

-- one attempt at the width w, after c rounds
pub record AttemptAsked (ps : List Phase) (v S : List ℤ) (w c : ℕ) : Type 0 where
  pub attempts : AttemptsAsked ps v S w
  pub counts : c + 73 * ticks_of ps + 8 * w ≤ count_limit

-- the reach of a phase of it from the box A, after c rounds
pub record PhaseAsked (phase : Phase) (v A : List ℤ) (w c : ℕ) : Type 0 where
  pub sheet : ValidNumbers v
  pub start : Sized (vars v) (step_limit phase.ticks) A
  pub trimmed : trim (vars v) A ≡ A
  pub law : Lawful v phase.law
  pub ticks : phase.ticks ≤ max_ticks
  pub counts : c + 73 * phase.ticks + 8 * w ≤ count_limit
  pub some : 0 < w
  pub most : w ≤ max_width
