-- The run (document 01, "The run") and what demand 3 claims of it, over a sheet's bytes f and any list of periods.
use Rattle.std.specs.Prelude.{◌≡◌, Bool, true, false, List, [], ◌∷◌, ◌++◌, ℕ, suc, ◌+◌, ◌*◌, ◌≤◌, ◌<◌, T, ℤ, get_or, length, replicate}
use Rattle.std.proofs.Math.Option.{Option, none, some}
use Rattle.sheet_spec.specs.Slots.{vars, boxes, δ, α, recovery_box, unsafe_box}
use Rattle.sheet_spec.specs.Sheet.{refusal, values}
use Rattle.machine_spec.specs.Box.{In}
use Rattle.machine_spec.specs.declared.Law.{Law}
use Rattle.machine_spec.specs.declared.Law.TheVariants.{Baseline}
use Rattle.machine_spec.specs.Machine.{machine, Tick}
use Rattle.decision_spec.specs.Question.{measured, question_head}
use Rattle.decision_spec.specs.Decision.{is_keep, decide, check_recovery}

-- a period has a question's bytes, or none
abbrev pub Period : Type 0
Period = Option (List ℕ)

-- the decision on the period's question is keep
unfoldable pub kept : List ℕ → Period → Bool
kept f none = false
kept f (some g) = is_keep (decide f g)

-- the law that acts at each tick of a period: if its question is kept, the question's span, of which any command may act at each tick
-- (document 02, paper 4), else the plain law
unfoldable pub period_law : List ℕ → Period → Law
period_law f none = Baseline
period_law f (some g) = elim (kept f (some g)) [ true ↦ (question_head g).law | false ↦ Baseline ]

-- the law of each tick of the run: δ ticks a period
unfoldable pub acting : List ℕ → List Period → List Law
acting f [] = []
acting f (q ∷ qs) = replicate (δ (values f)) (period_law f q) ++ acting f qs

abbrev pub law_at : List ℕ → List Period → ℕ → Law
law_at f qs t = get_or (acting f qs) t Baseline

-- the measured box of a kept question holds the state
unfoldable pub Measured : List ℕ → Period → List ℤ → Type 0
Measured f none x = Unit {0}
Measured f (some g) x = T (kept f (some g)) → In (vars (values f)) (measured (vars (values f)) g) x

-- x 0, x 1, .. x (δ · periods) are the states of a run over the periods
pub record Run (f : List ℕ) (qs : List Period) (x : ℕ → List ℤ) : Type 0 where
  pub starts : length (x 0) ≡ vars (values f)
  pub ticks : (t : ℕ) → t < length qs * δ (values f) → Tick (machine (values f) (law_at f qs t)) (x t) (x (suc t))
  pub measured : (p : ℕ) → p < length qs → Measured f (get_or qs p none) (x (p * δ (values f)))

-- no state of the run is in a no-go box, and the state after α unbroken ticks of the plain law directly after a kept period
-- is in the recovery box
pub record Safe (f : List ℕ) (qs : List Period) (x : ℕ → List ℤ) : Type 0 where
  pub safe : (t : ℕ) → t ≤ length qs * δ (values f) → (j : ℕ) → j < boxes (values f) → In (vars (values f)) (unsafe_box (values f) j) (x t) → ⊥
  pub returns : (p : ℕ) → p < length qs → T (kept f (get_or qs p none))
      → suc p * δ (values f) + α (values f) ≤ length qs * δ (values f)
      → ((t : ℕ) → t < α (values f) → law_at f qs (suc p * δ (values f) + t) ≡ Baseline)
      → In (vars (values f)) (recovery_box (values f)) (x (suc p * δ (values f) + α (values f)))

-- a state of an accepted sheet's recovery box, in which a run may start, is in no no-go box, whatever the recovery check says (document 02, paper 8)
abbrev pub StartsClear : Type 0
StartsClear =
    (f : List ℕ) → refusal f ≡ 0 → (x : List ℤ) → In (vars (values f)) (recovery_box (values f)) x
    → (j : ℕ) → j < boxes (values f) → In (vars (values f)) (unsafe_box (values f) j) x → ⊥

-- demand 3: if the sheet passed its recovery check (so it was accepted) and the first state is in the recovery box, every run is safe
abbrev pub SafeRuns : Type 0
SafeRuns =
    (f : List ℕ) → T (is_keep (check_recovery f))
    → (qs : List Period) (x : ℕ → List ℤ) → In (vars (values f)) (recovery_box (values f)) (x 0) → Run f qs x → Safe f qs x
