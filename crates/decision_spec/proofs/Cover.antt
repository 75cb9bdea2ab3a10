-- A state is covered by a list of laws, one for each tick to come, if every behaviour that follows the list is clear of the no-go boxes at each state
-- before the last and ends in the recovery box. Assumes nothing.
use mathlib.Core.Path.{◌≡◌, refl}
use mathlib.Core.List.{List, [], ◌∷◌, ◌++◌}
use Prim.Native.Nat.{ℕ, zero, suc, ◌<◌}
use native.Mathlib.Omega.{arith}
use lib.IntN.{ℤ}
use lib.ListN.{replicate}
use Rattle.sheet_spec.specs.Slots.{vars, boxes, recovery_box, unsafe_box}
use Rattle.machine_spec.specs.Box.{In}
use Rattle.machine_spec.specs.declared.Law.{Law}
use Rattle.machine_spec.specs.Machine.{Machine, machine, Tick}
use Rattle.boxes_spec.proofs.Sound.{Ticks}

-- no no-go box of the sheet v holds the state
pub record Clear (v x : List ℤ) : Type 0 where
  pub outside : (j : ℕ) → j < boxes v → In (vars v) (unsafe_box v j) x → ⊥

unfoldable pub Covered : List ℤ → List Law → List ℤ → Type 0
Covered v [] x = In (vars v) (recovery_box v) x
Covered v (l ∷ ls) x = Clear v x × ((y : List ℤ) → Tick (machine v l) x y → Covered v ls y)

-- ---- from trajectories

-- the state s, then x
unfoldable pub prepend : List ℤ → (ℕ → List ℤ) → ℕ → List ℤ
prepend s x zero = s
prepend s x (suc j) = x j

pub prepend_ticks : {m : Machine} {s y : List ℤ} (x : ℕ → List ℤ) (k : ℕ) → x 0 ≡ y → Tick m s y → Ticks m x k → Ticks m (prepend s x) (suc k)
unfolding prepend
prepend_ticks x k e t f zero h = rw e t
prepend_ticks x k e t f (suc i) h = f i (omega arith)

-- a state is covered where each trajectory from it of k ticks under the law l is clear on the way and covered by ls at its end
module _ (v : List ℤ) (l : Law) (ls : List Law) where
  pub covered_by : (k : ℕ) (s : List ℤ)
      → ((x : ℕ → List ℤ) → x 0 ≡ s → (j : ℕ) → j < k → Ticks (machine v l) x j → Clear v (x j))
      → ((x : ℕ → List ℤ) → x 0 ≡ s → Ticks (machine v l) x k → Covered v ls (x k))
      → Covered v (replicate k l ++ ls) s
  unfolding Covered prepend
  covered_by zero s clear ends = ends (λ j. s) refl (λ i h. absurd (omega arith))
  covered_by (suc k) s clear ends = (
    clear (λ j. s) refl 0 (omega arith) (λ i h. absurd (omega arith)),
    λ y t. covered_by k y (λ x e j h f. clear (prepend s x) refl (suc j) (omega arith) (prepend_ticks x j e t f)) (λ x e f. ends (prepend s x) refl (prepend_ticks x k e t f)),
  )
