-- Of all orders of a sheet's no-go boxes just one is valid, if no two boxes are equal and none is on the recovery box (document 02, papers 2 and 8).
-- proofs/OneOrder, SomeOrder and EveryOrder prove it.
use Rattle.std.specs.Prelude.{◌≡◌, List, ℕ, ◌<◌, ℤ}
use Rattle.sheet_spec.specs.Slots.{vars, boxes, unsafe_box}
use Rattle.sheet_spec.specs.Box.{SameSides}
use Rattle.sheet_spec.specs.Valid.{ValidNumbers, RecoveryClear, Valid}
use Rattle.sheet_spec.specs.Sheet.{refusal, bytes_of, Same}
use Rattle.any_order.specs.Reordered.{Permutation, Reordered}

-- at most one: two that are valid are the same sheet and have the same bytes. So two prints of one machine are equal
abbrev pub OneOrder : Type 0
OneOrder = (σ : ℕ → ℕ) (v w : List ℤ) → Valid v → Valid w → Reordered σ v w → Same v w × (bytes_of v ≡ bytes_of w)

-- no two no-go boxes are equal
pub record Distinct (v : List ℤ) : Type 0 where
  pub apart : (i j : ℕ) → i < j → j < boxes v → SameSides (vars v) (unsafe_box v i) (unsafe_box v j) → ⊥

-- a valid sheet that has v's no-go boxes, box j as box σ j, and whose bytes the reader accepts
pub record InOrder (v : List ℤ) : Type 0 where
  pub sheet : List ℤ
  pub σ : ℕ → ℕ
  pub reordered : Reordered σ v sheet
  pub valid : Valid sheet
  pub accepted : refusal (bytes_of sheet) ≡ 0

-- at least one: boxes that all differ, and share no state with the recovery box, can be put in order. So no machine that could run is left
-- without a sheet
abbrev pub SomeOrder : Type 0
SomeOrder = (v : List ℤ) → ValidNumbers v → Distinct v → RecoveryClear v → InOrder v

-- a value in another order
pub record Rearranged (σ : ℕ → ℕ) (v : List ℤ) : Type 0 where
  pub sheet : List ℤ
  pub numbers : ValidNumbers sheet
  pub reordered : Reordered σ v sheet

-- and every order of the boxes is one that some value has, so that `AnyOrder` speaks of all
abbrev pub EveryOrder : Type 0
EveryOrder = (σ : ℕ → ℕ) (v : List ℤ) → ValidNumbers v → Permutation (boxes v) σ → Rearranged σ v
