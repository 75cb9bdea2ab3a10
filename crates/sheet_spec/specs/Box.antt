-- Boxes as a sheet has them, and tests of each number below a count. All of it computes.
-- A box is 2N numbers: variable i's lower side at i, its upper side at i + N. Places that no variable has are 0.
use Rattle.std.specs.Prelude.{◌≡◌, Bool, true, false, not, ◌&&◌, ◌||◌, List, ℕ, zero, suc, ◌+◌, ◌<◌, ℤ}
use Rattle.std.specs.Int.Signed.{le_z}
use Rattle.sheet_spec.specs.Slots.{◌!◌, N, unsafe_box}

abbrev pub lo : List ℤ → ℕ → ℤ
lo B i = B ! i

abbrev pub hi : List ℤ → ℕ → ℤ
hi B i = B ! (i + N)

-- ---- for each i below n

unfoldable pub all : ℕ → (ℕ → Bool) → Bool
all zero f = true
all (suc n) f = all n f && f n

unfoldable pub any : ℕ → (ℕ → Bool) → Bool
any zero f = false
any (suc n) f = any n f || f n

-- the lowest i that passes, or n if none does
unfoldable pub lowest_passing : ℕ → (ℕ → Bool) → ℕ
lowest_passing zero f = 0
lowest_passing (suc n) f = elim (f 0) [ true ↦ 0 | false ↦ suc (lowest_passing n (λ i. f (suc i))) ]

-- ---- boxes

-- A and B have the same sides in the first n variables
pub record SameSides (n : ℕ) (A B : List ℤ) : Type 0 where
  pub lower : (i : ℕ) → i < n → lo A i ≡ lo B i
  pub upper : (i : ℕ) → i < n → hi A i ≡ hi B i

-- A and B share a state
unfoldable pub meets : ℕ → List ℤ → List ℤ → Bool
meets n A B = all n (λ i. le_z (lo A i) (hi B i) && le_z (lo B i) (hi A i))

-- B shares no state with the first `count` no-go boxes of the sheet v
unfoldable pub clear : ℕ → List ℤ → ℕ → List ℤ → Bool
clear n v count B = not (any count (λ j. meets n B (unsafe_box v j)))

-- the lowest number, from 0, of the first `count` no-go boxes of the sheet v that share a state with B, or `count` if none does
unfoldable pub lowest_met : ℕ → List ℤ → ℕ → List ℤ → ℕ
lowest_met n v count B = lowest_passing count (λ j. meets n B (unsafe_box v j))
