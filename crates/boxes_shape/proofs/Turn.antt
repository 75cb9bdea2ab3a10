-- A turn of the loops that join a box to another in place: the sides of one variable more are taken in. Assumes nothing.
use mathlib.Core.Path.{◌≡◌, ap₂, ◌∙◌}
use mathlib.Core.Bool.{Bool}
use mathlib.Core.List.{List}
use Prim.Native.Nat.{ℕ, ◌+◌, ◌<◌}
use lib.IntN.{ℤ}
use Rattle.integers.specs.Order.{min_z, max_z}
use Rattle.sheet_spec.specs.Slots.{N}
use Rattle.sheet_spec.specs.Box.{lo, hi}
use Rattle.machine_spec.proofs.InPlace.{with_sides, with_more, turn_lo, turn_hi}
use Rattle.boxes_shape.specs.Limits.{TookIn}

-- E, with M joined to it in the first i variables
abbrev pub joined : ℕ → List ℤ → List ℤ → List ℤ
joined i E M = with_sides i (λ j. min_z (lo E j) (lo M j)) (λ j. max_z (hi E j) (hi M j)) E

pub joined_more : (E M : List ℤ) (i : ℕ) → i < N → {F G : List ℤ} {low high : ℤ} {inside : Bool} → F ≡ joined i E M → low ≡ lo M i → high ≡ hi M i → TookIn i low high F inside G → G ≡ joined (i + 1) E M
joined_more E M i room e p q took = took.joined ∙ with_more _ _ i E e (ap₂ min_z (turn_lo _ _ i E e room) p) (ap₂ max_z (turn_hi _ _ i E e) q)
