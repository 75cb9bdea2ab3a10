-- A turn of the loop that moves a box on: the sides of one variable more are moved, in the box, in the working box and in the path. Assumes
-- nothing.
use mathlib.Core.Path.{◌≡◌, sym, ap, ap₂, ◌∙◌}
use mathlib.Core.Bool.{true, false}
use mathlib.Core.List.{List}
use Prim.Native.Nat.{ℕ, ◌≤◌, ◌<◌, ◌+◌}
use lib.IntN.{ℤ, pos, ◌+ℤ◌, ◌*ℤ◌}
use lib.ListN.{set}
use Rattle.integers.specs.Order.{min_z, max_z}
use Rattle.sheet_spec.specs.Slots.{N}
use Rattle.sheet_spec.specs.Box.{lo, hi}
use Rattle.machine_spec.specs.Box.{trim, hull, moved}
use Rattle.machine_spec.specs.Rate.{outer}
use Rattle.machine_spec.proofs.Box.{sides_lo, sides_hi, sides_same}
use Rattle.machine_spec.proofs.InPlace.{with_sides, with_more, turn_lo, turn_hi_set, with_all}
use Rattle.boxes_shape.specs.Limits.{ArriveSideDone, moved_side}

-- the sides of the box A moved by k of the rates R, and of the hull of both ends
module _ (A : List ℤ) (k : ℕ) (R : List ℤ) where
  abbrev pub moved_lo : ℕ → ℤ
  moved_lo j = lo A j +ℤ pos k *ℤ lo R j

  abbrev pub moved_hi : ℕ → ℤ
  moved_hi j = hi A j +ℤ pos k *ℤ hi R j

  abbrev pub path_lo : ℕ → ℤ
  path_lo j = min_z (lo A j) (moved_lo j)

  abbrev pub path_hi : ℕ → ℤ
  path_hi j = max_z (hi A j) (moved_hi j)

  pub path_is : (n : ℕ) → n ≤ N → {P₀ P : List ℤ} → P ≡ with_sides n path_lo path_hi P₀ → trim n P₀ ≡ P₀ → P ≡ hull n A (moved n A k R)
  unfolding hull moved
  path_is n room e trimmed =
      e
      ∙ (with_all _ _ n _ room trimmed
      ∙ sides_same n _ _ _ _ (λ i l. (ap (min_z (lo A i)) (sym (sides_lo moved_lo moved_hi n i room l)), ap (max_z (hi A i)) (sym (sides_hi moved_lo moved_hi n i room l)))))

-- the first i variables of A, of the working box E₀ and of the path P₀ are written, and the boxes are then B, E and P
pub record Arriving (A : List ℤ) (k : ℕ) (R E₀ P₀ B E P : List ℤ) (i : ℕ) : Type 0 where
  pub at : B ≡ with_sides i (moved_lo A k R) (moved_hi A k R) A
  pub work : E ≡ with_sides i (moved_lo A k R) (moved_hi A k R) E₀
  pub path : P ≡ with_sides i (path_lo A k R) (path_hi A k R) P₀

-- a turn: the lower side of variable i, then the upper, of the boxes that have the first i variables
module _ {A : List ℤ} {k : ℕ} {R E₀ P₀ B E P : List ℤ} {i : ℕ} (inv : Arriving A k R E₀ P₀ B E P i) (room : i < N) where
  -- the sides that are read are those that the box had at first
  pub low_was : lo B i ≡ lo A i
  low_was = turn_lo _ _ i _ inv.at room

  module _ {B₁ E₁ P₁ : List ℤ} (lower : ArriveSideDone false i B k R E P B₁ E₁ P₁) where
    pub high_was : hi B₁ i ≡ hi A i
    high_was = ap (λ (l : List ℤ). hi l i) lower.end ∙ turn_hi_set _ _ i _ inv.at _

    pub turn : {B₂ E₂ P₂ : List ℤ} → ArriveSideDone true (i + N) B₁ k R E₁ P₁ B₂ E₂ P₂ → Arriving A k R E₀ P₀ B₂ E₂ P₂ (i + 1)
    unfolding outer
    turn upper =
        let low = ap (λ (x : ℤ). x +ℤ pos k *ℤ lo R i) low_was in
        let high = ap (λ (x : ℤ). x +ℤ pos k *ℤ hi R i) high_was in
        record {
          at = upper.end ∙ (ap (λ (l : List ℤ). set l (i + N) (moved_side B₁ k R (i + N))) lower.end ∙ with_more _ _ i _ inv.at low high);
          work = upper.work ∙ (ap (λ (l : List ℤ). set l (i + N) (moved_side B₁ k R (i + N))) lower.work ∙ with_more _ _ i _ inv.work low high);
          path =
              upper.path
              ∙ (ap (λ (l : List ℤ). set l (i + N) (max_z (hi B₁ i) (moved_side B₁ k R (i + N)))) lower.path
              ∙ with_more _ _ i _ inv.path (ap₂ min_z low_was low) (ap₂ max_z high_was high));
        }
