-- Laws about a box that is written in place, one variable after the other, and about what trimming leaves as it is. Assumes nothing.
use mathlib.Core.Path.{◌≡◌, refl, sym, ap, ◌∙◌, subst}
use mathlib.Core.List.{List}
use Prim.Native.Nat.{ℕ, zero, suc, ◌+◌, ◌≤◌, ◌<◌}
use native.Mathlib.Numerals.{add-one}
use native.Mathlib.Omega.{arith}
use lib.IntN.{ℤ, pos}
use lib.ListN.{set}
use lib.Seq.{get_or-set_other, set-set, set_comm}
use Rattle.sheet_spec.specs.Slots.{N}
use Rattle.sheet_spec.specs.Box.{lo, hi}
use Rattle.machine_spec.specs.Box.{box_of, trim, hull, moved}
use Rattle.machine_spec.proofs.Box.{sides_lo, sides_hi, sides_same}

-- ---- boxes that trimming leaves as they are

module _ (n : ℕ) (k : n ≤ N) where
  pub trim_sides : (f g : ℕ → ℤ) → trim n (box_of n f g) ≡ box_of n f g
  unfolding trim
  trim_sides f g = sides_same n _ _ f g (λ i l. (sides_lo f g n i k l, sides_hi f g n i k l))

  pub trim_hull : (A B : List ℤ) → trim n (hull n A B) ≡ hull n A B
  unfolding hull
  trim_hull A B = trim_sides _ _

  pub trim_moved : (A : List ℤ) (t : ℕ) (r : List ℤ) → trim n (moved n A t r) ≡ moved n A t r
  unfolding moved
  trim_moved A t r = trim_sides _ _

  pub trim_trim : (B : List ℤ) → trim n (trim n B) ≡ trim n B
  unfolding trim
  trim_trim B = trim_sides (lo B) (hi B)

-- a box that equals a trimmed box is trimmed
pub trim_as : (n : ℕ) {A B : List ℤ} → A ≡ B → trim n B ≡ B → trim n A ≡ A
trim_as n e h = subst (λ (X : List ℤ). trim n X ≡ X) (sym e) h

-- and one that is trimmed stays so by an equal number of variables
pub trimmed_by : {n k : ℕ} {B : List ℤ} → n ≡ k → trim n B ≡ B → trim k B ≡ B
trimmed_by {B} e h = subst (λ (i : ℕ). trim i B ≡ B) e h

-- a box that equals a hull is trimmed
pub trim_as_hull : (n : ℕ) {A : List ℤ} (B C : List ℤ) → n ≤ N → A ≡ hull n B C → trim n A ≡ A
trim_as_hull n B C h e = trim_as n e (trim_hull n h B C)

-- ---- a box written in place

-- B with the sides of the variables below n set to f and g
unfoldable pub with_sides : ℕ → (ℕ → ℤ) → (ℕ → ℤ) → List ℤ → List ℤ
with_sides zero f g B = B
with_sides (suc n) f g B = set (set (with_sides n f g B) n (f n)) (n + N) (g n)

module _ (f g : ℕ → ℤ) where
  pub with_none : (B : List ℤ) → B ≡ with_sides 0 f g B
  unfolding with_sides
  with_none B = refl

  -- a loop's turn: the sides of one variable more are set
  pub with_more : (n : ℕ) (B : List ℤ) {r : List ℤ} {x y : ℤ} → r ≡ with_sides n f g B → x ≡ f n → y ≡ g n → set (set r n x) (n + N) y ≡ with_sides (n + 1) f g B
  unfolding with_sides
  with_more n B e p q = rw (e, p, q) (rw add-one refl)

  -- a variable that is not yet written
  with_lo : (n i : ℕ) (B : List ℤ) → n ≤ i → i < N → lo (with_sides n f g B) i ≡ lo B i
  unfolding with_sides
  with_lo zero i B k h = refl
  with_lo (suc n) i B k h =
      get_or-set_other (set (with_sides n f g B) n (f n)) (n + N) i (g n) (pos 0) (λ q. omega arith)
      ∙ (get_or-set_other (with_sides n f g B) n i (f n) (pos 0) (λ q. omega arith) ∙ with_lo n i B (omega arith) h)

  with_hi : (n i : ℕ) (B : List ℤ) → n ≤ i → hi (with_sides n f g B) i ≡ hi B i
  unfolding with_sides
  with_hi zero i B k = refl
  with_hi (suc n) i B k =
      get_or-set_other (set (with_sides n f g B) n (f n)) (n + N) (i + N) (g n) (pos 0) (λ q. omega arith)
      ∙ (get_or-set_other (with_sides n f g B) n (i + N) (f n) (pos 0) (λ q. omega arith) ∙ with_hi n i B (omega arith))

  -- what a loop's turn reads: the variable's sides as they were, the upper one also after the lower is set
  module _ (i : ℕ) (B : List ℤ) {r : List ℤ} (e : r ≡ with_sides i f g B) where
    pub turn_lo : i < N → lo r i ≡ lo B i
    turn_lo h = ap (λ (l : List ℤ). lo l i) e ∙ with_lo i i B (omega arith) h

    pub turn_hi : hi r i ≡ hi B i
    turn_hi = ap (λ (l : List ℤ). hi l i) e ∙ with_hi i i B (omega arith)

    pub turn_hi_set : (x : ℤ) → hi (set r i x) i ≡ hi B i
    turn_hi_set x = get_or-set_other r i (i + N) x (pos 0) (λ q. omega arith) ∙ turn_hi

  -- other variables may be set before or after
  with_set : (n i : ℕ) (B : List ℤ) (x y : ℤ) → n ≤ i → i < N → with_sides n f g (set (set B i x) (i + N) y) ≡ set (set (with_sides n f g B) i x) (i + N) y
  unfolding with_sides
  with_set zero i B x y k h = refl
  with_set (suc n) i B x y k h =
      let r = with_sides n f g B in
      rw (with_set n i B x y (omega arith) h)
      (rw (
        set_comm (set r i x) (i + N) n y (f n) (λ q. omega arith),
        set_comm r i n x (f n) (λ q. omega arith),
        set_comm (set (set r n (f n)) i x) (i + N) (n + N) y (g n) (λ q. omega arith),
        set_comm (set r n (f n)) i (n + N) x (g n) (λ q. omega arith),
      ) refl)

  -- over a box of other sides: all of them are replaced
  over_sides : (f' g' : ℕ → ℤ) (n : ℕ) → n ≤ N → with_sides n f g (box_of n f' g') ≡ box_of n f g
  unfolding with_sides box_of
  over_sides f' g' zero k = refl
  over_sides f' g' (suc n) k =
      let s = box_of n f g in
      rw (with_set n n (box_of n f' g') (f' n) (g' n) (omega arith) (omega arith))
      (rw (over_sides f' g' n (omega arith))
      (rw (
        set_comm (set s n (f' n)) (n + N) n (g' n) (f n) (λ q. omega arith),
        set-set s n (f' n) (f n),
        set-set (set s n (f n)) (n + N) (g' n) (g n),
      ) refl))

  -- all variables set: nothing of a trimmed box is left
  pub with_all : (n : ℕ) (B : List ℤ) → n ≤ N → trim n B ≡ B → with_sides n f g B ≡ box_of n f g
  unfolding trim
  with_all n B k e = ap (with_sides n f g) (sym e) ∙ over_sides (lo B) (hi B) n k
