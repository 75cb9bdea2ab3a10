-- Laws about boxes, and about what is said of each variable below n. Assumes nothing.
use mathlib.Core.Path.{◌≡◌, refl, sym, ap, ◌∙◌}
use mathlib.Core.Logic.{⊎_elim}
use mathlib.Core.Bool.{true}
use mathlib.Core.List.{List, [], ◌∷◌}
use Prim.Native.Nat.{ℕ, zero, suc, ◌+◌, ◌≤◌, ◌<◌}
use native.Mathlib.Nat.{eq-or-lt_of_le}
use native.Mathlib.Numerals.{add-one}
use native.Mathlib.Omega.{arith}
use lib.IntN.{ℤ, pos, ◌+ℤ◌, ◌*ℤ◌}
use lib.Signed.{◌≤ℤ◌}
use lib.ListN.{set, length, length-set, length-replicate}
use lib.Seq.{get_or-set_same, get_or-set_other}
use Rattle.integers.specs.Order.{min_z, max_z}
use Rattle.integers.proofs.Z.{ints, flat, le_true}
use Rattle.sheet_spec.specs.Slots.{◌!◌, N, box_size}
use Rattle.sheet_spec.specs.Box.{lo, hi}
use Rattle.machine_spec.specs.Box.{sum, box_of, trim, hull, within, moved}
use Rattle.sheet_spec.proofs.Box.{and_both, all_at}

-- ---- one more

module _ (n : ℕ) where
  pub sum_more : (f : ℕ → ℤ) → sum (n + 1) f ≡ sum n f +ℤ f n
  unfolding sum
  sum_more f = rw add-one refl

  -- a loop's turn: the sides of one variable more are set
  pub sides_more : (f g : ℕ → ℤ) {r : List ℤ} {x y : ℤ} → r ≡ box_of n f g → x ≡ f n → y ≡ g n → set (set r n x) (n + N) y ≡ box_of (n + 1) f g
  unfolding box_of
  sides_more f g e p q = rw (e, p, q) (rw add-one refl)

pub sum_mono : (n : ℕ) (f g : ℕ → ℤ) → ((i : ℕ) → i < n → f i ≤ℤ g i) → sum n f ≤ℤ sum n g
unfolding sum
sum_mono zero f g h = omega ints
sum_mono (suc n) f g h =
    let a = sum_mono n f g (λ i l. h i (omega arith)) in
    let b = h n (omega arith) in
    simp flat (omega ints)

-- ---- the sides at a place

-- two stores at one place of lists as long: what relates the numbers at j, and the stored ones if that is their place, relates them after
pub set_both : (R : ℤ → ℤ → Type 0) (k l : List ℤ) (i j : ℕ) (v w : ℤ) → length k ≡ length l → R (k ! j) (l ! j) → (j ≡ i → R v w) → R (set k i v ! j) (set l i w ! j)
set_both R [] [] i j v w e h f = h
set_both R [] (y ∷ l) i j v w e h f = absurd (omega arith)
set_both R (x ∷ k) [] i j v w e h f = absurd (omega arith)
set_both R (x ∷ k) (y ∷ l) zero zero v w e h f = f refl
set_both R (x ∷ k) (y ∷ l) zero (suc j) v w e h f = h
set_both R (x ∷ k) (y ∷ l) (suc i) zero v w e h f = h
set_both R (x ∷ k) (y ∷ l) (suc i) (suc j) v w e h f = set_both R k l i j v w (omega arith) h (λ q. f (ap suc q))

-- two such stores
pub set_two : (R : ℤ → ℤ → Type 0) (k l : List ℤ) (i i' j : ℕ) (v w v' w' : ℤ) → length k ≡ length l → R (k ! j) (l ! j) → (j ≡ i → R v w) → (j ≡ i' → R v' w')
    → R (set (set k i v) i' v' ! j) (set (set l i w) i' w' ! j)
set_two R k l i i' j v w v' w' e r f g = set_both R (set k i v) (set l i w) i' j v' w' (length-set k i v ∙ (e ∙ sym (length-set l i w))) (set_both R k l i j v w e r f) g

pub sides_length : (n : ℕ) (f g : ℕ → ℤ) → length (box_of n f g) ≡ box_size
unfolding box_of
sides_length zero f g = length-replicate box_size (pos 0)
sides_length (suc n) f g = simp length-set (sides_length n f g)

-- only the sides of variables below n count
pub sides_same : (n : ℕ) (f g f' g' : ℕ → ℤ) → ((i : ℕ) → i < n → (f i ≡ f' i) × (g i ≡ g' i)) → box_of n f g ≡ box_of n f' g'
unfolding box_of
sides_same zero f g f' g' h = refl
sides_same (suc n) f g f' g' h =
    let e = h n (omega arith) in
    rw (sides_same n f g f' g' (λ i l. h i (omega arith)), e.0, e.1) refl

module _ (f g : ℕ → ℤ) where
  pub sides_lo : (n i : ℕ) → n ≤ N → i < n → lo (box_of n f g) i ≡ f i
  unfolding box_of
  sides_lo zero i k h = absurd (omega arith)
  sides_lo (suc n) i k h =
      let s = set (box_of n f g) n (f n) in
      get_or-set_other s (n + N) i (g n) (pos 0) (λ q. omega arith)
      ∙ ⊎_elim
      (λ q. rw q (get_or-set_same (box_of n f g) n (f n) (pos 0) (omega (arith, sides_length n f g))))
      (λ l. get_or-set_other (box_of n f g) n i (f n) (pos 0) (λ q. omega arith) ∙ sides_lo n i (omega arith) l)
      (eq-or-lt_of_le (omega arith))

  pub sides_hi : (n i : ℕ) → n ≤ N → i < n → hi (box_of n f g) i ≡ g i
  unfolding box_of
  sides_hi zero i k h = absurd (omega arith)
  sides_hi (suc n) i k h =
      let s = set (box_of n f g) n (f n) in
      ⊎_elim
      (λ q. rw q (get_or-set_same s (n + N) (g n) (pos 0) (omega (arith, sides_length n f g, length-set (box_of n f g) n (f n)))))
      (λ l. get_or-set_other s (n + N) (i + N) (g n) (pos 0) (λ q. omega arith)
      ∙ (get_or-set_other (box_of n f g) n (i + N) (f n) (pos 0) (λ q. omega arith) ∙ sides_hi n i (omega arith) l))
      (eq-or-lt_of_le (omega arith))

module _ (n i : ℕ) (k : n ≤ N) (h : i < n) where
  pub hull_lo : (A B : List ℤ) → lo (hull n A B) i ≡ min_z (lo A i) (lo B i)
  unfolding hull
  hull_lo A B = sides_lo _ _ n i k h

  pub hull_hi : (A B : List ℤ) → hi (hull n A B) i ≡ max_z (hi A i) (hi B i)
  unfolding hull
  hull_hi A B = sides_hi _ _ n i k h

  pub moved_lo : (A : List ℤ) (t : ℕ) (r : List ℤ) → lo (moved n A t r) i ≡ lo A i +ℤ pos t *ℤ lo r i
  unfolding moved
  moved_lo A t r = sides_lo _ _ n i k h

  pub moved_hi : (A : List ℤ) (t : ℕ) (r : List ℤ) → hi (moved n A t r) i ≡ hi A i +ℤ pos t *ℤ hi r i
  unfolding moved
  moved_hi A t r = sides_hi _ _ n i k h

  -- of the hull of A and of A moved
  pub swept_lo : (A : List ℤ) (t : ℕ) (r : List ℤ) → lo (hull n A (moved n A t r)) i ≡ min_z (lo A i) (lo A i +ℤ pos t *ℤ lo r i)
  swept_lo A t r = hull_lo A (moved n A t r) ∙ ap (min_z (lo A i)) (moved_lo A t r)

  pub swept_hi : (A : List ℤ) (t : ℕ) (r : List ℤ) → hi (hull n A (moved n A t r)) i ≡ max_z (hi A i) (hi A i +ℤ pos t *ℤ hi r i)
  swept_hi A t r = hull_hi A (moved n A t r) ∙ ap (max_z (hi A i)) (moved_hi A t r)

  pub trim_lo : (B : List ℤ) → lo (trim n B) i ≡ lo B i
  unfolding trim
  trim_lo B = sides_lo _ _ n i k h

  pub trim_hi : (B : List ℤ) → hi (trim n B) i ≡ hi B i
  unfolding trim
  trim_hi B = sides_hi _ _ n i k h

-- ---- tests of boxes, at one variable

module _ (n : ℕ) (A B : List ℤ) (i : ℕ) (h : i < n) where
  pub within_at : within n A B ≡ true → (lo B i ≤ℤ lo A i) × (hi A i ≤ℤ hi B i)
  unfolding within
  within_at e = let b = and_both _ _ (all_at n _ i e h) in (le_true _ _ b.0, le_true _ _ b.1)
