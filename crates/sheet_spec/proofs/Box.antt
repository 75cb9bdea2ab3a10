-- Laws about tests of each number below a count, and about the boxes of a sheet. Assumes nothing.
use mathlib.Core.Path.{◌≡◌, refl, sym, ap, ap₂, ◌∙◌, subst}
use mathlib.Core.Logic.{⊎_elim}
use mathlib.Core.Bool.{Bool, true, false, not, ◌&&◌, ◌||◌}
use mathlib.Core.List.{List}
use Prim.Native.Nat.{ℕ, zero, suc, ◌+◌, ◌≤◌, ◌<◌}
use native.Mathlib.Nat.{eq-or-lt_of_le}
use native.Mathlib.Numerals.{add-one}
use native.Mathlib.Omega.{arith}
use lib.Dec.{T, ltb}
use lib.IntN.{ℤ, pos}
use lib.Signed.{le_z, ◌≤ℤ◌, ◌<ℤ◌}
use lib.ListN.{length, drop, length-drop}
use lib.Seq.{get_or-take, get_or-drop, length-take-le}
use borrow.Author.Tests.{ltb-true, ltb-false, not-true, not-false}
use Rattle.integers.proofs.Z.{ints}
use Rattle.sheet_spec.specs.Slots.{◌!◌, N, box_size, box_at, unsafe_box}
use Rattle.sheet_spec.specs.Box.{lo, hi, all, any, lowest_passing, SameSides, meets, clear, lowest_met}
use Rattle.sheet_spec.proofs.Streams.{lt_or_le}

-- ---- tests

pub differ : {t : Bool} → t ≡ true → t ≡ false → ⊥
differ e f = subst T (sym e ∙ f) tt

pub is_true : (t : Bool) → (t ≡ false → ⊥) → t ≡ true
is_true true h = refl
is_true false h = absurd (h refl)

pub is_false : (t : Bool) → (t ≡ true → ⊥) → t ≡ false
is_false true h = absurd (h refl)
is_false false h = refl

pub le_is : (a b : ℤ) → a ≤ℤ b → le_z a b ≡ true
le_is a b h = is_true (le_z a b) (λ e. omega ints)

pub le_not : (a b : ℤ) → b <ℤ a → le_z a b ≡ false
le_not a b h = is_false (le_z a b) (λ e. omega ints)

pub and_both : (a b : Bool) → (a && b) ≡ true → (a ≡ true) × (b ≡ true)
and_both true b e = (refl, e)
and_both false b e = absurd (differ e refl)

-- ---- one more

module _ (n : ℕ) where
  pub all_last : (f : ℕ → Bool) → all n f ≡ true → all (n + 1) f ≡ f n
  unfolding all
  all_last f e = rw add-one (rw e refl)

  pub all_more : (f : ℕ → Bool) → all n f ≡ true → f n ≡ true → all (n + 1) f ≡ true
  all_more f e g = all_last f e ∙ g

  pub all_false : (f : ℕ → Bool) → all n f ≡ false → all (n + 1) f ≡ false
  unfolding all
  all_false f e = rw add-one (rw e refl)

  pub any_more : (f : ℕ → Bool) → any n f ≡ false → f n ≡ false → any (n + 1) f ≡ false
  unfolding any
  any_more f e g = rw add-one (rw (e, g) refl)

-- ---- at each i below n

pub all_at : (n : ℕ) (f : ℕ → Bool) (i : ℕ) → all n f ≡ true → i < n → f i ≡ true
unfolding all
all_at zero f i e h = absurd (omega arith)
all_at (suc n) f i e h =
    let b = and_both (all n f) (f n) e in
    ⊎_elim (λ q. rw q b.1) (λ l. all_at n f i b.0 l) (eq-or-lt_of_le (omega arith))

pub all_of : (n : ℕ) (f : ℕ → Bool) → ((i : ℕ) → i < n → f i ≡ true) → all n f ≡ true
unfolding all
all_of zero f h = refl
all_of (suc n) f h = rw (all_of n f (λ i l. h i (omega arith)), h n (omega arith)) refl

pub all_same : (n : ℕ) (f g : ℕ → Bool) → ((i : ℕ) → i < n → f i ≡ g i) → all n f ≡ all n g
unfolding all
all_same zero f g h = refl
all_same (suc n) f g h = ap₂ ◌&&◌ (all_same n f g (λ i l. h i (omega arith))) (h n (omega arith))

pub all_stop : (n : ℕ) (f : ℕ → Bool) (i : ℕ) → i < n → f i ≡ false → all n f ≡ false
all_stop n f i h e = is_false (all n f) (λ g. differ (all_at n f i g h) e)

pub any_at : (n : ℕ) (f : ℕ → Bool) (i : ℕ) → i < n → f i ≡ true → any n f ≡ true
unfolding any
any_at zero f i h e = absurd (omega arith)
any_at (suc n) f i h e = ⊎_elim (λ q. last (any n f) (rw q at e)) (λ l. rw (any_at n f i l e) refl) (eq-or-lt_of_le (omega arith))
  where
    last : (a : Bool) → f n ≡ true → (a || f n) ≡ true
    last true q = refl
    last false q = q

pub any_none : (n : ℕ) (f : ℕ → Bool) (i : ℕ) → any n f ≡ false → i < n → f i ≡ false
any_none n f i e h = is_false (f i) (λ g. differ (any_at n f i h g) e)

pub any_of_none : (n : ℕ) (f : ℕ → Bool) → ((i : ℕ) → i < n → f i ≡ false) → any n f ≡ false
unfolding any
any_of_none zero f h = refl
any_of_none (suc n) f h = rw (any_of_none n f (λ i l. h i (omega arith)), h n (omega arith)) refl

pub any_same : (n : ℕ) (f g : ℕ → Bool) → ((i : ℕ) → i < n → f i ≡ g i) → any n f ≡ any n g
unfolding any
any_same zero f g h = refl
any_same (suc n) f g h = ap₂ ◌||◌ (any_same n f g (λ i l. h i (omega arith))) (h n (omega arith))

-- ---- the lowest i below n that passes

-- none below i passes; i does, or it is n
pub record Lowest (n : ℕ) (f : ℕ → Bool) (i : ℕ) : Type 0 where
  pub most : i ≤ n
  pub first : (j : ℕ) → j < i → f j ≡ false
  pub passes : i < n → f i ≡ true

lowest_next : (n : ℕ) (f : ℕ → Bool) (i : ℕ) (t : Bool) → f 0 ≡ t → Lowest n (λ j. f (suc j)) i → Lowest (suc n) f (elim t [ true ↦ 0 | false ↦ suc i ])
lowest_next n f i true e later = record { most = omega arith; first = λ j l. absurd (omega arith); passes = λ _. e }
lowest_next n f i false e later = record { most = omega (arith, later.most); first = below; passes = λ l. later.passes (omega arith) }
  where
    below : (j : ℕ) → j < suc i → f j ≡ false
    below zero l = e
    below (suc j) l = later.first j (omega arith)

pub lowest_found : (n : ℕ) (f : ℕ → Bool) → Lowest n f (lowest_passing n f)
unfolding lowest_passing
lowest_found zero f = record { most = omega arith; first = λ j l. absurd (omega arith); passes = λ l. absurd (omega arith) }
lowest_found (suc n) f = lowest_next n f (lowest_passing n (λ j. f (suc j))) (f 0) refl (lowest_found n (λ j. f (suc j)))

module _ {n : ℕ} {f : ℕ → Bool} where
  not_past : {i k : ℕ} → Lowest n f i → Lowest n f k → k ≤ i
  not_past {i} {k} p q = ⊎_elim (λ l. absurd (differ (p.passes (omega (arith, q.most))) (q.first i l))) (λ l. l) (lt_or_le i k)

  pub lowest_is : {i : ℕ} → Lowest n f i → lowest_passing n f ≡ i
  lowest_is p = let q = lowest_found n f in omega (arith, not_past p q, not_past q p)

module _ (n : ℕ) (f : ℕ → Bool) where
  pub lowest_at : (i : ℕ) → i < n → any i f ≡ false → f i ≡ true → lowest_passing n f ≡ i
  lowest_at i h none passes = lowest_is (record { most = omega arith; first = λ j. any_none i f j none; passes = λ _. passes })

  pub lowest_none : any n f ≡ false → lowest_passing n f ≡ n
  lowest_none none = lowest_is (record { most = omega arith; first = λ j. any_none n f j none; passes = λ l. absurd (omega arith) })

-- it is below n exactly if some i below n passes
pub any_is : (n : ℕ) (f : ℕ → Bool) → any n f ≡ ltb (lowest_passing n f) n
any_is n f = by (ltb (lowest_passing n f) n) refl
  where
    by : (t : Bool) → ltb (lowest_passing n f) n ≡ t → any n f ≡ t
    by true e =
        let below = ltb-true (lowest_passing n f) n e in
        any_at n f (lowest_passing n f) below ((lowest_found n f).passes below)
    by false e =
        let past = ltb-false (lowest_passing n f) n e in
        any_of_none n f (λ i l. (lowest_found n f).first i (omega arith))

-- ---- boxes

-- of a box in a sheet's value
pub box_at_lem : (v : List ℤ) (at j : ℕ) → j < box_size → box_at v at ! j ≡ v ! (at + j)
box_at_lem v at j h = get_or-take box_size (drop at v) j (pos 0) h ∙ get_or-drop at v j (pos 0)

module _ (v : List ℤ) (at i : ℕ) (h : i < N) where
  pub box_lo : lo (box_at v at) i ≡ v ! (at + i)
  box_lo = box_at_lem v at i (omega arith)

  pub box_hi : hi (box_at v at) i ≡ v ! (at + i + N)
  box_hi = let q : at + (i + N) ≡ at + i + N = omega arith in box_at_lem v at (i + N) (omega arith) ∙ rw q refl

pub same_self : (n : ℕ) (A : List ℤ) → SameSides n A A
same_self n A = record { lower = λ i h. refl; upper = λ i h. refl }

-- whether two boxes share a state goes by their sides
pub meets_sides : (n : ℕ) {A A' B B' : List ℤ} → SameSides n A A' → SameSides n B B' → meets n A B ≡ meets n A' B'
unfolding meets
meets_sides n a b = all_same n _ _ (λ i h. rw (a.lower i h, a.upper i h, b.lower i h, b.upper i h) refl)

pub box_length : (v : List ℤ) (at : ℕ) → at + box_size ≤ length v → length (box_at v at) ≡ box_size
box_length v at h = length-take-le box_size (drop at v) (omega (arith, length-drop at v))

-- ---- clear of the first `count` no-go boxes of a sheet

pub clear_none : (n : ℕ) (v B : List ℤ) → clear n v 0 B ≡ true
unfolding clear any
clear_none n v B = refl

pub clear_more : (n : ℕ) (v : List ℤ) (j : ℕ) (B : List ℤ) → clear n v j B ≡ true → meets n B (unsafe_box v j) ≡ false → clear n v (j + 1) B ≡ true
unfolding clear
clear_more n v j B e f = ap not (any_more j _ (not-true _ e) f)

module _ (n : ℕ) (v : List ℤ) (count : ℕ) (B : List ℤ) where
  pub clear_at : clear n v count B ≡ true → (j : ℕ) → j < count → meets n B (unsafe_box v j) ≡ false
  unfolding clear
  clear_at e j h = any_none count _ j (not-true _ e) h

  pub clear_of : ((j : ℕ) → j < count → meets n B (unsafe_box v j) ≡ false) → clear n v count B ≡ true
  unfolding clear
  clear_of h = ap not (any_of_none count _ h)

  pub not_clear : (j : ℕ) → j < count → meets n B (unsafe_box v j) ≡ true → clear n v count B ≡ false
  unfolding clear
  not_clear j h e = ap not (any_at count _ j h e)

  -- where B is not clear, the lowest number that it meets is one
  pub lowest_met_lem : clear n v count B ≡ false → (lowest_met n v count B < count) × (meets n B (unsafe_box v (lowest_met n v count B)) ≡ true)
  unfolding clear lowest_met
  lowest_met_lem e =
      let below = ltb-true _ _ (sym (any_is count (λ j. meets n B (unsafe_box v j))) ∙ not-false _ e) in
      (below, (lowest_found count _).passes below)

pub clear_sides : (n : ℕ) (v w : List ℤ) (count : ℕ) {A B : List ℤ} → SameSides n A B
    → ((j : ℕ) → j < count → SameSides n (unsafe_box v j) (unsafe_box w j)) → clear n v count A ≡ clear n w count B
unfolding clear
clear_sides n v w count a s = ap not (any_same count _ _ (λ j h. meets_sides n a (s j h)))
