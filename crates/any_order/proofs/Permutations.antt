-- Permutations of the numbers below n: what makes a map one, one that rises, and the one that a strict order makes. Assumes nothing.
use mathlib.Core.Path.{◌≡◌, refl, sym, ap, ◌∙◌}
use mathlib.Core.Bool.{Bool, true, false}
use mathlib.Core.Logic.{◌⊎◌, ⊎_elim}
use Prim.Native.Nat.{ℕ, zero, suc, ◌+◌, ◌-◌, ◌≤◌, ◌<◌}
use native.Mathlib.Decide.{ℕ_discrete}
use native.Mathlib.Nat.{eq-or-lt_of_le}
use native.Mathlib.Omega.{arith}
use lib.Dec.{ltb, eqb}
use borrow.Author.Tests.{ltb-true, ltb-false, eqb-true, eq-eqb}
use Rattle.sheet_spec.specs.Box.{any, lowest_passing}
use Rattle.sheet_spec.proofs.Box.{differ, any_at, any_none, any_of_none, lowest_found, any_is}
use Rattle.sheet_spec.proofs.Streams.{lt_or_le}
use Rattle.any_order.specs.Reordered.{Permutation}

-- ---- tests in another order

module _ {n : ℕ} {σ : ℕ → ℕ} (p : Permutation n σ) (f g : ℕ → Bool) (moved : (j : ℕ) → j < n → f j ≡ g (σ j)) where
  -- some number passes in one order exactly if some number passes in the other
  pub any_moved : any n f ≡ any n g
  any_moved = by (any n g) refl
    where
      by : (t : Bool) → any n g ≡ t → any n f ≡ t
      by true e =
          let i = lowest_passing n g in
          let below = ltb-true i n (sym (any_is n g) ∙ e) in
          any_at n f (p.origin i) (p.origin_inside i below) (moved (p.origin i) (p.origin_inside i below) ∙ ap g (p.of_origin i below) ∙ (lowest_found n g).passes below)
      by false e = any_of_none n f (λ j l. moved j l ∙ any_none n g (σ j) e (p.inside j l))

-- ---- a permutation that keeps the order moves nothing

-- rises below n
abbrev pub Rising : ℕ → (ℕ → ℕ) → Type 0
Rising n f = (i j : ℕ) → i < j → j < n → f i < f j

rising_least : {n : ℕ} (f : ℕ → ℕ) → Rising n f → (j : ℕ) → j < n → j ≤ f j
rising_least f r zero l = omega arith
rising_least f r (suc j) l = omega (arith, rising_least f r j (omega arith), r j (suc j) (omega arith) l)

module _ {n : ℕ} {σ : ℕ → ℕ} (p : Permutation n σ) (rises : Rising n σ) where
  origin_rises : Rising n p.origin
  origin_rises i j l h =
      let a = p.of_origin i (omega arith) in
      let b = p.of_origin j h in
      ⊎_elim (λ k. k)
      (λ k. ⊎_elim (λ e. absurd (omega (arith, a, b, ap σ e))) (λ k. absurd (omega (arith, a, b, rises (p.origin j) (p.origin i) k (p.origin_inside i (omega arith))))) (eq-or-lt_of_le k))
      (lt_or_le (p.origin i) (p.origin j))

  pub moves_nothing : (j : ℕ) → j < n → σ j ≡ j
  moves_nothing j l =
      let a = rising_least p.origin origin_rises j l in
      let b = rising_least σ rises (p.origin j) (p.origin_inside j l) in
      let e : p.origin j ≡ j = omega (arith, a, b, p.of_origin j l) in
      sym (ap σ e) ∙ p.of_origin j l

-- ---- a map of the numbers below n into themselves that takes no two to one is a permutation

pub record Injection (n : ℕ) (f : ℕ → ℕ) : Type 0 where
  pub inside : (j : ℕ) → j < n → f j < n
  pub apart : (i j : ℕ) → i < n → j < n → f i ≡ f j → i ≡ j

-- f takes some number below n to r
record Hit (n : ℕ) (f : ℕ → ℕ) (r : ℕ) : Type 0 where
  from : ℕ
  below : from < n
  is : f from ≡ r

-- the numbers without a: those above it are one less
unfoldable without : ℕ → ℕ → ℕ
without a x = elim (ltb a x) [ true ↦ x - 1 | false ↦ x ]

record Without (a x y : ℕ) : Type 0 where
  above : a < x → y ≡ x - 1
  below : x ≤ a → y ≡ x

without_is : (a x : ℕ) → Without a x (without a x)
unfolding without
without_is a x = by (ltb a x) refl
  where
    by : (t : Bool) → ltb a x ≡ t → Without a x (elim t [ true ↦ x - 1 | false ↦ x ])
    by true e = record { above = λ l. refl; below = λ l. absurd (omega (arith, ltb-true a x e)) }
    by false e = record { above = λ l. absurd (omega (arith, ltb-false a x e)); below = λ l. refl }

-- two numbers other than a stay apart
without_apart : (a x y : ℕ) → (x ≡ a → ⊥) → (y ≡ a → ⊥) → without a x ≡ without a y → x ≡ y
without_apart a x y p q e =
    let s = without_is a x in
    let t = without_is a y in
    ⊎_elim
    (λ (l : a < x). ⊎_elim (λ (k : a < y). omega (arith, s.above l, t.above k)) (λ (k : y ≤ a). absurd (⊎_elim q (λ m. omega (arith, s.above l, t.below k)) (eq-or-lt_of_le k))) (lt_or_le a y))
    (λ (l : x ≤ a). ⊎_elim (λ (k : a < y). absurd (⊎_elim p (λ m. omega (arith, s.below l, t.above k)) (eq-or-lt_of_le l))) (λ (k : y ≤ a). omega (arith, s.below l, t.below k)) (lt_or_le a y))
    (lt_or_le a x)

without_inside : (a x n : ℕ) → (x ≡ a → ⊥) → a < suc n → x < suc n → without a x < n
without_inside a x n p l h =
    let s = without_is a x in
    ⊎_elim (λ (k : a < x). omega (arith, s.above k)) (λ (k : x ≤ a). ⊎_elim (λ e. absurd (p e)) (λ m. omega (arith, s.below k)) (eq-or-lt_of_le k)) (lt_or_le a x)

-- one number more: what it is taken to is left out, and the others are taken to what is left
module _ {n : ℕ} {f : ℕ → ℕ} (p : Injection (suc n) f) where
  -- f n is not taken twice
  other : (j : ℕ) → j < n → f j ≡ f n → ⊥
  other j h e = let z : j ≡ n = p.apart j n (omega arith) (omega arith) e in omega arith

  fewer : Injection n (λ j. without (f n) (f j))
  fewer = record {
    inside = λ j h. without_inside (f n) (f j) n (other j h) (p.inside n (omega arith)) (p.inside j (omega arith));
    apart = λ i j h k e. p.apart i j (omega arith) (omega arith) (without_apart (f n) (f i) (f j) (other i h) (other j k) e);
  }

  hit_more : ((r : ℕ) → r < n → Hit n (λ j. without (f n) (f j)) r) → (r : ℕ) → r < suc n → Hit (suc n) f r
  hit_more hits r l = by (ℕ_discrete (f n) r)
    where
      by : Dec (f n ≡ r) → Hit (suc n) f r
      by (yes e) = record { from = n; below = omega arith; is = e }
      by (no d) =
          let t = hits (without (f n) r) (without_inside (f n) r n (λ e. d (sym e)) (p.inside n (omega arith)) l) in
          record { from = t.from; below = omega (arith, t.below); is = without_apart (f n) (f t.from) r (other t.from t.below) (λ e. d (sym e)) t.is }

hit : (n : ℕ) (f : ℕ → ℕ) → Injection n f → (r : ℕ) → r < n → Hit n f r
hit zero f p r l = absurd (omega arith)
hit (suc n) f p r l = hit_more p (hit n (λ j. without (f n) (f j)) (fewer p)) r l

module _ {n : ℕ} {f : ℕ → ℕ} (p : Injection n f) where
  abbrev source : ℕ → ℕ
  source r = lowest_passing n (λ j. eqb (f j) r)

  source_below : (r : ℕ) → r < n → source r < n
  source_below r l = let t = hit n f p r l in ltb-true _ _ (sym (any_is n _) ∙ any_at n (λ j. eqb (f j) r) t.from t.below (eq-eqb _ _ t.is))

  source_is : (r : ℕ) → r < n → f (source r) ≡ r
  source_is r l = eqb-true _ _ ((lowest_found n (λ j. eqb (f j) r)).passes (source_below r l))

  pub permutation_of : Permutation n f
  permutation_of = record {
    inside = p.inside;
    origin = source;
    origin_inside = source_below;
    origin_of = λ j l. p.apart (source (f j)) j (source_below (f j) (p.inside j l)) l (source_is (f j) (p.inside j l));
    of_origin = source_is;
  }

-- ---- how many numbers below n pass

unfoldable pub count : ℕ → (ℕ → Bool) → ℕ
count zero f = 0
count (suc n) f = count n f + elim (f n) [ true ↦ 1 | false ↦ 0 ]

-- where f passes, g does
module _ (f g : ℕ → Bool) where
  one_le : (s t : Bool) → (s ≡ true → t ≡ true) → elim s [ true ↦ 1 | false ↦ 0 ] ≤ elim t [ true ↦ 1 | false ↦ 0 ]
  one_le true true h = omega arith
  one_le true false h = absurd (differ (h refl) refl)
  one_le false true h = omega arith
  one_le false false h = omega arith

  count_le : (n : ℕ) → ((i : ℕ) → i < n → f i ≡ true → g i ≡ true) → count n f ≤ count n g
  unfolding count
  count_le zero h = omega arith
  count_le (suc n) h = omega (arith, count_le n (λ i l. h i (omega arith)), one_le (f n) (g n) (h n (omega arith)))

  -- and somewhere g alone does
  count_lt : (n : ℕ) → ((i : ℕ) → i < n → f i ≡ true → g i ≡ true) → (k : ℕ) → k < n → f k ≡ false → g k ≡ true → count n f < count n g
  unfolding count
  count_lt zero h k l e d = absurd (omega arith)
  count_lt (suc n) h k l e d =
      ⊎_elim (λ (q : k ≡ n). last (f n) (g n) (ap f (sym q) ∙ e) (ap g (sym q) ∙ d))
      (λ (q : k < n). omega (arith, count_lt n (λ i l. h i (omega arith)) k q e d, one_le (f n) (g n) (h n (omega arith)))) (eq-or-lt_of_le (omega arith))
    where
      last : (s t : Bool) → s ≡ false → t ≡ true → count n f + elim s [ true ↦ 1 | false ↦ 0 ] < count n g + elim t [ true ↦ 1 | false ↦ 0 ]
      last true t e d = absurd (differ refl e)
      last false true e d = omega (arith, count_le n (λ i l. h i (omega arith)))
      last false false e d = absurd (differ d refl)

count_all : (n : ℕ) → count n (λ i. true) ≡ n
unfolding count
count_all zero = refl
count_all (suc n) = omega (arith, count_all n)

-- ---- numbers below n in a strict order, in which of any two one comes before the other

pub record StrictOrder (n : ℕ) (before : ℕ → ℕ → Bool) : Type 0 where
  pub never : (i : ℕ) → i < n → before i i ≡ false
  pub chain : (i j k : ℕ) → before i j ≡ true → before j k ≡ true → before i k ≡ true
  pub either : (i j : ℕ) → i < j → j < n → (before i j ≡ true) ⊎ (before j i ≡ true)

module _ {n : ℕ} {before : ℕ → ℕ → Bool} (o : StrictOrder n before) where
  -- the place of j: how many come before it
  abbrev pub rank : ℕ → ℕ
  rank j = count n (λ i. before i j)

  rank_inside : (j : ℕ) → j < n → rank j < n
  rank_inside j l = omega (arith, count_all n, count_lt (λ i. before i j) (λ i. true) n (λ i h e. refl) j l (o.never j l) refl)

  rank_rises : (i j : ℕ) → i < n → before i j ≡ true → rank i < rank j
  rank_rises i j l e = count_lt (λ k. before k i) (λ k. before k j) n (λ k h d. o.chain k i j d e) i l (o.never i l) e

  -- two different numbers have different places
  rank_apart : (i j : ℕ) → i < j → j < n → rank i ≡ rank j → ⊥
  rank_apart i j l h e = ⊎_elim (λ b. omega (arith, rank_rises i j (omega arith) b)) (λ b. omega (arith, rank_rises j i h b)) (o.either i j l h)

  pub ranked : Permutation n rank
  ranked = permutation_of (record {
    inside = rank_inside;
    apart = λ i j h k e.
        ⊎_elim (λ (l : i < j). absurd (rank_apart i j l k e))
        (λ (m : j ≤ i). ⊎_elim (λ (q : j ≡ i). sym q) (λ (l : j < i). absurd (rank_apart j i l h (sym e))) (eq-or-lt_of_le m)) (lt_or_le i j);
  })

  -- what stands at an earlier place comes before
  pub ranked_before : (i j : ℕ) → i < n → j < n → rank i < rank j → before i j ≡ true
  ranked_before i j h k l =
      ⊎_elim (λ (q : i < j). ⊎_elim (λ b. b) (λ b. absurd (omega (arith, rank_rises j i k b))) (o.either i j q k))
      (λ (m : j ≤ i).
      ⊎_elim (λ (q : j ≡ i). absurd (omega (arith, ap rank q)))
      (λ (q : j < i). ⊎_elim (λ b. absurd (omega (arith, rank_rises j i k b))) (λ b. b) (o.either j i q h))
      (eq-or-lt_of_le m)) (lt_or_le i j)
