-- Laws about the order of boxes: it goes by the sides alone, and it is a strict order in which of two boxes that differ one comes before the other.
-- Assumes nothing.
use mathlib.Core.Path.{◌≡◌, refl, sym, ap, ap₂, ◌∙◌, subst}
use mathlib.Core.Bool.{Bool, true, false, cond}
use mathlib.Core.List.{List}
use mathlib.Core.Logic.{◌⊎◌, inl, inr, ⊎_elim}
use Prim.Native.Nat.{ℕ, zero, suc, ◌+◌, ◌-◌, ◌≤◌}
use native.Mathlib.Nat.{zero-add, suc-add, eq-or-lt_of_le}
use native.Mathlib.Numerals.{add-one}
use native.Mathlib.Omega.{arith}
use lib.IntN.{ℤ}
use lib.Signed.{lt_z, ◌<ℤ◌}
use Rattle.integers.proofs.Z.{ints}
use Rattle.sheet_spec.specs.Slots.{unsafe_box}
use Rattle.sheet_spec.specs.Refusals.{Cause, number, refuse_unless}
use Rattle.sheet_spec.specs.Box.{lo, hi, SameSides}
use Rattle.std.specs.Ordering.{ordering_then, is_ne, is_lt, ordering_reverse}
use Rattle.std.specs.declared.cmp.Ordering.{Ordering}
use Rattle.std.specs.declared.cmp.Ordering.TheVariants.{Less, Equal, Greater}
use Rattle.sheet_spec.specs.Order.{compare, compare_boxes, precedes, ascends_at}
use Rattle.sheet_spec.specs.File.{order_test}
use Rattle.sheet_spec.proofs.Box.{differ}
use Rattle.sheet_spec.proofs.Laws.{unless_below}

-- ---- numbers

-- what a comparison says
pub data Compared (a b : ℤ) : Ordering → Type 0 where
  below : a <ℤ b → Compared a b Less
  same : a ≡ b → Compared a b Equal
  above : b <ℤ a → Compared a b Greater

pub compared : (a b : ℤ) → Compared a b (compare a b)
unfolding compare
compared a b = by (lt_z a b) (lt_z b a) refl refl
  where
    by : (s t : Bool) → lt_z a b ≡ s → lt_z b a ≡ t → Compared a b (cond s Less (cond t Greater Equal))
    by true t e f = below (omega ints)
    by false true e f = above (omega ints)
    by false false e f = same (omega ints)

compared_once : {a b : ℤ} {x y : Ordering} → Compared a b x → Compared a b y → x ≡ y
compared_once (below h) (below k) = refl
compared_once (below h) (same k) = absurd (omega ints)
compared_once (below h) (above k) = absurd (omega ints)
compared_once (same h) (below k) = absurd (omega ints)
compared_once (same h) (same k) = refl
compared_once (same h) (above k) = absurd (omega ints)
compared_once (above h) (below k) = absurd (omega ints)
compared_once (above h) (same k) = absurd (omega ints)
compared_once (above h) (above k) = refl

pub compare_is : {a b : ℤ} {x : Ordering} → Compared a b x → x ≡ compare a b
compare_is {a} {b} h = compared_once h (compared a b)

-- ---- from A to B by x, from B to C by y, from A to C by z: where neither x nor y goes down, z is the first of them that goes up

abbrev NotGreater : Ordering → Type 0
NotGreater Less = Unit
NotGreater Equal = Unit
NotGreater Greater = ⊥

record Chain (x y z : Ordering) : Type 0 where
  chain : NotGreater x → NotGreater y → z ≡ ordering_then x y

compare_chain : (a b c : ℤ) → Chain (compare a b) (compare b c) (compare a c)
compare_chain a b c = record { chain = go (compared a b) (compared b c) }
  where
    go : {x y : Ordering} → Compared a b x → Compared b c y → NotGreater x → NotGreater y → compare a c ≡ ordering_then x y
    go (below h) (below k) p q = sym (compare_is (below (omega ints)))
    go (below h) (same k) p q = sym (compare_is (below (omega ints)))
    go (below h) (above k) p q = absurd q
    go (same h) (below k) p q = sym (compare_is (below (omega ints)))
    go (same h) (same k) p q = sym (compare_is (same (omega ints)))
    go (same h) (above k) p q = absurd q
    go (above h) k p q = absurd p

then_chain : {x y z x' y' z' : Ordering} → Chain x y z → Chain x' y' z' → Chain (ordering_then x x') (ordering_then y y') (ordering_then z z')
then_chain {x} {y} {z} {x'} {y'} {z'} first second = record { chain = go x y first.chain }
  where
    up : (x : Ordering) → NotGreater x → Less ≡ ordering_then x Less
    up Less p = refl
    up Equal p = refl
    up Greater p = absurd p

    go : (x y : Ordering) → (NotGreater x → NotGreater y → z ≡ ordering_then x y)
        → NotGreater (ordering_then x x') → NotGreater (ordering_then y y') → ordering_then z z' ≡ ordering_then (ordering_then x x') (ordering_then y y')
    go Less Less f p q = ap (λ (t : Ordering). ordering_then t z') (f tt tt)
    go Less Equal f p q = ap (λ (t : Ordering). ordering_then t z') (f tt tt)
    go Less Greater f p q = absurd q
    go Equal Less f p q = ap (λ (t : Ordering). ordering_then t z') (f tt tt) ∙ up x' p
    go Equal Equal f p q = ap (λ (t : Ordering). ordering_then t z') (f tt tt) ∙ second.chain p q
    go Equal Greater f p q = absurd q
    go Greater y f p q = absurd p

-- ---- boxes

boxes_chain : (n : ℕ) (A B C : List ℤ) → Chain (compare_boxes n A B) (compare_boxes n B C) (compare_boxes n A C)
unfolding compare_boxes
boxes_chain zero A B C = record { chain = λ p q. refl }
boxes_chain (suc n) A B C =
    then_chain (boxes_chain n A B C) (then_chain (compare_chain (lo A n) (lo B n) (lo C n)) (compare_chain (hi A n) (hi B n) (hi C n)))

-- a loop's turn: the first n variables have the same sides, so the next one's decide
pub compare_none : (A B : List ℤ) → Equal ≡ compare_boxes 0 A B
unfolding compare_boxes
compare_none A B = refl

pub compare_more : (n : ℕ) (A B : List ℤ) {lower upper x : Ordering} → lower ≡ compare (lo A n) (lo B n) → upper ≡ compare (hi A n) (hi B n)
    → x ≡ ordering_then lower upper → Equal ≡ compare_boxes n A B → x ≡ compare_boxes (n + 1) A B
unfolding compare_boxes
compare_more n A B l h p e = rw (add-one n) (p ∙ ap₂ ordering_then l h ∙ ap (λ (c : Ordering). ordering_then c (ordering_then (compare (lo A n) (lo B n)) (compare (hi A n) (hi B n)))) e)

-- and what they decide stays
keeps : (d n : ℕ) (A B : List ℤ) {x : Ordering} → is_ne x ≡ true → x ≡ compare_boxes n A B → x ≡ compare_boxes (d + n) A B
unfolding compare_boxes
keeps zero n A B {x} decided e = rw (zero-add n) e
keeps (suc d) n A B {x} decided e = rw (suc-add d n) (stays x next decided ∙ ap (λ (c : Ordering). ordering_then c next) (keeps d n A B decided e))
  where
    next : Ordering
    next = ordering_then (compare (lo A (d + n)) (lo B (d + n))) (compare (hi A (d + n)) (hi B (d + n)))

    stays : (x y : Ordering) → is_ne x ≡ true → x ≡ ordering_then x y
    stays Less y decided = refl
    stays Equal y decided = absurd (differ decided refl)
    stays Greater y decided = refl

pub compare_decided : {m n : ℕ} (A B : List ℤ) {x : Ordering} → is_ne x ≡ true → m ≤ n → x ≡ compare_boxes m A B → x ≡ compare_boxes n A B
compare_decided {m} {n} A B {x} decided l e = let s : n - m + m ≡ n = omega arith in subst (λ (n : ℕ). x ≡ compare_boxes n A B) s (keeps (n - m) m A B decided e)

-- it goes by the sides alone
pub compare_sides : (n : ℕ) {A A' B B' : List ℤ} → SameSides n A A' → SameSides n B B' → compare_boxes n A B ≡ compare_boxes n A' B'
unfolding compare_boxes
compare_sides zero a b = refl
compare_sides (suc n) a b =
    ap₂ ordering_then (compare_sides n (fewer a) (fewer b))
    (ap₂ ordering_then (ap₂ compare (a.lower n (omega arith)) (b.lower n (omega arith))) (ap₂ compare (a.upper n (omega arith)) (b.upper n (omega arith))))
  where
    fewer : {A A' : List ℤ} → SameSides (suc n) A A' → SameSides n A A'
    fewer a = record { lower = λ i l. a.lower i (omega arith); upper = λ i l. a.upper i (omega arith) }

compare_self : (n : ℕ) (A : List ℤ) → compare_boxes n A A ≡ Equal
unfolding compare_boxes
compare_self zero A = refl
compare_self (suc n) A = ap₂ ordering_then (compare_self n A) (ap₂ ordering_then (sym (compare_is {a = lo A n} (same refl))) (sym (compare_is {a = hi A n} (same refl))))

-- ---- a strict order

is_lt_lem : (c : Ordering) → is_lt c ≡ true → c ≡ Less
is_lt_lem Less e = refl
is_lt_lem Equal e = absurd (differ e refl)
is_lt_lem Greater e = absurd (differ e refl)

module _ (n : ℕ) where
  pub not_itself : (A : List ℤ) → precedes n A A ≡ true → ⊥
  unfolding precedes
  not_itself A e = differ e (ap is_lt (compare_self n A))

  pub precedes_then : (A B C : List ℤ) → precedes n A B ≡ true → precedes n B C ≡ true → precedes n A C ≡ true
  unfolding precedes
  precedes_then A B C e f =
      let p = is_lt_lem (compare_boxes n A B) e in
      let q = is_lt_lem (compare_boxes n B C) f in
      ap is_lt ((boxes_chain n A B C).chain (subst NotGreater (sym p) tt) (subst NotGreater (sym q) tt) ∙ ap₂ ordering_then p q)

  pub precedes_sides : {A A' B B' : List ℤ} → SameSides n A A' → SameSides n B B' → precedes n A B ≡ precedes n A' B'
  unfolding precedes
  precedes_sides a b = ap is_lt (compare_sides n a b)

-- ---- of two boxes that differ one comes before the other

compare_back : (a b : ℤ) → compare b a ≡ ordering_reverse (compare a b)
compare_back a b = go (compared a b)
  where
    go : {x : Ordering} → Compared a b x → compare b a ≡ ordering_reverse x
    go (below h) = sym (compare_is (above h))
    go (same h) = sym (compare_is (same (sym h)))
    go (above h) = sym (compare_is (below h))

then_back : (x y : Ordering) → ordering_then (ordering_reverse x) (ordering_reverse y) ≡ ordering_reverse (ordering_then x y)
then_back Less y = refl
then_back Equal y = refl
then_back Greater y = refl

boxes_back : (n : ℕ) (A B : List ℤ) → compare_boxes n B A ≡ ordering_reverse (compare_boxes n A B)
unfolding compare_boxes
boxes_back zero A B = refl
boxes_back (suc n) A B =
    let lower = compare (lo A n) (lo B n) in
    let upper = compare (hi A n) (hi B n) in
    ap₂ ordering_then (boxes_back n A B) (ap₂ ordering_then (compare_back (lo A n) (lo B n)) (compare_back (hi A n) (hi B n)) ∙ then_back lower upper)
    ∙ then_back (compare_boxes n A B) (ordering_then lower upper)

both_equal : (x y : Ordering) → ordering_then x y ≡ Equal → (x ≡ Equal) × (y ≡ Equal)
both_equal Less y e = absurd (differ (ap is_lt (sym e)) refl)
both_equal Equal y e = (refl, e)
both_equal Greater y e = absurd (subst NotGreater (sym e) tt)

equal_numbers : (a b : ℤ) → compare a b ≡ Equal → a ≡ b
equal_numbers a b e = go (subst (Compared a b) e (compared a b))
  where
    go : Compared a b Equal → a ≡ b
    go (same h) = h

equal_boxes_lem : (n : ℕ) (A B : List ℤ) → compare_boxes n A B ≡ Equal → SameSides n A B
unfolding compare_boxes
equal_boxes_lem zero A B e = record { lower = λ i l. absurd (omega arith); upper = λ i l. absurd (omega arith) }
equal_boxes_lem (suc n) A B e =
    let p = both_equal (compare_boxes n A B) _ e in
    let q = both_equal (compare (lo A n) (lo B n)) (compare (hi A n) (hi B n)) p.1 in
    let r = equal_boxes_lem n A B p.0 in
    record {
      lower = λ i l. ⊎_elim (λ (d : i ≡ n). rw d (equal_numbers (lo A n) (lo B n) q.0)) (r.lower i) (eq-or-lt_of_le (omega arith));
      upper = λ i l. ⊎_elim (λ (d : i ≡ n). rw d (equal_numbers (hi A n) (hi B n) q.1)) (r.upper i) (eq-or-lt_of_le (omega arith));
    }

pub either_way : (n : ℕ) (A B : List ℤ) → SameSides n A B ⊎ ((precedes n A B ≡ true) ⊎ (precedes n B A ≡ true))
unfolding precedes
either_way n A B = by (compare_boxes n A B) refl
  where
    by : (x : Ordering) → compare_boxes n A B ≡ x → SameSides n A B ⊎ ((is_lt (compare_boxes n A B) ≡ true) ⊎ (is_lt (compare_boxes n B A) ≡ true))
    by Less e = inr (inl (ap is_lt e))
    by Equal e = inl (equal_boxes_lem n A B e)
    by Greater e = inr (inr (ap is_lt (boxes_back n A B ∙ ap ordering_reverse e)))

-- two sheets whose boxes have the same sides
pub ascends_sides : (n : ℕ) (v w : List ℤ) (j : ℕ) → SameSides n (unsafe_box v j) (unsafe_box w j) → SameSides n (unsafe_box v (suc j)) (unsafe_box w (suc j)) → ascends_at n v j ≡ ascends_at n w j
unfolding ascends_at
ascends_sides n v w j a b = precedes_sides n a b

-- ---- the test of a no-go box, by its comparison with the one before

module _ (n : ℕ) (v : List ℤ) where
  pub order_first : 0 ≡ order_test n v 0
  unfolding order_test
  order_first = refl

  pub order_next : (j : ℕ) {x : Ordering} → compare_boxes n (unsafe_box v j) (unsafe_box v (suc j)) ≡ x → refuse_unless (is_lt x) Cause.order ≡ order_test n v (suc j)
  unfolding order_test ascends_at precedes
  order_next j e = ap (λ (x : Ordering). refuse_unless (is_lt x) Cause.order) (sym e)

  pub order_most : (j : ℕ) → order_test n v j ≤ number Cause.order
  unfolding order_test
  order_most zero = omega arith
  order_most (suc j) = unless_below (ascends_at n v j) Cause.order (omega arith)
