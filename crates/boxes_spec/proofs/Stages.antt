-- What a stage gives and how many rounds it takes, and how that goes through `and_then`, `retry` and a test. Assumes nothing.
use mathlib.Core.Path.{◌≡◌, refl, sym, ap, ◌∙◌, subst}
use mathlib.Core.Bool.{Bool, true, false, ◌&&◌}
use Prim.Native.Nat.{ℕ, suc, ◌+◌, ◌≤◌}
use native.Mathlib.Omega.{arith}
use lib.Dec.{eqb}
use borrow.Author.Tests.{eqb-true, eqb-false}
use Rattle.sheet_spec.proofs.Box.{differ, and_both}
use Rattle.boxes_spec.specs.Step.{Failure, Result, ok, failed, exhausted, and_then, retry, is_exhausted}

-- the count goes from c to c' by at most `most` rounds, and not past an allowance
pub record Counted (limited : Bool) (allowance c most c' : ℕ) : Type 0 where
  pub more : c ≤ c'
  pub few : c' ≤ c + most
  pub allowed : limited ≡ true → c ≤ allowance → c' ≤ allowance

-- from the count c the stage takes at most `most` rounds; P is true of its value, Q of why it fails, and it runs out of rounds
-- only at the allowance
pub data Takes (limited : Bool) (allowance c most : ℕ) {A : Type 0} (P : A → Type 0) (Q : Failure → Type 0) : Result A → Type 0 where
  value : {x : A} {c' : ℕ} → P x → Counted limited allowance c most c' → Takes limited allowance c most P Q (ok x c')
  failure : {why : Failure} {c' : ℕ} → Q why → Counted limited allowance c most c' → Takes limited allowance c most P Q (failed why c')
  spent : {c' : ℕ} → limited ≡ true → c' ≡ allowance → Counted limited allowance c most c' → Takes limited allowance c most P Q (exhausted c')

-- ---- counts

module _ {l : Bool} {a : ℕ} where
  pub counted_none : (c : ℕ) → Counted l a c 0 c
  counted_none c = record { more = omega arith; few = omega arith; allowed = λ i j. j }

  pub counted_on : {c c' c'' b d most : ℕ} → b + d ≤ most → Counted l a c b c' → Counted l a c' d c'' → Counted l a c most c''
  counted_on h k n = record { more = omega arith; few = omega arith; allowed = λ i j. n.allowed i (k.allowed i j) }

  pub counted_less : {c c' b most : ℕ} → b ≤ most → Counted l a c b c' → Counted l a c most c'
  counted_less h k = record { more = k.more; few = omega arith; allowed = k.allowed }

  -- a round is due, and none is left; or one is
  pub exhausted_is : {c : ℕ} → is_exhausted l a c ≡ true → (l ≡ true) × (c ≡ a)
  unfolding is_exhausted
  exhausted_is {c} e = let b = and_both l (eqb c a) e in (b.0, eqb-true c a b.1)

  pub counted_one : (c : ℕ) → is_exhausted l a c ≡ false → Counted l a c 1 (c + 1)
  unfolding is_exhausted
  counted_one c e = record {
    more = omega arith;
    few = omega arith;
    allowed = λ i j. let n = eqb-false c a (ap (λ (t : Bool). t && eqb c a) (sym i) ∙ e) in omega arith;
  }

-- ---- stages

-- after b rounds
pub takes_on : {l : Bool} {a c : ℕ} {A : Type 0} {P : A → Type 0} {Q : Failure → Type 0} {c' b d most : ℕ} {g : Result A}
    → b + d ≤ most → Counted l a c b c' → Takes l a c' d P Q g → Takes l a c most P Q g
takes_on h k (value p n) = value p (counted_on h k n)
takes_on h k (failure q n) = failure q (counted_on h k n)
takes_on h k (spent i e n) = spent i e (counted_on h k n)

module _ {l : Bool} {a c : ℕ} {A : Type 0} {P : A → Type 0} {Q : Failure → Type 0} where
  pub takes_map : {P' : A → Type 0} {Q' : Failure → Type 0} {b most : ℕ} {g : Result A}
      → b ≤ most → ((x : A) → P x → P' x) → ((why : Failure) → Q why → Q' why) → Takes l a c b P Q g → Takes l a c most P' Q' g
  takes_map h f r (value {x = x} p n) = value (f x p) (counted_less h n)
  takes_map h f r (failure {why = why} q n) = failure (r why q) (counted_less h n)
  takes_map h f r (spent i e n) = spent i e (counted_less h n)

  pub takes_then : {B : Type 0} {P' : B → Type 0} {b d most : ℕ} {g : Result A} (k : A → ℕ → Result B)
      → b + d ≤ most → Takes l a c b P Q g → ((x : A) (c' : ℕ) → P x → Takes l a c' d P' Q (k x c')) → Takes l a c most P' Q (and_then g k)
  unfolding and_then
  takes_then k h (value {x = x} {c' = c'} p n) f = takes_on h n (f x c' p)
  takes_then k h (failure q n) f = failure q (counted_less (omega arith) n)
  takes_then k h (spent i e n) f = spent i e (counted_less (omega arith) n)

  pub takes_retry : {Q' : Failure → Type 0} {b d most : ℕ} {g : Result A} (k : ℕ → Result A)
      → b + d ≤ most → Takes l a c b P Q g → ((why : Failure) (c' : ℕ) → Q why → Takes l a c' d P Q' (k c')) → Takes l a c most P Q' (retry g k)
  unfolding retry
  takes_retry k h (value p n) f = value p (counted_less (omega arith) n)
  takes_retry k h (failure {why = why} {c' = c'} q n) f = takes_on h n (f why c' q)
  takes_retry k h (spent i e n) f = spent i e (counted_less (omega arith) n)

  pub takes_if : {most : ℕ} (t : Bool) (x y : Result A) → (t ≡ true → Takes l a c most P Q x) → (t ≡ false → Takes l a c most P Q y) → Takes l a c most P Q (elim t [ true ↦ x | false ↦ y ])
  takes_if true x y f g = f refl
  takes_if false x y f g = g refl

  -- a round, if one is left: then the stage y, which has counted it
  pub takes_round : {most : ℕ} (y : Result A) → Takes l a (c + 1) most P Q y → Takes l a c (suc most) P Q (elim (is_exhausted l a c) [ true ↦ exhausted c | false ↦ y ])
  takes_round y h = takes_if (is_exhausted l a c) (exhausted c) y (λ e. let b = exhausted_is e in spent b.0 b.1 (counted_less (omega arith) (counted_none c))) (λ e. takes_on (omega arith) (counted_one c e) h)

-- ---- what is in hand

module _ {l : Bool} {a c most : ℕ} {A : Type 0} {P : A → Type 0} {Q : Failure → Type 0} where
  value_is : {x : A} {c' : ℕ} → Takes l a c most P Q (ok x c') → P x × Counted l a c most c'
  value_is (value p n) = (p, n)

  failure_is : {why : Failure} {c' : ℕ} → Takes l a c most P Q (failed why c') → Q why × Counted l a c most c'
  failure_is (failure q n) = (q, n)

  pub value_of : {g : Result A} {x : A} {c' : ℕ} → Takes l a c most P Q g → g ≡ ok x c' → P x × Counted l a c most c'
  value_of h e = value_is (subst (Takes l a c most P Q) e h)

  pub failure_of_lem : {g : Result A} {why : Failure} {c' : ℕ} → Takes l a c most P Q g → g ≡ failed why c' → Q why × Counted l a c most c'
  failure_of_lem h e = failure_is (subst (Takes l a c most P Q) e h)

-- ---- a stage with no allowance that does not fail has a value

pub record Value {A : Type 0} (a c most : ℕ) (P : A → Type 0) (g : Result A) : Type 0 where
  pub value : A
  pub count : ℕ
  pub same : g ≡ ok value count
  pub holds : P value
  pub counted : Counted false a c most count

pub has_value : {a c most : ℕ} {A : Type 0} {P : A → Type 0} {Q : Failure → Type 0} {g : Result A} → ((why : Failure) → Q why → ⊥) → Takes false a c most P Q g → Value a c most P g
has_value f (value {x = x} {c' = c} p n) = record { value = x; count = c; same = refl; holds = p; counted = n }
has_value f (failure {why = why} q n) = absurd (f why q)
has_value f (spent i e n) = absurd (differ i refl)

-- ---- and one that has none fails

pub record Failed {A : Type 0} (Q : Failure → Type 0) (g : Result A) : Type 0 where
  pub why : Failure
  pub count : ℕ
  pub same : g ≡ failed why count
  pub holds : Q why

pub has_failure : {a c most : ℕ} {A : Type 0} {P : A → Type 0} {Q : Failure → Type 0} {g : Result A} → ((x : A) → P x → ⊥) → Takes false a c most P Q g → Failed Q g
has_failure f (value {x = x} p n) = absurd (f x p)
has_failure f (failure {why = why} {c' = c} q n) = record { why = why; count = c; same = refl; holds = q }
has_failure f (spent i e n) = absurd (differ i refl)
