-- A test of each number below n, as `all` and `any` of a range make it. Assumes nothing.
use mathlib.Core.Path.{◌≡◌, refl, sym, ap, ap₂, ◌∙◌}
use mathlib.Core.Bool.{Bool, ◌&&◌, ◌||◌}
use Prim.Native.Nat.{ℕ, zero, suc, ◌+◌}
use native.Mathlib.Omega.{arith}
use Rattle.std.proofs.Math.Bool.{and_assoc, and-true, true-and, or_assoc, or-false, false-or}
use Rattle.std.specs.List.{range_with_len, list_all, list_any}
use Rattle.sheet_spec.specs.Box.{all, any}
use Rattle.sheet_spec.proofs.Box.{all_same, any_same}

-- the first number in place of the last
all_front : (n : ℕ) (f : ℕ → Bool) → all (suc n) f ≡ (f 0 && all n (λ i. f (suc i)))
unfolding all
all_front zero f = true-and (f 0) ∙ sym (and-true (f 0))
all_front (suc n) f = ap (λ (b : Bool). b && f (suc n)) (all_front n f) ∙ and_assoc (f 0) (all n (λ i. f (suc i))) (f (suc n))

any_front : (n : ℕ) (f : ℕ → Bool) → any (suc n) f ≡ (f 0 || any n (λ i. f (suc i)))
unfolding any
any_front zero f = false-or (f 0) ∙ sym (or-false (f 0))
any_front (suc n) f = ap (λ (b : Bool). b || f (suc n)) (any_front n f) ∙ or_assoc (f 0) (any n (λ i. f (suc i))) (f (suc n))

all_from : (a n : ℕ) (f : ℕ → Bool) → list_all f (range_with_len a n) ≡ all n (λ i. f (a + i))
unfolding all
all_from a zero f = refl
all_from a (suc n) f =
    ap₂ ◌&&◌ (ap f (omega arith)) (all_from (a + 1) n f ∙ all_same n _ _ (λ i l. ap f (omega arith))) ∙ sym (all_front n (λ i. f (a + i)))

any_from : (a n : ℕ) (f : ℕ → Bool) → list_any f (range_with_len a n) ≡ any n (λ i. f (a + i))
unfolding any
any_from a zero f = refl
any_from a (suc n) f =
    ap₂ ◌||◌ (ap f (omega arith)) (any_from (a + 1) n f ∙ any_same n _ _ (λ i l. ap f (omega arith))) ∙ sym (any_front n (λ i. f (a + i)))

pub all_range : (n : ℕ) (f : ℕ → Bool) → list_all f (range_with_len 0 n) ≡ all n f
all_range n f = all_from 0 n f ∙ all_same n _ _ (λ i l. ap f (omega arith))

pub any_range : (n : ℕ) (f : ℕ → Bool) → list_any f (range_with_len 0 n) ≡ any n f
any_range n f = any_from 0 n f ∙ any_same n _ _ (λ i l. ap f (omega arith))
