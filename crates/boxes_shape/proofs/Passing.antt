-- Tests of each number of a range, as iterators make them. Assumes nothing.
use mathlib.Core.Path.{◌≡◌, sym, ◌∙◌, subst}
use mathlib.Core.Bool.{Bool, true, false}
use Prim.Native.Nat.{ℕ, ◌<◌, ◌≤◌}
use native.Mathlib.Omega.{arith}
use lib.ListN.{length, get_or}
use Rattle.std.specs.Bool.{MatchBool}
use Rattle.std.specs.List.{range_with_len, AllWithin, HoldsAt}
use Rattle.std.proofs.lemmas.List.FromFn.{length-range_with_len, get_or-range_with_len}
use Rattle.std.specs.Option.{MatchOption, unwrap_or}
use Rattle.std.specs.declared.option.Option.{Option}
use Rattle.std.specs.declared.option.Option.TheVariants.{None, Some}
use Rattle.sheet_spec.specs.Box.{all, lowest_passing}
use Rattle.sheet_spec.proofs.Box.{all_of, all_stop, any_of_none, lowest_at, lowest_none}

at_place : (n i : ℕ) → i < n → get_or (range_with_len 0 n) i 0 ≡ i
at_place n i h = get_or-range_with_len 0 n i 0 h ∙ omega arith

-- what `all` says of the numbers below n
pub all_is : (n : ℕ) (test : ℕ → Bool) (r : Bool)
    → MatchBool r (AllWithin (λ k. test k ≡ true) (range_with_len 0 n) 0 (length (range_with_len 0 n)))
    ((k : ℕ) × (k < length (range_with_len 0 n)) × HoldsAt (λ k. test k ≡ false) (range_with_len 0 n) k) → r ≡ all n test
all_is n test true h =
    sym (all_of n test (λ i l.
    subst (λ (k : ℕ). test k ≡ true) (at_place n i l) (h i 0 (omega arith) (rw (length-range_with_len 0 n) l))))
all_is n test false (k, l, h) =
    let below : k < n = rw (length-range_with_len 0 n) at l in
    sym (all_stop n test k below (subst (λ (j : ℕ). test j ≡ false) (at_place n k below) (h 0)))

-- what `find` says of the lowest number below n, with n where it finds none
pub lowest_is_first : (n : ℕ) (test : ℕ → Bool) (r : Option ℕ)
    → MatchOption r ((k : ℕ) → 0 ≤ k → k < n → test k ≡ false) (λ i. (0 ≤ i) × (i < n) × (test i ≡ true) × ((k : ℕ) → 0 ≤ k → k < i → test k ≡ false))
    → unwrap_or r n ≡ lowest_passing n test
lowest_is_first n test None none = sym (lowest_none n test (any_of_none n test (λ k l. none k (omega arith) l)))
lowest_is_first n test (Some i) (from, below, passes, first) =
    sym (lowest_at n test i below (any_of_none i test (λ k l. first k (omega arith) l)) passes)
