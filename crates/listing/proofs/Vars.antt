-- The number of variables of any file, 0 if it is refused. Assumes nothing.
use mathlib.Core.Path.{◌≡◌, refl, sym, ◌∙◌, subst}
use mathlib.Core.List.{List}
use Prim.Native.Nat.{ℕ, zero, suc, ◌≤◌}
use native.Mathlib.Omega.{arith}
use lib.IntN.{ℤ, pos}
use lib.Signed.{◌≤ℤ◌}
use Rattle.integers.proofs.Z.{ints}
use Rattle.sheet_spec.specs.Slots.{◌!◌, N, vars, vars_slot}
use Rattle.sheet_spec.specs.Sheet.{refusal, values, zeros}
use Rattle.sheet_spec.proofs.Valid.{valid_numbers, values_zero}

-- v's number of variables is one for which there is room
pub record VarsInRange (v : List ℤ) : Type 0 where
  pub low : pos 0 ≤ℤ v ! vars_slot
  pub high : vars v ≤ N

pub vars_in_range : (f : List ℕ) → VarsInRange (values f)
unfolding zeros
vars_in_range f = go (refusal f) refl
  where
    go : (c : ℕ) → refusal f ≡ c → VarsInRange (values f)
    go zero e = record { low = (valid_numbers f e).head vars_slot (omega arith); high = omega (arith, (valid_numbers f e).vars_high) }
    go (suc c) e = subst VarsInRange (sym (values_zero f (λ z. let x : ◌≡◌ {A = ℕ} 0 (suc c) = sym z ∙ e in omega arith))) (record { low = omega ints; high = omega arith })
