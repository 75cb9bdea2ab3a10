-- A slot's number z, which the code holds as r in 64 bits, and what it computes of it. Assumes nothing.
use mathlib.Core.Path.{◌≡◌, sym, ap, ◌∙◌}
use Prim.Native.Nat.{ℕ, ◌^◌, ◌<◌}
use native.Mathlib.Omega.{arith}
use lib.IntN.{ℤ, pos, neg_ℤ, ◌-ℤ◌}
use lib.Signed.{mag}
use mir.Syntax.{w32, w64}
use mir.Val.{Fits, SFits, to_z, of_z, hbits}
use mir.Facts.{to_z-of_z, to_z_pos}
use Rattle.integers.specs.Bound.{Bound}
use Rattle.integers.proofs.Z.{ints, flat, fits64, told}

module _ {r z : ℤ} (e : r ≡ z) (b : Bound r 2147483648) where
  pub held : z ≡ to_z w64 (of_z w64 r)
  held = sym (to_z-of_z (fits64 b tt) ∙ e)

  pub computed : (f : ℤ → ℤ) → SFits w64 (f (to_z w64 (of_z w64 r))) → f z ≡ to_z w64 (of_z w64 (f (to_z w64 (of_z w64 r))))
  computed f h = ap f held ∙ sym (to_z-of_z h)

zero_minus : (z : ℤ) → neg_ℤ z ≡ pos 0 -ℤ z
zero_minus z = simp flat (omega ints)

-- a bound m of a side, and −m
module _ (m : ℕ) (h : Fits w32 m) where
  pub most : pos m ≡ to_z w64 m
  most = sym (to_z_pos w64 (omega arith))

  pub minus_fits : SFits w64 (pos 0 -ℤ to_z w64 m)
  minus_fits = rw (← most) (simp flat (omega ints))

  pub minus : neg_ℤ (pos m) ≡ to_z w64 (of_z w64 (pos 0 -ℤ to_z w64 m))
  minus = zero_minus (pos m) ∙ ap (λ (z : ℤ). pos 0 -ℤ z) most ∙ sym (to_z-of_z minus_fits)

-- what a slot holds after a store
pub stored : {r z : ℤ} → r ≡ z → mag r < 2 ^ hbits w32 → to_z w32 (of_z w32 r) ≡ z
stored {r} e h = told w32 r h ∙ e
