-- Between a signed number and its bits, in code that has no cast for it: -1 - v for the upper half. Over the width. Assumes nothing.
use mathlib.Core.Path.{◌≡◌, refl, sym, ap, ◌∙◌}
use Prim.Native.Nat.{ℕ, suc, ◌+◌, ◌-◌, ◌^◌, ◌≤◌, ◌<◌}
use native.Mathlib.Omega.{arith}
use lib.Dec.{T}
use lib.IntN.{ℤ, pos, negsuc, nat_abs, ◌-ℤ◌}
use lib.Signed.{◌<ℤ◌, ◌≤ℤ◌, non_neg}
use mir.Syntax.{Width}
use mir.Val.{SFits, Fits, to_z, of_z, bits, hbits}
use mir.ValLaws.{pow-bits}
use mir.Facts.{to_z-of_z, to_z_pos, to_z-neg}
use Rattle.integers.proofs.Z.{ints, flat}

from_pos : (k : ℕ) → negsuc 0 -ℤ pos k ≡ negsuc k
from_pos k = simp flat (omega ints)

from_neg : (k : ℕ) → negsuc 0 -ℤ negsuc k ≡ pos k
from_neg k = simp flat (omega ints)

-- to the number: u in the upper half, v = 2 ^ bits - 1 - u
module _ (w : Width) (u v : ℕ) (h : v < 2 ^ hbits w) where
  v_is : negsuc 0 -ℤ to_z w v ≡ negsuc v
  v_is = ap (λ (z : ℤ). negsuc 0 -ℤ z) (to_z_pos w h) ∙ from_pos v

  pub upper_fits : SFits w (negsuc 0 -ℤ to_z w v)
  upper_fits = rw v_is (record { sfits = h })

  pub upper : u + suc v ≡ 2 ^ bits w → to_z w (of_z w (negsuc 0 -ℤ to_z w v)) ≡ to_z w u
  upper e =
      to_z-of_z upper_fits ∙ v_is ∙ sym (to_z-neg w v h) ∙ ap (to_z w) (omega (arith, e))

-- to the bits: x is negative, and y = -1 - x
pub record Low (w : Width) (x : ℤ) : Type 0 where
  pub fits : SFits w (negsuc 0 -ℤ x)
  pub sign : T (non_neg (negsuc 0 -ℤ x))
  pub size : Fits w (nat_abs (negsuc 0 -ℤ x))
  pub most : nat_abs (negsuc 0 -ℤ x) ≤ 2 ^ bits w - 1
  pub is : 2 ^ bits w - 1 - nat_abs (negsuc 0 -ℤ x) ≡ of_z w x

pub low : (w : Width) (x : ℤ) → x <ℤ pos 0 → SFits w x → Low w x
low w (pos n) h k = let z : ⊥ = omega ints in absurd z
low w (negsuc n) h k =
    let e = from_neg n in
    let l = k.sfits in
    let q = pow-bits w in
    record {
      fits = rw e (record { sfits = l });
      sign = rw e tt;
      size = rw e (record { fits = omega arith });
      most = rw e (omega arith);
      is = rw e (omega arith);
    }

-- x is not negative
pub record High (w : Width) (x : ℤ) : Type 0 where
  pub sign : T (non_neg x)
  pub size : Fits w (nat_abs x)
  pub is : nat_abs x ≡ of_z w x

pub high : (w : Width) (x : ℤ) → pos 0 ≤ℤ x → SFits w x → High w x
high w (pos n) h k =
    let l = k.sfits in
    let q = pow-bits w in
    record { sign = tt; size = record { fits = omega arith }; is = refl }
high w (negsuc n) h k = absurd h.le
