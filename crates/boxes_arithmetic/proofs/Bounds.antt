-- Laws for the numbers that the code works out or reads. Assumes nothing.
use mathlib.Core.Path.{◌≡◌}
use Prim.Native.Nat.{ℕ, ◌^◌, ◌<◌}
use native.Mathlib.Omega.{arith}
use native.Mathlib.Nat.{div-le_self}
use lib.IntN.{ℤ, pos, negsuc, neg_ℤ, ◌-ℤ◌, ◌*ℤ◌}
use lib.Signed.{mag, ◌≤ℤ◌}
use mir.Syntax.{w32, w64}
use mir.Val.{hbits, to_z, of_z}
use borrow.Author.Rules.{sfits_of}
use Rattle.integers.specs.Bound.{Bound}
use Rattle.integers.specs.Division.{floor_div, ceil_div}
use Rattle.integers.proofs.Z.{ints, flat, neg, from32, bound_in, bound_neg}
use Rattle.sheet_spec.specs.Valid.{Between}

-- the code's −z
pub zero_less : (z : ℤ) → pos 0 -ℤ z ≡ neg_ℤ z
zero_less z = simp flat (omega ints)

pub times_low : (k : ℕ) (z : ℤ) → pos 0 ≤ℤ z → pos 0 ≤ℤ (pos k *ℤ z)
times_low k (pos n) h = omega ints
times_low k (negsuc n) h = absurd h.le

-- a number of the sheet's value that was read and cast
pub wide : (z : ℤ) → mag z < 2 ^ hbits w32 → to_z w64 (of_z w64 (to_z w32 (of_z w32 z))) ≡ z
wide z h = from32 (sfits_of h)

pub floor_bound : {z : ℤ} {B : ℕ} (q : ℕ) → Bound z B → Bound (floor_div z q) B
unfolding floor_div
floor_bound {z = pos n} q h = record { at_most = omega (arith, div-le_self n q, h.at_most) }
floor_bound {z = negsuc n} q h = record { at_most = omega (arith, div-le_self n q, h.at_most) }

pub ceil_bound : {z : ℤ} {B : ℕ} (q : ℕ) → Bound z B → Bound (ceil_div z q) B
unfolding ceil_div
ceil_bound q h = bound_neg (floor_bound q (bound_neg h))

-- what lies within a cap goes no further than it
pub between_bound : {b : ℕ} {c z : ℤ} → Bound c b → Between (neg_ℤ c) c z → Bound z b
between_bound {b} {c} h k = bound_in (omega (ints, k.low, h.at_most, neg c, neg (pos b))) (omega (ints, k.high, h.at_most))
