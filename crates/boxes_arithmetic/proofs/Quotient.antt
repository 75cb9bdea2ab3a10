-- Laws of a division that 32 bits hold, and of the outer one of a number and a quotient. Assumes nothing.
use mathlib.Core.Path.{◌≡◌, refl}
use mathlib.Core.Bool.{Bool, true, false}
use Prim.Native.Nat.{ℕ, suc, ◌*◌, ◌/◌, ◌<◌}
use native.Mathlib.Omega.{arith}
use native.Mathlib.Nat.{div-le_self}
use lib.Dec.{T}
use lib.IntN.{ℤ, pos, negsuc, neg_ℤ, nat_abs, ◌+ℤ◌, ◌-ℤ◌, ◌*ℤ◌}
use lib.Signed.{non_neg, yes_non_neg, ◌≤ℤ◌, ◌<ℤ◌}
use mir.Syntax.{w32}
use mir.Val.{Fits}
use Rattle.integers.specs.Bound.{Bound}
use Rattle.integers.specs.Order.{min_z}
use Rattle.integers.specs.Division.{floor_div}
use Rattle.integers.proofs.Z.{ints, flat, le_true, le_false, neg, mul_mono, mul_neg, min_is, max_is, bound_in, bound_mul}
use Rattle.integers.proofs.Rounding.{Close, floor_moved, floor_close, ceil_close, close_most, close_least}
use Rattle.sheet_spec.specs.Limits.{max_command, max_divisor}
use Rattle.sheet_spec.specs.Valid.{Between}
use Rattle.machine_spec.specs.Machine.{clamp, outward_div}
use Rattle.machine_spec.specs.Rate.{outer}
use Rattle.boxes_arithmetic.specs.Limits.{AboveAsked, Capped}
use Rattle.boxes_arithmetic.specs.Outward.{no_further}

-- ---- what 32 bits hold without a sign

-- what a dividend may be above its base times the divisor
abbrev pub widest : ℕ
widest = max_divisor * (2 * max_command)

pub unsigned : (z : ℤ) → pos 0 ≤ℤ z → Bound z widest → T (non_neg z) × Fits w32 (nat_abs z)
unsigned (pos n) h k = (yes_non_neg h, record { fits = omega (arith, k.at_most) })
unsigned (negsuc n) h k = absurd h.le

pub positive_size : (q : ℤ) → pos 1 ≤ℤ q → 0 < nat_abs q
positive_size (pos n) h = omega ints
positive_size (negsuc n) h = absurd h.le

pub quotient_bound : {z : ℤ} {B : ℕ} (q : ℕ) → Bound z B → Bound (pos (nat_abs z / q)) B
quotient_bound {z = pos n} q h = record { at_most = omega (arith, div-le_self n q, h.at_most) }
quotient_bound {z = negsuc n} q h = record { at_most = omega (arith, div-le_self (suc n) q, h.at_most) }

pub divisor_bound : {q : ℤ} → Between (pos 1) (pos max_divisor) q → Bound q max_divisor
divisor_bound d = bound_in (omega (ints, d.low, neg (pos max_divisor))) d.high

-- ---- a dividend x above q·base

module _ {base x q : ℤ} (asked : AboveAsked base x q) where
  pub base_bound : Bound (q *ℤ base) (max_divisor * max_command)
  base_bound = bound_mul (divisor_bound asked.divisor) asked.near

  pub moved_low : pos 0 ≤ℤ (x -ℤ q *ℤ base)
  moved_low = simp flat (omega (ints, simp flat at asked.above))

  pub moved_bound : Bound (x -ℤ q *ℤ base) widest
  moved_bound = bound_in (omega (ints, moved_low, neg (pos widest))) asked.below

floored : (z : ℤ) (q : ℕ) → pos 0 ≤ℤ z → pos (nat_abs z / q) ≡ floor_div z q
unfolding floor_div
floored (pos n) q h = refl
floored (negsuc n) q h = absurd h.le

-- the code's quotient of x − q·base, moved back
pub moved_back : (base x q : ℤ) → pos 1 ≤ℤ q → pos 0 ≤ℤ (x -ℤ q *ℤ base) → pos (nat_abs (x -ℤ q *ℤ base) / nat_abs q) +ℤ base ≡ floor_div x (nat_abs q)
moved_back base x (negsuc b) h k = absurd h.le
moved_back base x (pos b) h k =
    let e : x +ℤ pos b *ℤ neg_ℤ base ≡ x -ℤ pos b *ℤ base = simp flat (omega ints) in
    rw (floored (x -ℤ pos b *ℤ base) b k) (simp flat (omega (ints, simp flat at (rw e at (floor_moved x (neg_ℤ base) b (omega ints))))))

-- ---- quotients of either face

outward_close : (up : Bool) (x : ℤ) (q : ℕ) → 0 < q → Close x q (outward_div up x q)
unfolding outward_div
outward_close false x q h = floor_close x q h
outward_close true x q h = ceil_close x q h

-- z·q is q·z
pub turned : (z q : ℤ) → z *ℤ q ≡ q *ℤ z
turned z q = simp flat (omega ints)

-- ---- z, the outermost so far, lies within the cap: what z·q says of ±q·cap, and z of a clamped number

module _ {cap z : ℤ} (capped : Capped cap z) where
  pub below_most : (x q : ℤ) → pos 1 ≤ℤ q → x <ℤ (z *ℤ q) → x <ℤ (q *ℤ cap)
  below_most x q one h = let far = mul_mono q z cap (omega (ints, one)) capped.between.high in omega (ints, turned z q)

  pub above_least : (x q : ℤ) → pos 1 ≤ℤ q → (z *ℤ q) <ℤ x → neg_ℤ (q *ℤ cap) <ℤ x
  above_least x q one h =
      let far = mul_mono q (neg_ℤ cap) z (omega (ints, one)) capped.between.low in
      omega (ints, far, mul_neg q cap, turned z q)

  clamp_least : (y : ℤ) → z ≤ℤ y → z ≤ℤ clamp cap y
  unfolding clamp
  clamp_least y h = omega (ints, capped.between.low, capped.between.high, max_is (neg_ℤ cap) (min_z y cap), min_is y cap)

  clamp_most : (y : ℤ) → y ≤ℤ z → clamp cap y ≤ℤ z
  unfolding clamp
  clamp_most y h = omega (ints, capped.between.low, capped.between.high, max_is (neg_ℤ cap) (min_z y cap), min_is y cap)

-- ---- the outer one of z and of the clamped quotient

-- it is z where x is no further out than z·q
pub outer_stays : (up : Bool) (cap z x q : ℤ) → Capped cap z → pos 1 ≤ℤ q → no_further up (z *ℤ q) x ≡ true → z ≡ outer up z (clamp cap (outward_div up x (nat_abs q)))
unfolding outer no_further
outer_stays up cap z x (negsuc b) capped one h = absurd one.le
outer_stays false cap z x (pos b) capped one h =
    let y = outward_div false x b in
    let inner = clamp_least capped y (close_least (omega ints) (outward_close false x b (omega ints)) z (omega (ints, le_true (z *ℤ pos b) x h, turned z (pos b)))) in
    omega (ints, min_is z (clamp cap y))
outer_stays true cap z x (pos b) capped one h =
    let y = outward_div true x b in
    let inner = clamp_most capped y (close_most (omega ints) (outward_close true x b (omega ints)) z (omega (ints, le_true x (z *ℤ pos b) h, turned z (pos b)))) in
    omega (ints, max_is z (clamp cap y))

-- elsewhere it is the clamped quotient
pub outer_moves : (up : Bool) (cap z x q : ℤ) → Capped cap z → pos 1 ≤ℤ q → no_further up (z *ℤ q) x ≡ false → clamp cap (outward_div up x (nat_abs q)) ≡ outer up z (clamp cap (outward_div up x (nat_abs q)))
unfolding outer no_further
outer_moves up cap z x (negsuc b) capped one h = absurd one.le
outer_moves false cap z x (pos b) capped one h =
    let y = outward_div false x b in
    let further = clamp_most capped y (close_most (omega ints) (outward_close false x b (omega ints)) z (omega (ints, le_false (z *ℤ pos b) x h, turned z (pos b)))) in
    omega (ints, min_is z (clamp cap y))
outer_moves true cap z x (pos b) capped one h =
    let y = outward_div true x b in
    let further = clamp_least capped y (close_least (omega ints) (outward_close true x b (omega ints)) z (omega (ints, le_false x (z *ℤ pos b) h, turned z (pos b)))) in
    omega (ints, max_is z (clamp cap y))
