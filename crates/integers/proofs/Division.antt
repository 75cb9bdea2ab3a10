-- Division of an integer by a positive number, rounded down and rounded up. Assumes nothing.
use mathlib.Core.Path.{◌≡◌, refl}
use Prim.Native.Nat.{ℕ, zero, suc, ◌/◌, ◌%◌, ◌≤◌, ◌<◌, zero-le}
use native.Mathlib.Nat.{div-add-mod, mod-lt, div-le_self, le_trans}
use native.Mathlib.Omega.{arith}
use mir.Syntax.{Width}
use mir.Val.{SFits, of_z}
use mir.ValLaws.{sfits_le}
use lib.IntN.{ℤ, pos, negsuc, neg_ℤ, ◌+ℤ◌, ◌-ℤ◌, ◌*ℤ◌, nat_abs}
use lib.Signed.{◌≤ℤ◌, ◌<ℤ◌, quot_z, rem_z, mag, mag_rem}
use Rattle.integers.specs.Bound.{p, m, size, Bound}
use Rattle.integers.specs.Division.{floor_div, ceil_div}
use Rattle.integers.proofs.Z.{ints, flat, mul_mono, le_by, neg_is}

-- −7/2 (document 01, "Shortcuts that let the sledge through")
outward : (floor_div (negsuc 6) 2 ≡ negsuc 3) × (ceil_div (negsuc 6) 2 ≡ negsuc 2)
unfolding floor_div ceil_div
outward = (refl, refl)

pub floor_lo : (z : ℤ) (q : ℕ) → 0 < q → (pos q *ℤ floor_div z q) ≤ℤ z
unfolding floor_div
floor_lo (pos n) q h = simp flat (omega (ints, div-add-mod n q))
floor_lo (negsuc n) q h = simp flat (omega (ints, div-add-mod n q, mod-lt n h))

pub floor_hi : (z : ℤ) (q : ℕ) → 0 < q → z <ℤ (pos q *ℤ (floor_div z q +ℤ pos 1))
unfolding floor_div
floor_hi (pos n) q h = simp flat (omega (ints, div-add-mod n q, mod-lt n h))
floor_hi (negsuc n) q h = simp flat (omega (ints, div-add-mod n q))

-- the greatest whose multiple is at most z
pub floor_most : (z f : ℤ) (q : ℕ) → 0 < q → (pos q *ℤ f) ≤ℤ z → f ≤ℤ floor_div z q
floor_most z f q h k =
    le_by f (floor_div z q) (λ n.
    let a = floor_hi z q h in
    let b = mul_mono (pos q) (floor_div z q +ℤ pos 1) f (omega ints) (simp flat (omega ints)) in
    omega ints)

pub floor_mono : (z y : ℤ) (q : ℕ) → 0 < q → z ≤ℤ y → floor_div z q ≤ℤ floor_div y q
floor_mono z y q h k = let a = floor_lo z q h in floor_most y (floor_div z q) q h (omega ints)

-- the only one
pub floor_only : (z f : ℤ) (q : ℕ) → 0 < q → (pos q *ℤ f) ≤ℤ z → z <ℤ (pos q *ℤ (f +ℤ pos 1)) → f ≡ floor_div z q
floor_only z f q h k l =
    let a = floor_most z f q h k in
    let b = floor_lo z q h in
    let c : floor_div z q ≤ℤ f = le_by (floor_div z q) f (λ n.
    let d = mul_mono (pos q) (f +ℤ pos 1) (floor_div z q) (omega ints) (simp flat (omega ints)) in
    omega ints) in
    omega ints

-- rounded up
pub ceil_hi : (z : ℤ) (q : ℕ) → 0 < q → z ≤ℤ (pos q *ℤ ceil_div z q)
unfolding ceil_div
ceil_hi z q h = simp flat (omega (ints, simp flat at (floor_lo (neg_ℤ z) q h)))

pub ceil_lo : (z : ℤ) (q : ℕ) → 0 < q → (pos q *ℤ (ceil_div z q -ℤ pos 1)) <ℤ z
unfolding ceil_div
ceil_lo z q h = simp flat (omega (ints, simp flat at (floor_hi (neg_ℤ z) q h)))

pub ceil_least : (z c : ℤ) (q : ℕ) → 0 < q → z ≤ℤ (pos q *ℤ c) → ceil_div z q ≤ℤ c
unfolding ceil_div
ceil_least z c q h k =
    let a = floor_most (neg_ℤ z) (neg_ℤ c) q h (simp flat (omega (ints, simp flat at k))) in
    simp flat (omega (ints, simp flat at a))

pub ceil_mono : (z y : ℤ) (q : ℕ) → 0 < q → z ≤ℤ y → ceil_div z q ≤ℤ ceil_div y q
ceil_mono z y q h k = let a = ceil_hi y q h in ceil_least z (ceil_div y q) q h (omega ints)

pub ceil_only : (z c : ℤ) (q : ℕ) → 0 < q → z ≤ℤ (pos q *ℤ c) → (pos q *ℤ (c -ℤ pos 1)) <ℤ z → c ≡ ceil_div z q
unfolding ceil_div
ceil_only z c q h k l =
    let a = floor_only (neg_ℤ z) (neg_ℤ c) q h (simp flat (omega (ints, simp flat at k))) (simp flat (omega (ints, simp flat at l))) in
    simp flat (omega (ints, simp flat at a))

pub floor_le_ceil : (z : ℤ) (q : ℕ) → 0 < q → floor_div z q ≤ℤ ceil_div z q
floor_le_ceil z q h = le_by (floor_div z q) (ceil_div z q) (λ n.
    let a = floor_lo z q h in
    let b = ceil_hi z q h in
    let d = mul_mono (pos q) (ceil_div z q +ℤ pos 1) (floor_div z q) (omega ints) (simp flat (omega ints)) in
    omega (ints, simp flat at d, simp flat at a, simp flat at b))

-- ---- the code's `/` and `%`, which round toward zero, by a positive divisor
pub quot_rem : (n : ℤ) (b : ℕ) → n ≡ pos b *ℤ quot_z n (pos b) +ℤ rem_z n (pos b)
quot_rem (pos a) b = simp flat (omega (ints, div-add-mod a b))
quot_rem (negsuc a) b = simp flat (omega (ints, div-add-mod (suc a) b))

pub rem_range : (n : ℤ) (b : ℕ) → 0 < b → (rem_z n (pos b) <ℤ pos b) × (neg_ℤ (pos b) <ℤ rem_z n (pos b))
rem_range (pos a) b h = (omega (ints, mod-lt a h), simp flat (omega (ints, mod-lt a h)))
rem_range (negsuc a) b h = (simp flat (omega (ints, mod-lt (suc a) h)), simp flat (omega (ints, mod-lt (suc a) h)))

pub floor_down : (n q : ℤ) → pos 1 ≤ℤ q → rem_z n q <ℤ pos 0 → quot_z n q -ℤ pos 1 ≡ floor_div n (nat_abs q)
floor_down n (negsuc b) h k = absurd h.le
floor_down n (pos b) h k =
    let e = simp flat at (quot_rem n b) in
    let r = rem_range n b (omega ints) in
    let s = simp flat at r.1 in
    floor_only n (quot_z n (pos b) -ℤ pos 1) b (omega ints) (simp flat (omega ints)) (simp flat (omega ints))

pub floor_same : (n q : ℤ) → pos 1 ≤ℤ q → pos 0 ≤ℤ rem_z n q → quot_z n q ≡ floor_div n (nat_abs q)
floor_same n (negsuc b) h k = absurd h.le
floor_same n (pos b) h k =
    let e = simp flat at (quot_rem n b) in
    let r = rem_range n b (omega ints) in
    floor_only n (quot_z n (pos b)) b (omega ints) (simp flat (omega ints)) (simp flat (omega ints))

pub ceil_up : (n q : ℤ) → pos 1 ≤ℤ q → pos 0 <ℤ rem_z n q → quot_z n q +ℤ pos 1 ≡ ceil_div n (nat_abs q)
ceil_up n (negsuc b) h k = absurd h.le
ceil_up n (pos b) h k =
    let e = simp flat at (quot_rem n b) in
    let r = rem_range n b (omega ints) in
    ceil_only n (quot_z n (pos b) +ℤ pos 1) b (omega ints) (simp flat (omega ints)) (simp flat (omega ints))

pub ceil_same : (n q : ℤ) → pos 1 ≤ℤ q → rem_z n q ≤ℤ pos 0 → quot_z n q ≡ ceil_div n (nat_abs q)
ceil_same n (negsuc b) h k = absurd h.le
ceil_same n (pos b) h k =
    let e = simp flat at (quot_rem n b) in
    let r = rem_range n b (omega ints) in
    let s = simp flat at r.1 in
    ceil_only n (quot_z n (pos b)) b (omega ints) (simp flat (omega ints)) (simp flat (omega ints))

-- what `n / q` and `n % q` ask
mag_neg : (r a : ℕ) → r ≤ suc a → mag (neg_ℤ (pos r)) ≤ a
mag_neg zero a h = zero-le
mag_neg (suc r) a h = omega arith

pub mag_quot : (n q : ℤ) → pos 1 ≤ℤ q → mag (quot_z n q) ≤ mag n
mag_quot n (negsuc b) h = absurd h.le
mag_quot (pos a) (pos b) h = div-le_self a b
mag_quot (negsuc a) (pos b) h = mag_neg (suc a / b) a (div-le_self (suc a) b)

pub quot_fits : {w : Width} {n q : ℤ} → pos 1 ≤ℤ q → SFits w n → SFits w (quot_z n q)
quot_fits {n} {q} h k = sfits_le (mag_quot n q h) k

pub rem_fits : {w : Width} {n : ℤ} (q : ℤ) → SFits w n → SFits w (rem_z n q)
rem_fits {n} q k = sfits_le (mag_rem n q) k

pub of_z_pos : (w : Width) (q : ℤ) → pos 1 ≤ℤ q → 0 < of_z w q
of_z_pos w (pos n) h = omega ints
of_z_pos w (negsuc n) h = absurd h.le

pub quot_parts : (n q : ℤ) → pos 1 ≤ℤ q → (p (quot_z n q) ≤ p n) × (m (quot_z n q) ≤ m n)
quot_parts n (negsuc b) h = absurd h.le
quot_parts (pos a) (pos b) h = omega (arith, div-le_self a b)
quot_parts (negsuc a) (pos b) h = omega (arith, div-le_self (suc a) b, neg_is (suc a / b))

-- `Bound` through `/` and `%` by a positive literal
neg_size : (n : ℕ) → size (neg_ℤ (pos n)) ≡ n
neg_size zero = omega arith
neg_size (suc n) = omega arith

pub div_mono : {a b k : ℕ} → 0 < k → a ≤ b → a / k ≤ b / k
unfolding floor_div
div_mono {a} {b} {k} h q = omega (ints, floor_mono (pos a) (pos b) k h (omega ints))

pub bound_quot : {n : ℤ} {B : ℕ} (k : ℕ) → 0 < k → Bound n B → Bound (quot_z n (pos k)) (B / k)
bound_quot {n = pos a} {B} k l h = record { at_most = le_trans (omega arith) (div_mono {a = a} {b = B} l (omega arith)) }
bound_quot {n = negsuc a} {B} k l h = record { at_most = le_trans (omega (arith, neg_size (suc a / k))) (div_mono {a = suc a} {b = B} l (omega arith)) }

pub bound_rem : (n : ℤ) (k : ℕ) → 0 < k → Bound (rem_z n (pos k)) k
bound_rem (pos a) k h = record { at_most = omega (arith, mod-lt a h) }
bound_rem (negsuc a) k h = record { at_most = omega (arith, neg_size (suc a % k), mod-lt (suc a) h) }
