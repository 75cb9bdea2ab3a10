-- Quotients around zero, quotients of a number that is moved by multiples of the divisor, and how close a quotient rounded to either
-- side is. Assumes nothing.
use mathlib.Core.Path.{◌≡◌, refl, sym}
use Prim.Native.Nat.{ℕ, ◌<◌}
use lib.IntN.{ℤ, pos, negsuc, neg_ℤ, ◌+ℤ◌, ◌-ℤ◌, ◌*ℤ◌}
use lib.Signed.{◌≤ℤ◌, ◌<ℤ◌}
use Rattle.integers.specs.Division.{floor_div, ceil_div}
use Rattle.integers.proofs.Z.{ints, flat, le_by, mul_mono, prod}
use Rattle.integers.proofs.Division.{floor_lo, floor_hi, floor_only, ceil_lo, ceil_hi, ceil_only}

-- ---- around zero

-- −q, −1, 0, 1 and q, rounded down: by any divisor over 1
pub record FloorAroundZero (q : ℕ) : Type 0 where
  pub minus_q : floor_div (neg_ℤ (pos q)) q ≡ negsuc 0
  pub minus_one : floor_div (negsuc 0) q ≡ negsuc 0
  pub zero : floor_div (pos 0) q ≡ pos 0
  pub one : floor_div (pos 1) q ≡ pos 0
  pub plus_q : floor_div (pos q) q ≡ pos 1

-- rounded up
pub record CeilAroundZero (q : ℕ) : Type 0 where
  pub minus_q : ceil_div (neg_ℤ (pos q)) q ≡ negsuc 0
  pub minus_one : ceil_div (negsuc 0) q ≡ pos 0
  pub zero : ceil_div (pos 0) q ≡ pos 0
  pub one : ceil_div (pos 1) q ≡ pos 1
  pub plus_q : ceil_div (pos q) q ≡ pos 1

pub floor_around_zero : (q : ℕ) → 1 < q → FloorAroundZero q
floor_around_zero q h =
    let is : (z f : ℤ) → (pos q *ℤ f) ≤ℤ z → z <ℤ (pos q *ℤ (f +ℤ pos 1)) → floor_div z q ≡ f = λ z f low high. sym (floor_only z f q (omega ints) low high) in
    record {
      minus_q = is (neg_ℤ (pos q)) (negsuc 0) (simp flat (omega ints)) (simp flat (omega ints));
      minus_one = is (negsuc 0) (negsuc 0) (simp flat (omega ints)) (simp flat (omega ints));
      zero = is (pos 0) (pos 0) (simp flat (omega ints)) (simp flat (omega ints));
      one = is (pos 1) (pos 0) (simp flat (omega ints)) (simp flat (omega ints));
      plus_q = is (pos q) (pos 1) (simp flat (omega ints)) (simp flat (omega ints));
    }

pub ceil_around_zero : (q : ℕ) → 1 < q → CeilAroundZero q
ceil_around_zero q h =
    let is : (z c : ℤ) → z ≤ℤ (pos q *ℤ c) → (pos q *ℤ (c -ℤ pos 1)) <ℤ z → ceil_div z q ≡ c = λ z c high low. sym (ceil_only z c q (omega ints) high low) in
    record {
      minus_q = is (neg_ℤ (pos q)) (negsuc 0) (simp flat (omega ints)) (simp flat (omega ints));
      minus_one = is (negsuc 0) (pos 0) (simp flat (omega ints)) (simp flat (omega ints));
      zero = is (pos 0) (pos 0) (simp flat (omega ints)) (simp flat (omega ints));
      one = is (pos 1) (pos 1) (simp flat (omega ints)) (simp flat (omega ints));
      plus_q = is (pos q) (pos 1) (simp flat (omega ints)) (simp flat (omega ints));
    }

-- by 1 nothing is rounded
by_one : (z : ℤ) → (floor_div z 1 ≡ z) × (ceil_div z 1 ≡ z)
by_one z = (sym (floor_only z z 1 (omega ints) (simp flat (omega ints)) (simp flat (omega ints))), sym (ceil_only z z 1 (omega ints) (simp flat (omega ints)) (simp flat (omega ints))))

-- by 20, computed
floor_by_20 : FloorAroundZero 20
unfolding floor_div
floor_by_20 = record { minus_q = refl; minus_one = refl; zero = refl; one = refl; plus_q = refl }

ceil_by_20 : CeilAroundZero 20
unfolding floor_div ceil_div
ceil_by_20 = record { minus_q = refl; minus_one = refl; zero = refl; one = refl; plus_q = refl }

-- by 4,096, the greatest divisor of a sheet, computed
floor_by_4096 : FloorAroundZero 4096
unfolding floor_div
floor_by_4096 = record { minus_q = refl; minus_one = refl; zero = refl; one = refl; plus_q = refl }

ceil_by_4096 : CeilAroundZero 4096
unfolding floor_div ceil_div
ceil_by_4096 = record { minus_q = refl; minus_one = refl; zero = refl; one = refl; plus_q = refl }

-- ---- moved by c times the divisor

pub floor_moved : (z c : ℤ) (q : ℕ) → 0 < q → floor_div z q ≡ floor_div (z +ℤ pos q *ℤ c) q -ℤ c
floor_moved z c q h =
    let moved : floor_div z q +ℤ c ≡ floor_div (z +ℤ pos q *ℤ c) q =
    floor_only (z +ℤ pos q *ℤ c) (floor_div z q +ℤ c) q h (simp flat (omega (ints, simp flat at (floor_lo z q h)))) (simp flat (omega (ints, simp flat at (floor_hi z q h)))) in
    rw (sym moved) (simp flat (omega ints))

-- ---- rounded to either side

-- y is less than one off x / q
pub record Close (x : ℤ) (q : ℕ) (y : ℤ) : Type 0 where
  pub low : x <ℤ (pos q *ℤ y +ℤ pos q)
  pub high : (pos q *ℤ y) <ℤ (x +ℤ pos q)

pub floor_close : (x : ℤ) (q : ℕ) → 0 < q → Close x q (floor_div x q)
floor_close x q h =
    let lo = floor_lo x q h in
    let hi = floor_hi x q h in
    record { low = simp flat (omega (ints, simp flat at hi)); high = simp flat (omega (ints, simp flat at lo)) }

pub ceil_close : (x : ℤ) (q : ℕ) → 0 < q → Close x q (ceil_div x q)
ceil_close x q h =
    let lo = ceil_lo x q h in
    let hi = ceil_hi x q h in
    record { low = simp flat (omega (ints, simp flat at hi)); high = simp flat (omega (ints, simp flat at lo)) }

-- how y lies to z, by how x lies to q·z
module _ {x y : ℤ} {q : ℕ} (positive : 0 < q) (near : Close x q y) (z : ℤ) where
  pub close_most : x ≤ℤ (pos q *ℤ z) → y ≤ℤ z
  close_most h = le_by y z (λ g.
      let far = mul_mono (pos q) (z +ℤ pos 1) y (omega ints) (simp flat (omega ints)) in
      omega (ints, simp flat at far, simp flat at near.high, prod (pos q) z))

  pub close_least : (pos q *ℤ z) ≤ℤ x → z ≤ℤ y
  close_least h = le_by z y (λ g.
      let far = mul_mono (pos q) (y +ℤ pos 1) z (omega ints) (simp flat (omega ints)) in
      omega (ints, simp flat at far, simp flat at near.low, prod (pos q) z))
