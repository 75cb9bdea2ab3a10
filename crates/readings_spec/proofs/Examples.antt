-- The definitions compute at every edge: floor and ceiling by the value and by the bits, the ranges, the refusals, and sides. Assumes nothing.
use mathlib.Core.Path.{◌≡◌, refl}
use mathlib.Core.Bool.{Bool, true, false, ◌&&◌}
use mathlib.Core.List.{List, [], ◌∷◌}
use Prim.Native.Nat.{ℕ}
use lib.IntN.{ℤ, pos, negsuc}
use lib.Signed.{le_z}
use lib.Ieee.{Float, binary32, of_bits}
use Rattle.integers.specs.Division.{floor_div, ceil_div}
use Rattle.sheet_spec.specs.Refusals.{unless_refused, first_refusal}
use Rattle.machine_spec.specs.Machine.{outward_div}
use Rattle.readings_spec.specs.declared.Reading.{Reading}
use Rattle.readings_spec.specs.declared.Reading.TheVariants.{Point, Pair, Missing}
use Rattle.readings_spec.specs.Exact.{finite, scaled, rounded, between}
use Rattle.readings_spec.specs.FromBits.{negative, exponent, digits, significand, from_bits, rounded_bits}
use Rattle.readings_spec.specs.Reading.{reading_side, value_in, tolerance_in, reading_refusal, readings_refusal}

-- the float of a pattern of bits
pub float : ℕ → Float
float b = of_bits binary32 b

-- ---- floor and ceiling

same : ℤ → ℤ → Bool
same a b = le_z a b && le_z b a

-- the floor and the ceiling of a pattern, by its value and by its bits
rounds : ℕ → ℤ → ℤ → Bool
rounds b l h = same (rounded false (float b)) l && same (rounded true (float b)) h && same (rounded_bits false b) l && same (rounded_bits true b) h

every : List Bool → Bool
every [] = true
every (b ∷ bs) = b && every bs

-- both zeros; the least float above 0, the greatest below it; the greatest subnormal one and the next; ±1/2, ±3/2; ±1 and the next toward 0; −7/2
small : every (
    rounds 0x00000000 (pos 0) (pos 0) ∷ rounds 0x80000000 (pos 0) (pos 0) ∷ rounds 0x00000001 (pos 0) (pos 1) ∷ rounds 0x80000001 (negsuc 0) (pos 0)
    ∷ rounds 0x007fffff (pos 0) (pos 1) ∷ rounds 0x00800000 (pos 0) (pos 1) ∷ rounds 0x3f000000 (pos 0) (pos 1) ∷ rounds 0xbf000000 (negsuc 0) (pos 0)
    ∷ rounds 0x3fc00000 (pos 1) (pos 2) ∷ rounds 0xbfc00000 (negsuc 1) (negsuc 0) ∷ rounds 0x3f800000 (pos 1) (pos 1) ∷ rounds 0xbf800000 (negsuc 0) (negsuc 0)
    ∷ rounds 0x3f7fffff (pos 0) (pos 1) ∷ rounds 0xbf7fffff (negsuc 0) (pos 0) ∷ rounds 0xc0600000 (negsuc 3) (negsuc 2) ∷ []) ≡ true
unfolding float same rounds every of_bits finite scaled rounded outward_div floor_div ceil_div negative exponent digits significand from_bits rounded_bits
small = refl

-- 999,999.9375; ±1,000,000; 2^23 − 1/2 with either sign, 2^23 and 2^23 + 1; the greatest float
great : every (
    rounds 0x497423ff (pos 999999) (pos 1000000) ∷ rounds 0x49742400 (pos 1000000) (pos 1000000) ∷ rounds 0xc9742400 (negsuc 999999) (negsuc 999999)
    ∷ rounds 0x4affffff (pos 8388607) (pos 8388608) ∷ rounds 0xcaffffff (negsuc 8388607) (negsuc 8388606) ∷ rounds 0x4b000000 (pos 8388608) (pos 8388608)
    ∷ rounds 0x4b000001 (pos 8388609) (pos 8388609)
    ∷ rounds 0x7f7fffff (pos 340282346638528859811704183484516925440) (pos 340282346638528859811704183484516925440) ∷ []) ≡ true
unfolding float same rounds every of_bits finite scaled rounded outward_div floor_div ceil_div negative exponent digits significand from_bits rounded_bits
great = refl

-- ---- ranges

-- up to ±1,000,000; the next floats, 2^23, the infinities and NaNs are not values
values_in : (value_in (float 0x49742400) ≡ true) × (value_in (float 0xc9742400) ≡ true) × (value_in (float 0x80000000) ≡ true)
unfolding float of_bits finite scaled between value_in
values_in = (refl, refl, refl)

values_out : (value_in (float 0x49742401) ≡ false) × (value_in (float 0xc9742401) ≡ false) × (value_in (float 0x4b000000) ≡ false) × (value_in (float 0x7f800000) ≡ false)
    × (value_in (float 0xff800000) ≡ false) × (value_in (float 0x7fc00000) ≡ false) × (value_in (float 0xff800001) ≡ false)
unfolding float of_bits finite scaled between value_in
values_out = (refl, refl, refl, refl, refl, refl, refl)

-- minus zero is a tolerance, and so is 1,000; the least float below 0 is none, nor is the next above 1,000
tolerances : (tolerance_in (float 0x80000000) ≡ true) × (tolerance_in (float 0x447a0000) ≡ true) × (tolerance_in (float 0x80000001) ≡ false) × (tolerance_in (float 0x447a0001) ≡ false)
    × (tolerance_in (float 0x7f800000) ≡ false) × (tolerance_in (float 0x7fc00000) ≡ false)
unfolding float of_bits finite scaled between tolerance_in
tolerances = (refl, refl, refl, refl, refl, refl)

-- ---- readings

point : ℕ → ℕ → Reading
point v t = Point (record { value = float v; tolerance = float t })

pair : ℕ → ℕ → Reading
pair l u = Pair (float l) (float u)

-- 2,999.5 with 1/4; the same below 0; −1,000,000 with 1, whose side is then refused with 15; −0 with −0
points : (reading_side false (point 0x453b7800 0x3e800000) ≡ pos 2998) × (reading_side true (point 0x453b7800 0x3e800000) ≡ pos 3001)
    × (reading_side false (point 0xc53b7800 0x3e800000) ≡ negsuc 3000) × (reading_side true (point 0xc53b7800 0x3e800000) ≡ negsuc 2997)
    × (reading_side false (point 0xc9742400 0x3f800000) ≡ negsuc 1000000) × (reading_side false (point 0x80000000 0x80000000) ≡ pos 0)
unfolding float of_bits finite scaled rounded outward_div floor_div ceil_div point reading_side
points = (refl, refl, refl, refl, refl, refl)

-- the floats next to 2,999.2 and 3,000.1
pairs : (reading_side false (pair 0x453b7333 0x453b819a) ≡ pos 2999) × (reading_side true (pair 0x453b7333 0x453b819a) ≡ pos 3001)
unfolding float of_bits finite scaled rounded outward_div floor_div ceil_div pair reading_side
pairs = (refl, refl)

-- in order are −0 and 0, and 0 and −0; 3/2 and 1 are not, nor are 0 and the greatest float below it
orders : (reading_refusal (pair 0x80000000 0x00000000) ≡ 0) × (reading_refusal (pair 0x00000000 0x80000000) ≡ 0) × (reading_refusal (pair 0x3fc00000 0x3f800000) ≡ 19)
    × (reading_refusal (pair 0x00000000 0x80000001) ≡ 19)
unfolding float of_bits finite scaled between value_in pair reading_refusal
orders = (refl, refl, refl, refl)

-- the first variable decides: missing, then a NaN, and the other way round; one beyond n is not looked at
firsts : (readings_refusal 2 (Missing ∷ point 0x7fc00000 0 ∷ []) ≡ 18) × (readings_refusal 2 (point 0x7fc00000 0 ∷ Missing ∷ []) ≡ 19) × (readings_refusal 1 (point 0 0 ∷ Missing ∷ []) ≡ 0)
unfolding float of_bits finite scaled between value_in tolerance_in point reading_refusal readings_refusal first_refusal unless_refused
firsts = (refl, refl, refl)
