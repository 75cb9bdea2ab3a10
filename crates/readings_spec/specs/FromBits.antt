-- Floor and ceiling worked out from the 32 bits of a float, and what they are: the greatest whole number that is not above the float's exact
-- value, and the least that is not below it. proofs/FromBits proves it for every finite float, subnormal ones and both zeros included.
use Rattle.std.specs.Prelude.{Bool, true, false, ℕ, zero, suc, ◌+◌, ◌-◌, ◌*◌, ◌/◌, ◌%◌, ◌^◌, ◌<◌, leb, ℤ, ◌≤ℤ◌}
use Rattle.std.specs.Float.{binary32}
use Rattle.std.specs.Float.Ieee.{of_bits}
use Rattle.machine_spec.specs.Machine.{outward_div}
use Rattle.readings_spec.specs.Exact.{unit, signed, scaled, whole}

-- ---- the fields of a pattern of 32 bits: its sign, the field of the exponent, and the digits behind the leading one

-- the weight of the sign, and that of the exponent's field, which is that of the leading digit too
abbrev pub sign_weight : ℕ
sign_weight = 2 ^ 31

abbrev pub leading : ℕ
leading = 2 ^ 23

unfoldable pub negative : ℕ → Bool
negative b = leb sign_weight b

unfoldable pub exponent : ℕ → ℕ
exponent b = b % sign_weight / leading

unfoldable pub digits : ℕ → ℕ
digits b = b % leading

-- the exponent's field of an infinity or a NaN
abbrev pub not_finite : ℕ
not_finite = 255

-- the digits with the leading one, which a field of 0 has not
unfoldable pub significand : ℕ → ℕ → ℕ
significand zero t = t
significand (suc x) t = leading + t

-- the value in units; fields of 0 and 1 have the same weight
unfoldable pub from_bits : ℕ → ℤ
from_bits b = signed (negative b) (significand (exponent b) (digits b) * 2 ^ (exponent b - 1))

unfoldable pub rounded_bits : Bool → ℕ → ℤ
rounded_bits ceiling b = outward_div ceiling (from_bits b) unit

-- ---- what they are

-- z is the greatest whole number not above the value x in units, or the least not below it
pub record Floor (x z : ℤ) : Type 0 where
  pub below : whole z ≤ℤ x
  pub greatest : (other : ℤ) → whole other ≤ℤ x → other ≤ℤ z

pub record Ceiling (x z : ℤ) : Type 0 where
  pub above : x ≤ℤ whole z
  pub least : (other : ℤ) → x ≤ℤ whole other → z ≤ℤ other

abbrev pub RoundsFromBits : Type 0
RoundsFromBits =
    (b : ℕ) → b < 2 ^ 32 → exponent b < not_finite
    → Floor (scaled (of_bits binary32 b)) (rounded_bits false b) × Ceiling (scaled (of_bits binary32 b)) (rounded_bits true b)
