-- The value that the bits of a finite float give is the float's exact value; so the floor and the ceiling that they give are those of the exact value.
-- Assumes nothing.
use mathlib.Core.Path.{◌≡◌, refl, sym, ap, ◌∙◌}
use mathlib.Core.Bool.{Bool, true, false, cond, true≢false}
use Prim.Native.Nat.{ℕ, zero, suc, ◌+◌, ◌-◌, ◌*◌, ◌/◌, ◌%◌, ◌^◌, ◌≤◌, ◌<◌}
use native.Mathlib.Nat.{mod-lt, mul-le-mul}
use native.Mathlib.Omega.{arith}
use lib.Dec.{T, eqb, leb}
use lib.Arith.{lt_of_le-ne}
use lib.Pow.{pow_mono}
use lib.Ieee.{Float, nan, inf, binary32, odd, of_fields, of_bits, to_bits, fits}
use lib.Ieee.Bits.{of_bits-to_bits}
use lib.Ieee.Exact.{odd_sign}
use borrow.Author.Tests.{ne_eqb}
use Rattle.integers.proofs.Division.{floor_lo, floor_most, ceil_hi, ceil_least}
use Rattle.machine_spec.specs.Machine.{outward_div}
use Rattle.readings_spec.specs.Exact.{unit, signed, finite, scaled}
use Rattle.readings_spec.specs.FromBits.{sign_weight, leading, negative, exponent, digits, not_finite, significand, from_bits, rounded_bits, RoundsFromBits}
use Rattle.readings_spec.proofs.Exact.{unit_pos, scaled_of}

-- a sign, an exponent's field and digits
fields : (s : Bool) (x t : ℕ) → x < not_finite → scaled (of_fields binary32 s x t) ≡ signed s (significand x t * 2 ^ (x - 1))
unfolding of_fields significand
fields s zero t h = scaled_of (odd 24 s t 0 149) s (t * 2 ^ 0) (odd_sign 24 s t 0 149)
fields s (suc x) t h =
    ap (λ (b : Bool). scaled (cond b (cond (eqb t 0) (inf s) nan) (odd 24 s (leading + t) x 149))) (ne_eqb (suc x) not_finite (λ e. omega arith))
    ∙ scaled_of (odd 24 s (leading + t) x 149) s ((leading + t) * 2 ^ x) (odd_sign 24 s (leading + t) x 149)
    ∙ ap (λ (k : ℕ). signed s ((leading + t) * 2 ^ k)) (sym (less x))
  where
    less : (x : ℕ) → suc x - 1 ≡ x
    less x = omega arith

pub value_of : (b : ℕ) → exponent b < not_finite → scaled (of_bits binary32 b) ≡ from_bits b
unfolding of_bits from_bits negative exponent digits
value_of b h = fields (leb sign_weight b) (b % sign_weight / leading) (b % leading) h

pub rounds_from_bits : RoundsFromBits
unfolding rounded_bits outward_div
rounds_from_bits b size h =
    rw (value_of b h) (
      record { below = floor_lo (from_bits b) unit unit_pos; greatest = λ other k. floor_most (from_bits b) other unit unit_pos k },
      record { above = ceil_hi (from_bits b) unit unit_pos; least = λ other k. ceil_least (from_bits b) other unit unit_pos k },
    )

-- ---- the bits of a float

-- the exponent's field has eight bits
field_size : (b : ℕ) → exponent b < suc not_finite
unfolding exponent
field_size b = omega (arith, mod-lt b (let p : 0 < sign_weight = omega arith in p))

-- all of them ones are an infinity's or a NaN's
all_ones : (s : Bool) (x t : ℕ) → x ≡ not_finite → finite (of_fields binary32 s x t) ≡ false
unfolding of_fields finite
all_ones s x t e = rw e (either (eqb t 0))
  where
    either : (b : Bool) → finite (cond b (inf s) nan) ≡ false
    either true = refl
    either false = refl

finite_field : (b : ℕ) → finite (of_bits binary32 b) ≡ true → exponent b < not_finite
unfolding of_bits exponent
finite_field b f = lt_of_le-ne (let l : exponent b ≤ not_finite = omega (arith, field_size b) in l) (λ e. true≢false (sym f ∙ all_ones (leb sign_weight b) (exponent b) (b % leading) e))

pub bits_of : (x : Float) → T (fits binary32 x) → finite x ≡ true → scaled x ≡ from_bits (to_bits binary32 x)
bits_of x f k =
    let b = to_bits binary32 x in
    let e : of_bits binary32 b ≡ x = of_bits-to_bits binary32 x f in
    ap scaled (sym e) ∙ value_of b (finite_field b (ap finite e ∙ k))

-- the size of a float with a great field
pub too_great : (x t : ℕ) → 150 < x → 2 ^ 173 ≤ significand x t * 2 ^ (x - 1)
unfolding significand
too_great zero t h = absurd (let z : ⊥ = omega arith in z)
too_great (suc x) t h =
    let a : 2 ^ 150 ≤ 2 ^ x = pow_mono (let l : 150 ≤ x = omega arith in l) in
    let b : leading * 2 ^ 150 ≤ (leading + t) * 2 ^ x = mul-le-mul (let l : leading ≤ leading + t = omega arith in l) a in
    let e : suc x - 1 ≡ x = omega arith in
    rw e b
