-- `parts_of`: the parts of a value in range, worked out from its bits. Assumes nothing.
use Rattle.std.proofs.Common.{rules, ◌≡◌, ℕ, ◌-◌, ◌*◌, ◌/◌, ◌%◌, ◌^◌, ◌<◌, min, T, true, arith}
use lib.Dec.{eqb}
use lib.Ieee.{Float, binary32, fits, to_bits}
use Rattle.readings_spec.specs.Reading.{value_in}
use Rattle.readings_spec.specs.FromBits.{negative, exponent, digits, significand, from_bits}
use Rattle.readings_spec.proofs.Sides.{not_nan, value_bits, small_field}
use Rattle.readings.specs.Rounding.{PartsOf}
use Rattle.readings.proofs.Rounding.{whole_part}
use Rattle.readings.proofs.parts_of.Goals as goal

pub float_to_bits-bits : goal.float_to_bits-bits
float_to_bits-bits c = not_nan c.args.x c.requires

pub fraction_digits-behind-requires : goal.fraction_digits-behind-requires
unfolding exponent
fraction_digits-behind-requires c = small_field c.args.x (search rules) c.requires

-- from what the calls give
parts : (x : Float) (sig p : ℕ) → T (fits binary32 x) → value_in x ≡ true
    → sig ≡ significand (exponent (to_bits binary32 x)) (digits (to_bits binary32 x)) → sig < 2 ^ 24 → p ≡ min 24 (149 - (exponent (to_bits binary32 x) - 1))
    → PartsOf x (record { negative = negative (to_bits binary32 x); whole = sig / 2 ^ p; exact = eqb (sig / 2 ^ p * 2 ^ p % 2 ^ 32) sig })
unfolding from_bits
parts x sig p f inside is small at =
    let b = to_bits binary32 x in
    let place = exponent b - 1 in
    let r = whole_part sig place p small at (omega (arith, small_field x f inside)) in
    record {
      size = sig * 2 ^ place;
      value = rw is (value_bits x f inside);
      whole = r.0;
      exact = r.1;
    }

pub returns : goal.returns
unfolding negative exponent digits
returns c =
    parts c.args.x c.significand-all.result c.fraction_digits-behind.result (search rules) c.requires c.significand-all.ensures.0 c.significand-all.ensures.1 c.fraction_digits-behind.ensures
