-- What a comparison with the end that a face goes towards says of its change. Assumes nothing.
use mathlib.Core.Path.{◌≡◌}
use mathlib.Core.Bool.{Bool, true, false, not}
use Prim.Native.Nat.{◌*◌}
use lib.Dec.{lit≤}
use lib.IntN.{ℤ, neg_ℤ, nat_abs, ◌*ℤ◌}
use Rattle.integers.specs.Bound.{Bound}
use Rattle.integers.proofs.Z.{ints, le_true, le_false, mul_neg, bound_less, bound_neg, bound_mul}
use Rattle.sheet_spec.specs.Limits.{max_cap, max_divisor}
use Rattle.machine_spec.specs.Machine.{clamp, outward_div}
use Rattle.machine_spec.specs.Rate.{neutral}
use Rattle.boxes_arithmetic.specs.Limits.{CommandAsked, QuotientAsked, WithinAsked}
use Rattle.boxes_arithmetic.specs.Outward.{no_further}
use Rattle.boxes_arithmetic.proofs.Command.{compared}
use Rattle.boxes_arithmetic.proofs.Quotient.{divisor_bound, below_most, above_least}

-- either cap
pub neutral_bound : (up : Bool) {cap : ℤ} → Bound cap max_cap → Bound (neutral up cap) max_cap
unfolding neutral
neutral_bound false h = h
neutral_bound true h = bound_neg h

module _ {cap q z : ℤ} (asked : QuotientAsked cap q z) where
  -- the clamp of a change is to the range from −cap to cap
  pub range : CommandAsked (neg_ℤ cap) cap q
  range = record {
    least = bound_less (bound_neg asked.capped.small) (lit≤ tt);
    greatest = bound_less asked.capped.small (lit≤ tt);
    ordered = omega (ints, asked.capped.between.low, asked.capped.between.high);
    divisor = asked.divisor;
  }

  pub most_bound : Bound (q *ℤ cap) (max_divisor * max_cap)
  most_bound = bound_mul (divisor_bound asked.divisor) asked.capped.small

  -- a dividend at or beyond the end that the face goes towards is clamped to it
  pub clamped_there : (up : Bool) (x : ℤ) → no_further up x (neutral (not up) (q *ℤ cap)) ≡ true → clamp cap (outward_div up x (nat_abs q)) ≡ neutral (not up) cap
  unfolding no_further neutral clamp
  clamped_there false x h = (compared range false x).low (omega (ints, le_true x (neg_ℤ (q *ℤ cap)) h, mul_neg q cap))
  clamped_there true x h = (compared range true x).high (le_true (q *ℤ cap) x h)

  -- one before it that is further out than the outermost so far lies strictly between the ends
  pub strictly_within : (up : Bool) (x : ℤ) → no_further up (z *ℤ q) x ≡ false → no_further up x (neutral (not up) (q *ℤ cap)) ≡ false → WithinAsked (neg_ℤ cap) cap x q
  unfolding no_further neutral
  strictly_within false x out before = record {
    range = range;
    above = omega (ints, le_false x (neg_ℤ (q *ℤ cap)) before, mul_neg q cap);
    below = below_most asked.capped x q asked.divisor.low (le_false (z *ℤ q) x out);
  }
  strictly_within true x out before = record {
    range = range;
    above = rw (mul_neg q cap) (above_least asked.capped x q asked.divisor.low (le_false x (z *ℤ q) out));
    below = le_false (q *ℤ cap) x before;
  }
