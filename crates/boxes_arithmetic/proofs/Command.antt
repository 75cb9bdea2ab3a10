-- A quotient that is clamped to a range of commands l..h: what is asked of the division where x lies strictly between q·l and q·h. Assumes nothing.
use mathlib.Core.Path.{◌≡◌}
use mathlib.Core.Bool.{Bool, true, false}
use Prim.Native.Nat.{ℕ, ◌*◌}
use lib.IntN.{ℤ, pos, neg_ℤ, nat_abs, ◌*ℤ◌}
use lib.Signed.{◌<ℤ◌}
use Rattle.integers.specs.Bound.{Bound}
use Rattle.integers.proofs.Z.{ints, sub, neg, mul_neg, bound_in, bound_neg, bound_mul}
use Rattle.sheet_spec.specs.Limits.{max_command, max_divisor}
use Rattle.machine_spec.specs.Machine.{outward_div}
use Rattle.machine_spec.specs.Clamped.{ByComparison}
use Rattle.machine_spec.proofs.Clamped.{clamped_by_comparison}
use Rattle.boxes_arithmetic.specs.Limits.{AboveAsked, CommandAsked, WithinAsked}
use Rattle.boxes_arithmetic.proofs.Quotient.{divisor_bound}

-- a command times the divisor
abbrev pub dividend_limit : ℕ
dividend_limit = max_divisor * max_command

module _ {l h q : ℤ} (asked : CommandAsked l h q) where
  -- the clamp by comparisons, of a quotient that is rounded to either side
  pub compared : (up : Bool) (x : ℤ) → ByComparison l h x q (outward_div up x (nat_abs q))
  unfolding outward_div
  compared false x = (clamped_by_comparison l h x q asked.ordered asked.divisor.low).0
  compared true x = (clamped_by_comparison l h x q asked.ordered asked.divisor.low).1

  pub least_near : Bound (q *ℤ l) dividend_limit
  least_near = bound_mul (divisor_bound asked.divisor) asked.least

  pub greatest_near : Bound (q *ℤ h) dividend_limit
  greatest_near = bound_mul (divisor_bound asked.divisor) asked.greatest

  module _ {x : ℤ} (a : (q *ℤ l) <ℤ x) (b : x <ℤ (q *ℤ h)) where
    pub dividend_near : Bound x dividend_limit
    dividend_near = bound_in (omega (ints, a, least_near.at_most, neg (pos dividend_limit))) (omega (ints, b, greatest_near.at_most))

    -- x is above q·l, and its negative above q·(−h)
    pub above_least : AboveAsked l x q
    above_least = record {
      near = asked.least;
      divisor = asked.divisor;
      above = a;
      below = omega (ints, sub x (q *ℤ l), b, least_near.at_most, greatest_near.at_most);
    }

    pub above_greatest : AboveAsked (neg_ℤ h) (neg_ℤ x) q
    above_greatest = record {
      near = bound_neg asked.greatest;
      divisor = asked.divisor;
      above = omega (ints, mul_neg q h, neg (q *ℤ h), neg x, b);
      below = omega (ints, sub (neg_ℤ x) (q *ℤ neg_ℤ h), mul_neg q h, neg (q *ℤ h), neg x, a, least_near.at_most, greatest_near.at_most);
    }

-- ---- the dividend x that the division is given, however the code comes by it

pub given : {l h y q : ℤ} (x : ℤ) → WithinAsked l h x q → y ≡ x → WithinAsked l h y q
given x asked e = rw e asked

pub divided : (up v : Bool) (r x y p q : ℤ) → r ≡ outward_div v y (nat_abs p) → v ≡ up → y ≡ x → p ≡ q → r ≡ outward_div up x (nat_abs q)
divided up v r x y p q is d e f = rw (d, e, f) at is
