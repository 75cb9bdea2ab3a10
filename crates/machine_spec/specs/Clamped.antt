-- The clamp by comparisons (document 02, paper 6): a rounded quotient is clamped to l..h just where its dividend reaches q·l or q·h. So code that
-- compares first divides no other dividend, and every change, and every command of a law that follows the state (paper 9), is the one that the
-- documents define.
use Rattle.std.specs.Prelude.{◌≡◌, ℤ, pos, nat_abs, ◌*ℤ◌, ◌≤ℤ◌, ◌<ℤ◌}
use Rattle.integers.specs.Division.{floor_div, ceil_div}
use Rattle.machine_spec.specs.Machine.{clamp_to}

-- y, the quotient x / q rounded to one side, after the clamp to the range from l to h
pub record ByComparison (l h x q y : ℤ) : Type 0 where
  -- at or below q·l it is l
  pub low : x ≤ℤ (q *ℤ l) → clamp_to l h y ≡ l
  -- at or above q·h it is h
  pub high : (q *ℤ h) ≤ℤ x → clamp_to l h y ≡ h
  -- strictly between them it is the quotient
  pub between : (q *ℤ l) <ℤ x → x <ℤ (q *ℤ h) → clamp_to l h y ≡ y

-- of every dividend, rounded down and rounded up. For a change l..h is −cap..cap, for a command it is the safety range
abbrev pub ClampedByComparison : Type 0
ClampedByComparison =
    (l h x q : ℤ) → l ≤ℤ h → pos 1 ≤ℤ q → ByComparison l h x q (floor_div x (nat_abs q)) × ByComparison l h x q (ceil_div x (nat_abs q))
