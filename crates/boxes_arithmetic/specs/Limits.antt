-- How far the numbers go that the code is given, and what it asks of its caller.
use Rattle.std.specs.Prelude.{ℕ, ◌*◌, ℤ, pos, neg_ℤ, ◌-ℤ◌, ◌*ℤ◌, ◌≤ℤ◌, ◌<ℤ◌}
use Rattle.integers.specs.Bound.{Bound}
use Rattle.sheet_spec.specs.Limits.{max_cap, max_command, max_divisor}
use Rattle.sheet_spec.specs.Valid.{Between}

-- no side that the code takes is greater, without its sign
abbrev pub limit : ℕ
limit = 16777216

-- nor a number of 32 bits
abbrev pub word : ℕ
word = 2147483648

-- the base is no further from 0 than a command, and x is above q·base, by no more than q times twice as much
pub record AboveAsked (base x q : ℤ) : Type 0 where
  pub near : Bound base max_command
  pub divisor : Between (pos 1) (pos max_divisor) q
  pub above : (q *ℤ base) <ℤ x
  pub below : (x -ℤ q *ℤ base) ≤ℤ pos (max_divisor * (2 * max_command))

-- l and h are ends of a range of commands, in order, and q is the divisor of a law
pub record CommandAsked (l h q : ℤ) : Type 0 where
  pub least : Bound l max_command
  pub greatest : Bound h max_command
  pub ordered : l ≤ℤ h
  pub divisor : Between (pos 1) (pos max_divisor) q

-- and x is strictly between q·l and q·h: the range does not clamp x / q
pub record WithinAsked (l h x q : ℤ) : Type 0 where
  pub range : CommandAsked l h q
  pub above : (q *ℤ l) <ℤ x
  pub below : x <ℤ (q *ℤ h)

-- z lies from −cap to cap
pub record Capped (cap z : ℤ) : Type 0 where
  pub small : Bound cap max_cap
  pub between : Between (neg_ℤ cap) cap z

-- a quotient by q can be worked out and clamped, beside the outermost so far, z
pub record QuotientAsked (cap q z : ℤ) : Type 0 where
  pub divisor : Between (pos 1) (pos max_divisor) q
  pub capped : Capped cap z
