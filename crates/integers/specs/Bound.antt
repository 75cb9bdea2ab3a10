-- The size of an integer, and that it is bounded: |z| is at most B. `Bound` is a record, so that z and B are inferred.
use Rattle.std.specs.Prelude.{ℕ, suc, ◌+◌, ◌≤◌, ℤ, pos, negsuc}

-- the positive and the negative part: z is p z − m z
abbrev pub p : ℤ → ℕ
p (pos n) = n
p (negsuc n) = 0

abbrev pub m : ℤ → ℕ
m (pos n) = 0
m (negsuc n) = suc n

abbrev pub size : ℤ → ℕ
size z = p z + m z

pub record Bound (z : ℤ) (B : ℕ) : Type 0 where
  pub at_most : size z ≤ B
