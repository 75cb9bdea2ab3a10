-- Division of an integer by a positive number, rounded down and rounded up.
use Rattle.std.specs.Prelude.{ℕ, ◌/◌, ℤ, pos, negsuc, neg_ℤ}

unfoldable pub floor_div : ℤ → ℕ → ℤ
floor_div (pos n) q = pos (n / q)
floor_div (negsuc n) q = negsuc (n / q)

unfoldable pub ceil_div : ℤ → ℕ → ℤ
ceil_div z q = neg_ℤ (floor_div (neg_ℤ z) q)
