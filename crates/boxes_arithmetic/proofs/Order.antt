-- What std's `min` and `max` of signed numbers give is the lesser and the greater. Assumes nothing.
use Rattle.std.proofs.Common.{◌≡◌, ℤ, arith}
use Rattle.std.specs.Int.{int_min, int_max}
use Rattle.std.proofs.lemmas.Int.{clamps}
use Rattle.integers.specs.Order.{min_z, max_z}
use Rattle.integers.proofs.Z.{ints, min_is, max_is}

pub int_min_is : (x y : ℤ) → int_min x y ≡ min_z x y
int_min_is x y = omega (arith, ints, clamps, min_is x y)

pub int_max_is : (x y : ℤ) → int_max x y ≡ max_z x y
int_max_is x y = omega (arith, ints, clamps, max_is x y)
