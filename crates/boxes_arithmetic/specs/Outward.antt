-- What the code works out for a face, by its direction: `false` for a lower and `true` for an upper one.
use Rattle.std.specs.Prelude.{Bool, true, false, ℤ}
use Rattle.std.specs.Int.Signed.{le_z}

-- x is no further out than z
unfoldable pub no_further : Bool → ℤ → ℤ → Bool
no_further false z x = le_z z x
no_further true z x = le_z x z
