-- Numbers as bytes: four each, big-endian, in two's complement.
use Rattle.std.specs.Prelude.{List, [], ◌∷◌, ◌++◌, ℕ, zero, suc, ℤ}
use Rattle.sheet_spec.specs.Slots.{◌!◌}
use Rattle.sheet_spec.specs.Fields.{i32, encoded}
use Rattle.sheet_spec.specs.Box.{lo, hi}

-- the bytes of the first k numbers
unfoldable pub number_bytes : List ℤ → ℕ → List ℕ
number_bytes zs zero = []
number_bytes zs (suc k) = number_bytes zs k ++ encoded i32 (zs ! k)

-- lower and upper side of each of n variables
unfoldable pub sides_of : ℕ → List ℤ → List ℤ
sides_of zero B = []
sides_of (suc n) B = sides_of n B ++ (lo B n ∷ hi B n ∷ [])
