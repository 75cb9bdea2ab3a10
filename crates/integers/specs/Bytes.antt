-- Big-endian numbers, unsigned and in two's complement, at any width.
use Rattle.std.specs.Prelude.{List, [], ◌∷◌, ℕ, zero, suc, ◌+◌, ◌*◌, ◌/◌, ◌%◌, ◌^◌, ◌<◌, length, get_or, ℤ}
use Rattle.std.specs.Int.{Width}
use mir.Val.{to_z, of_z, bytes}

-- the number that the bytes are, the first the highest
unfoldable pub be : List ℕ → ℕ
be [] = 0
be (b ∷ bs) = b * 256 ^ length bs + be bs

-- the last k bytes of n, the highest first
unfoldable pub be_bytes : ℕ → ℕ → List ℕ
be_bytes zero n = []
be_bytes (suc k) n = n / 256 ^ k % 256 ∷ be_bytes k n

-- two's complement
unfoldable pub decode : Width → List ℕ → ℤ
decode w bs = to_z w (be bs)

unfoldable pub encode : Width → ℤ → List ℕ
encode w z = be_bytes (bytes w) (of_z w z)

abbrev pub Bytes : List ℕ → Type 0
Bytes bs = (k : ℕ) → get_or bs k 0 < 256
