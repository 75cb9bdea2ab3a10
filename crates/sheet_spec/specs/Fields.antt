-- The numbers of a record, each a field: its bytes, its value, its range. All is said once, for any fields p 0, p 1, ..
use Rattle.std.specs.Prelude.{◌&&◌, List, [], ◌++◌, ℕ, zero, suc, ◌+◌, ℤ, pos, set, take, drop}
use Rattle.std.specs.Int.Signed.{le_z}
use Rattle.std.specs.Int.{w16, w32}
use Rattle.std.proofs.Common.{of_z}
use Rattle.integers.specs.Bytes.{be, be_bytes, decode}
use Rattle.sheet_spec.specs.Slots.{◌!◌}
use Rattle.sheet_spec.specs.Refusals.{Cause, refuse_unless, first_refusal}

pub data Kind : Type 0 where
  u8 u16 i16 i32 : Kind

-- how a number is written, the slot of its value, the range that the value must lie in, and why the sheet is refused if it does not.
-- The ends of the range may depend on numbers earlier in the sheet.
pub record Field : Type 0 where
  pub kind : Kind
  pub slot : ℕ
  pub least : List ℤ → ℤ
  pub greatest : List ℤ → ℤ
  pub cause : Cause

-- the number of bytes of a number
abbrev pub bytes_in : Kind → ℕ
bytes_in u8 = 1
bytes_in u16 = 2
bytes_in i16 = 2
bytes_in i32 = 4

-- the number that bytes are, and the one that they begin with
abbrev pub number_of : Kind → List ℕ → ℤ
number_of u8 bs = pos (be bs)
number_of u16 bs = pos (be bs)
number_of i16 bs = decode w16 bs
number_of i32 bs = decode w32 bs

unfoldable pub decoded : Kind → List ℕ → ℤ
decoded k bs = number_of k (take (bytes_in k) bs)

-- a number's bytes, the last of its two's complement
unfoldable pub encoded : Kind → ℤ → List ℕ
encoded k z = be_bytes (bytes_in k) (of_z w32 z)

-- 0 where the field's value lies in its range, else the refusal
unfoldable pub test : List ℤ → Field → ℕ
test v x = refuse_unless (le_z (x.least v) (v ! x.slot) && le_z (v ! x.slot) (x.greatest v)) x.cause

-- ---- the first k fields

-- the number of their bytes
unfoldable pub offset : (ℕ → Field) → ℕ → ℕ
offset p zero = 0
offset p (suc k) = offset p k + bytes_in (p k).kind

-- v with their values, read from the place `at` of f on
unfoldable pub filled : (ℕ → Field) → List ℕ → ℕ → ℕ → List ℤ → List ℤ
filled p f at zero v = v
filled p f at (suc k) v = set (filled p f at k v) (p k).slot (decoded (p k).kind (drop (at + offset p k) f))

-- the bytes of their values in v
unfoldable pub coded : (ℕ → Field) → List ℤ → ℕ → List ℕ
coded p v zero = []
coded p v (suc k) = coded p v k ++ encoded (p k).kind (v ! (p k).slot)

-- the refusal of the first of them whose value in v is out of range, or 0
unfoldable pub bad : (ℕ → Field) → List ℤ → ℕ → ℕ
bad p v = first_refusal (λ j. test v (p j))
