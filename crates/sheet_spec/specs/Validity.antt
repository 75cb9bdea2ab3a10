-- `Valid`, `ValidNumbers` and `Overlapping` say just what the tests of a sheet's value ask for, no less and no more.
-- proofs/Validity proves it.
use Rattle.std.specs.Prelude.{◌≡◌, List, ◌↔◌, ℕ, ◌<◌, ℤ, length}
use Rattle.std.specs.Int.{w32}
use Rattle.std.proofs.Common.{SFits}
use Rattle.sheet_spec.specs.Slots.{◌!◌, slots}
use Rattle.sheet_spec.specs.Valid.{ValidNumbers, Overlapping, Valid}
use Rattle.sheet_spec.specs.Refusals.{Cause, number}
use Rattle.sheet_spec.specs.Fields.{bad}
use Rattle.sheet_spec.specs.File.{shape, records, fields_at, field_count_at}
use Rattle.sheet_spec.specs.Sheet.{contents, refusal, value_refusal, bytes_of}

-- a value as the calls have it: a number of 32 bits for each slot
pub record Array (v : List ℤ) : Type 0 where
  pub size : length v ≡ slots
  pub fits : (i : ℕ) → SFits w32 (v ! i)

-- each field of each record passes its own test
abbrev pub NumbersPass : List ℤ → Type 0
NumbersPass v = (r : ℕ) → r < records (shape v) → bad (fields_at (shape v) r) v (field_count_at (shape v) r) ≡ 0

pub record ValidByTests (v : List ℤ) : Type 0 where
  -- valid but for the order and for the recovery box: the fields pass
  pub numbers : NumbersPass v ↔ ValidNumbers v
  -- valid but for the recovery box: the writer refuses it with 22
  pub overlap : (value_refusal v ≡ number Cause.overlap) ↔ Overlapping v
  -- valid: the writer accepts it
  pub all : (value_refusal v ≡ 0) ↔ Valid v

abbrev pub ExactlyValid : Type 0
ExactlyValid = (v : List ℤ) → Array v → ValidByTests v

-- the reader's refusal 22, which comes of such values and of no others
pub record OverlapRefused : Type 0 where
  -- the numbers of a file that is refused with it: every other test has passed
  pub only : (f : List ℕ) → refusal f ≡ number Cause.overlap → Overlapping (contents f)
  -- the bytes of a value that is valid but for this
  pub always : (v : List ℤ) → Overlapping v → refusal (bytes_of v) ≡ number Cause.overlap
