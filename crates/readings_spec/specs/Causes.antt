-- Why readings are refused, by number (document 02, paper 1). The other causes are in sheet_spec/specs/Refusals.
use Rattle.std.specs.Prelude.{Bool, true, false, ℕ}

pub data Cause : Type 0 where
  -- a variable without a reading
  missing : Cause
  -- a number of a reading
  reading : Cause

abbrev pub number : Cause → ℕ
number missing = 18
number reading = 19

-- 0 where the test passed, else the number of the cause
abbrev pub refuse_unless : Bool → Cause → ℕ
refuse_unless true c = 0
refuse_unless false c = number c
