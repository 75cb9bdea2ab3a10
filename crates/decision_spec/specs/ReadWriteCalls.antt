-- guard_sheet_read and guard_sheet_write undo each other. `CallsReadThenWrite` and `CallsWriteThenRead` say it of what the calls answer and leave, for
-- all inputs; proofs/ReadWriteCalls proves both.
use Rattle.std.specs.Prelude.{◌≡◌, Bool, false, List, ℕ, ◌+◌, ◌/◌, ◌^◌, ◌≤◌, eqb, ℤ, length}
use Rattle.std.proofs.lemmas.List.Edits.{sets}
use Rattle.integers.specs.Bytes.{Bytes}
use Rattle.sheet_spec.specs.Sheet.{Same}
use Rattle.sheet_spec.specs.ReadWrite.{slice, SameOutside}
use Rattle.decision_spec.specs.Calls.{read_call, read_out, write_call, write_out}

-- guard_is_refused of an answer: its code is 3
abbrev pub is_refused : ℕ → Bool
is_refused answer = eqb (answer / 2 ^ 48) 3

-- ---- a file that is read into an array and written from it is the same file

-- both calls answer the length of f; the buffer is left with f from the place on and otherwise as it was
pub record CallsWriteBack (f : List ℕ) (numbers : List ℤ) (buffer : List ℕ) (place : ℕ) : Type 0 where
  pub read : read_call f ≡ length f
  pub answer : write_call (read_out f numbers) buffer place ≡ length f
  pub left : write_out (read_out f numbers) buffer place ≡ sets buffer place f

-- this holds where the read is not refused, whatever the array held before, for every buffer with room for f from the place on
abbrev pub CallsReadThenWrite : Type 0
CallsReadThenWrite =
    (f : List ℕ) → Bytes f → is_refused (read_call f) ≡ false
    → (numbers : List ℤ) (buffer : List ℕ) (place : ℕ) → place + length f ≤ length buffer → CallsWriteBack f numbers buffer place

-- ---- a sheet that is written from an array and read again is the same sheet

-- the bytes from the place on after the write, as many as it answers
abbrev pub call_bytes : List ℤ → List ℕ → ℕ → List ℕ
call_bytes v buffer place = slice (write_out v buffer place) place (write_call v buffer place)

-- both calls answer the same length; the array has the same sheet; all other bytes are as they were
pub record CallsReadBack (v numbers : List ℤ) (buffer : List ℕ) (place : ℕ) : Type 0 where
  pub answer : read_call (call_bytes v buffer place) ≡ write_call v buffer place
  pub same : Same v (read_out (call_bytes v buffer place) numbers)
  pub outside : SameOutside buffer (write_out v buffer place) place (write_call v buffer place)

-- this holds where the write is not refused, whatever the array that is read into held before
abbrev pub CallsWriteThenRead : Type 0
CallsWriteThenRead =
    (v : List ℤ) (buffer : List ℕ) (place : ℕ) → is_refused (write_call v buffer place) ≡ false → (numbers : List ℤ) → CallsReadBack v numbers buffer place
