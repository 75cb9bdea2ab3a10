-- Reading and writing undo each other. `ReadThenWrite` and `WriteThenRead` say it of what `read` and `write` answer and leave, for all inputs;
-- proofs/ReadWrite proves both.
use Rattle.std.specs.Prelude.{◌≡◌, List, ℕ, ◌+◌, ◌≤◌, ℤ, length, take, drop}
use Rattle.std.proofs.lemmas.List.Edits.{sets}
use Rattle.integers.specs.Bytes.{Bytes}
use Rattle.sheet_spec.specs.Sheet.{refusal, values, value_refusal, write_refusal, written, Same}
use Rattle.sheet_spec.specs.Written.{written_length}

-- ---- the values of a file are written as the same file

-- the writer accepts the values of f, answers the length of f, and leaves the buffer with f from the place on and otherwise as it was
pub record WrittenBack (f buffer : List ℕ) (place : ℕ) : Type 0 where
  pub in_range : value_refusal (values f) ≡ 0
  pub accepted : write_refusal (values f) buffer place ≡ 0
  pub answer : written_length (values f) buffer place ≡ length f
  pub left : written (values f) buffer place ≡ sets buffer place f

-- this holds for every file that the reader accepts and every buffer with room for it from the place on. `Bytes f` says that each number of f is
-- below 256, which is true of every slice of bytes
abbrev pub ReadThenWrite : Type 0
ReadThenWrite =
    (f : List ℕ) → Bytes f → refusal f ≡ 0
    → (buffer : List ℕ) (place : ℕ) → place + length f ≤ length buffer → WrittenBack f buffer place

-- ---- a written sheet is read as the same sheet

-- n bytes from a place on
abbrev pub slice : List ℕ → ℕ → ℕ → List ℕ
slice bytes place n = take n (drop place bytes)

-- two buffers of the same length differ at most in the n bytes from a place on
pub record SameOutside (buffer after : List ℕ) (place n : ℕ) : Type 0 where
  pub size : length after ≡ length buffer
  pub before : take place after ≡ take place buffer
  pub beyond : drop (place + n) after ≡ drop (place + n) buffer

-- the sheet in the buffer after writing: the bytes from the place on, as many as the writer answers
abbrev pub sheet_bytes : List ℤ → List ℕ → ℕ → List ℕ
sheet_bytes v buffer place = slice (written v buffer place) place (written_length v buffer place)

-- the reader accepts these bytes and gives the same sheet; all other bytes are as they were
pub record ReadBack (v : List ℤ) (buffer : List ℕ) (place : ℕ) : Type 0 where
  pub accepted : refusal (sheet_bytes v buffer place) ≡ 0
  pub same : Same v (values (sheet_bytes v buffer place))
  pub outside : SameOutside buffer (written v buffer place) place (written_length v buffer place)

-- this holds for all numbers v that the writer accepts. Nothing is asked of the length of v or of the size of its numbers: the writer tests every
-- number that it writes, and a missing one is 0
abbrev pub WriteThenRead : Type 0
WriteThenRead = (v : List ℤ) (buffer : List ℕ) (place : ℕ) → write_refusal v buffer place ≡ 0 → ReadBack v buffer place
