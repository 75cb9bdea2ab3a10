-- What was read is written as the same file, and what was written is read as the same sheet (specs/ReadWrite). Assumes nothing.
use mathlib.Core.Path.{◌≡◌, sym, ap, ◌∙◌, subst}
use mathlib.Core.List.{List, ◌++◌, append_assoc}
use Prim.Native.Nat.{ℕ, ◌+◌}
use native.Mathlib.Omega.{arith}
use lib.IntN.{ℤ}
use lib.ListN.{length, take, drop, length-append}
use lib.Seq.{sets, take_at, drop_at, length-take-le, length-sets}
use Rattle.integers.specs.Bytes.{Bytes}
use Rattle.sheet_spec.specs.Sheet.{refusal, values, value_refusal, length_of, bytes_of, write_refusal, written}
use Rattle.sheet_spec.specs.Written.{written_length}
use Rattle.sheet_spec.specs.ReadWrite.{SameOutside, ReadThenWrite, WriteThenRead}
use Rattle.sheet_spec.proofs.Laws.{goes_on}
use Rattle.sheet_spec.proofs.Tests.{AllGood, good_value}
use Rattle.sheet_spec.proofs.Accepted.{accepted, contents_good}
use Rattle.sheet_spec.proofs.Answers.{write_done}
use Rattle.sheet_spec.proofs.RoundTrip.{write_read, length_bytes_of, passed, written_is, read_written}

-- the length of a sheet is answered if it is written
pub answers_length : (v : List ℤ) (buffer : List ℕ) (place : ℕ) → write_refusal v buffer place ≡ 0 → written_length v buffer place ≡ length_of v
unfolding written_length
answers_length v buffer place = goes_on (λ c. 0) (length_of v)

-- the values of an accepted file are in range, and have its length
pub values_in_range : (f : List ℕ) → refusal f ≡ 0 → value_refusal (values f) ≡ 0
values_in_range f e = let a = accepted f e in good_value (values f) (subst AllGood (sym a.values) (contents_good f a))

pub length_read : (f : List ℕ) → Bytes f → refusal f ≡ 0 → length_of (values f) ≡ length f
length_read f b e = sym (length_bytes_of (values f)) ∙ ap length (write_read f b e)

pub read_then_write : ReadThenWrite
read_then_write f b e buffer place room =
    let w = write_done (values f) buffer place (sym (values_in_range f e)) (omega (arith, length_read f b e)) in
    record {
      in_range = values_in_range f e;
      accepted = sym w.refusal;
      answer = answers_length (values f) buffer place (sym w.refusal) ∙ length_read f b e;
      left = sym w.left ∙ ap (sets buffer place) (write_read f b e);
    }

module _ (v : List ℤ) (buffer : List ℕ) (place : ℕ) (e : write_refusal v buffer place ≡ 0) where
  -- the buffer's bytes before the place, and those up to the end of the sheet
  length_before : length (take place buffer) ≡ place
  length_before = length-take-le place buffer (omega (arith, (passed v buffer place e).1))

  length_through : length (take place buffer ++ bytes_of v) ≡ place + length_of v
  length_through = length-append (take place buffer) (bytes_of v) ∙ omega (arith, length_before, length_bytes_of v)

  pub same_outside : SameOutside buffer (written v buffer place) place (length_of v)
  unfolding written
  same_outside = record {
    size = ap length (goes_on (λ c. buffer) (sets buffer place (bytes_of v)) e) ∙ length-sets buffer place (bytes_of v);
    before = ap (take place) (written_is v buffer place e) ∙ take_at (take place buffer) _ place length_before;
    beyond =
        ap (drop (place + length_of v)) (written_is v buffer place e ∙ sym (append_assoc (take place buffer) (bytes_of v) _))
        ∙ drop_at (take place buffer ++ bytes_of v) _ (place + length_of v) length_through;
  }

pub write_then_read : WriteThenRead
write_then_read v buffer place e =
    let n = answers_length v buffer place e in
    let r = read_written v buffer place e in
    record { accepted = rw n r.0; same = rw n r.1; outside = rw n (same_outside v buffer place e) }
