-- What a buffer holds as the records are written to it: one after another, what was written to a part of it, and the answer. Assumes nothing.
use mathlib.Core.Path.{◌≡◌, refl, sym, ap, ap₂, ◌∙◌}
use mathlib.Core.Bool.{true}
use mathlib.Core.List.{List, ◌++◌, append_assoc, append-nil}
use Prim.Native.Nat.{ℕ, ◌+◌, ◌-◌, ◌≤◌, ◌<◌}
use native.Mathlib.Omega.{arith}
use native.Mathlib.Numerals.{add-one}
use native.Mathlib.Nat.{zero-add}
use lib.IntN.{ℤ}
use lib.ListN.{take, drop, length, length-drop}
use lib.Seq.{sets, sets-eq, take_all, drop-drop, drop-length}
use borrow.Rule.Slice.PartMut.{put_mid}
use Rattle.sheet_spec.specs.Slots.{head_size}
use Rattle.sheet_spec.specs.Refusals.{Cause, number}
use Rattle.sheet_spec.specs.Fields.{bad}
use Rattle.sheet_spec.specs.declared.Shape.{Shape}
use Rattle.sheet_spec.specs.declared.Record.{Record}
use Rattle.sheet_spec.specs.declared.Record.TheVariants.{Head}
use Rattle.sheet_spec.specs.Layout.{◌▸◌, head_fields, fields, field_count}
use Rattle.sheet_spec.specs.File.{shape, records, record_at, record_length, record_start, record_bytes, coded_all, bad_all}
use Rattle.sheet_spec.specs.Sheet.{value_refusal, length_of, bytes_of}
use Rattle.sheet_spec.specs.Written.{written_length, Wrote}
use Rattle.sheet_spec.proofs.Records.{each_head}
use Rattle.sheet_spec.proofs.Laws.{goes_on, number_is, stops}
use Rattle.sheet_spec.proofs.Tests.{good_ranges, ranges_bad, value_good}
use Rattle.sheet_spec.proofs.Answers.{WriteAnswer, write_bad, write_short, write_done}
use Rattle.sheet_spec.proofs.Numbers.{length_coded}
use Rattle.sheet_spec.proofs.Says.{length_coded_all}
use Rattle.sheet_spec.proofs.Length.{record_size_lem}
use Rattle.sheet_encoding.proofs.RecordTurn.{record_room}
use Rattle.sheet_spec.proofs.RoundTrip.{length_bytes_of}
use Rattle.sheet_writer.proofs.RecordTurn.{then}

-- ---- the records of a sheet

pub length_record : (n : ℕ) (x : Record) (v : List ℤ) → length (record_bytes n x v) ≡ record_length n x
length_record n x v = omega (arith, length_coded (fields n x) v (field_count n x))

-- the r-th record, which is x
pub record_next : (s : Shape) (v : List ℤ) (b : List ℕ) (r : ℕ) {x : Record} {a : ℕ} {t u : List ℕ} → x ≡ record_at s r → u ≡ sets t a (record_bytes s.vars x v) → a ≡ record_start s r → t ≡ sets b 0 (coded_all s v r)
    → u ≡ sets b 0 (coded_all s v (r + 1))
unfolding coded_all
record_next s v b r {x} {a} {t} is hu ha ht =
    then b 0 (record_start s r) (coded_all s v r) (record_bytes s.vars (record_at s r) v) (length_coded_all s v r) (ha ∙ sym (zero-add (record_start s r))) ht
    (hu ∙ ap (λ (y : Record). sets t a (record_bytes s.vars y v)) is)
    ∙ ap (λ (j : ℕ). sets b 0 (coded_all s v j)) (sym (add-one r))

-- no sheet is empty
pub some_length : (s : Shape) → 0 < record_start s (records s)
unfolding record_start record_at ◌▸◌
some_length s =
    let room = record_room s 0 (records s) (record_start s (records s)) {x = Head} {a = 0} refl refl (omega arith) (omega arith) in
    omega (arith, room, record_size_lem s.vars Head)

-- ---- the part of s from a on, lent to a call and back

module _ (s : List ℕ) (a : ℕ) where
  part_is : take (length s - a) (drop a s) ≡ drop a s
  part_is = take_all (length s - a) (drop a s) (omega (arith, length-drop a s))

  pub part_length : length (take (length s - a) (drop a s)) ≡ length s - a
  part_length = ap length part_is ∙ length-drop a s

  -- xs, written to the start of the part, is in s from a on
  part_whole : (xs : List ℕ) → a + length xs ≤ length s → take a s ++ sets (drop a s) 0 xs ≡ sets s a xs
  part_whole xs h =
      ap (λ (t : List ℕ). take a s ++ t) (sets-eq xs (drop a s) 0 (omega (arith, length-drop a s)) ∙ ap (λ (t : List ℕ). xs ++ t) (ap (λ (m : ℕ). drop m (drop a s)) (zero-add (length xs)) ∙ drop-drop (length xs) a s))
      ∙ sym (append_assoc (take a s) xs (drop (a + length xs) s)) ∙ sym (sets-eq xs s a h)

  pub part_back : (xs : List ℕ) {last : List ℕ} → last ≡ sets (take (length s - a) (drop a s)) 0 xs → a + length xs ≤ length s → put_mid a (length s - a) s last ≡ sets s a xs
  part_back xs e h =
      let q : a + (length s - a) ≡ length s = omega arith in
      ap₂ (λ (x y : List ℕ). take a s ++ (x ++ y)) (e ∙ ap (λ (t : List ℕ). sets t 0 xs) part_is) (drop-drop (length s - a) a s ∙ ap (λ (m : ℕ). drop m s) q ∙ drop-length s)
      ∙ ap (λ (t : List ℕ). take a s ++ t) (append-nil (sets (drop a s) 0 xs)) ∙ part_whole xs h

-- ---- what is answered

-- the head of a sheet whose numbers are in range is in range
pub value_headed : (v : List ℤ) → 0 ≡ value_refusal v → 0 ≡ bad head_fields v head_size
value_headed v e =
    let g = good_ranges v (shape v) (value_good v (sym e)) in
    sym (ranges_bad head_fields v head_size (record { at = λ j l. (each_head (shape v) g).at j (omega arith) }))

module _ (v : List ℤ) (buffer : List ℕ) (place : ℕ) where
  refused : {c : ℕ} {after : List ℕ} → (c ≡ 0 → ⊥) → WriteAnswer v buffer place c after → Wrote v buffer place c 0 after
  unfolding written_length
  refused n a = record { refusal = a.refusal; length = sym (stops (λ c. 0) _ (λ z. n (a.refusal ∙ z))); left = a.left }

  pub wrote_bad : {c : ℕ} → c ≡ value_refusal v → (c ≡ 0 → ⊥) → Wrote v buffer place c 0 buffer
  wrote_bad {c} e n = refused n (write_bad v buffer place c e n)

-- s has the counts
module _ (v : List ℤ) (s : Shape) (same : s ≡ shape v) where
  pub value_is : {x : ℕ} → x ≡ bad_all (λ r. true) s v (records s) → x ≡ value_refusal v
  unfolding value_refusal
  value_is e = e ∙ ap (λ (s : Shape). bad_all (λ r. true) s v (records s)) same

  module _ (buffer : List ℕ) (place : ℕ) (good : 0 ≡ value_refusal v) {l : ℕ} (hl : l ≡ record_start s (records s)) where
    size_is : l ≡ length_of v
    unfolding length_of
    size_is = hl ∙ ap (λ (s : Shape). record_start s (records s)) same

    pub wrote_short : length buffer < place + l → Wrote v buffer place (number Cause.room) 0 buffer
    wrote_short h = refused v buffer place (number_is Cause.room) (write_short v buffer place good (omega (arith, size_is)))

    module _ {last : List ℕ} (h : place + l ≤ length buffer) (e : last ≡ sets (take (length buffer - place) (drop place buffer)) 0 (coded_all s v (records s))) where
      back : put_mid place (length buffer - place) buffer last ≡ sets buffer place (bytes_of v)
      unfolding bytes_of
      back =
          part_back buffer place (bytes_of v) (e ∙ ap (λ (s : Shape). sets (take (length buffer - place) (drop place buffer)) 0 (coded_all s v (records s))) same)
          (omega (arith, size_is, length_bytes_of v))

      pub wrote : Wrote v buffer place 0 l (put_mid place (length buffer - place) buffer last)
      unfolding written_length
      wrote =
          let a = write_done v buffer place good (omega (arith, size_is)) in
          record { refusal = a.refusal; length = size_is ∙ sym (goes_on (λ c. 0) _ (sym a.refusal)); left = back ∙ a.left }
