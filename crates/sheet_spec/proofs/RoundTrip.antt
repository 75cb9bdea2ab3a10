-- The round trips: what was read is written to the same bytes, and what was written is read as the same sheet. Assumes nothing.
use mathlib.Core.Path.{◌≡◌, sym, ap, ◌∙◌, subst}
use mathlib.Core.Bool.{true}
use mathlib.Core.List.{List, [], ◌++◌, append_assoc, append-nil}
use Prim.Native.Nat.{ℕ, zero, suc, ◌+◌, ◌≤◌, ◌<◌}
use native.Mathlib.Omega.{arith}
use lib.Dec.{leb}
use lib.IntN.{ℤ, nat_abs}
use lib.ListN.{length, take, drop}
use lib.Seq.{sets, take_all, take_at, drop_at, length-take-le, sets-eq}
use borrow.Author.Tests.{eq-eqb, le-leb, leb-true}
use Rattle.integers.specs.Bytes.{Bytes}
use Rattle.sheet_spec.specs.Slots.{◌!◌, head_size, vars_slot, bands_slot, boxes_slot, vars, band_kind}
use Rattle.sheet_spec.specs.Refusals.{Cause, number}
use Rattle.sheet_spec.specs.Fields.{decoded, offset}
use Rattle.sheet_spec.specs.Sizes.{letters, caps_at, cap_bytes}
use Rattle.sheet_spec.specs.declared.Record.{Record}
use Rattle.sheet_spec.specs.declared.Record.TheVariants.{Head, Band}
use Rattle.sheet_spec.specs.Layout.{◌▸◌, head_fields, fields, field_count}
use Rattle.sheet_spec.specs.declared.Shape.{Shape}
use Rattle.sheet_spec.specs.File.{shape, records, fields_at, record_start, filled_all, coded_all, marked, marked_at, bad_all}
use Rattle.sheet_spec.specs.Sheet.{zeros, head_of, kind_of, shape_of, contents, stage, refusal, values, value_refusal, length_of, bytes_of, write_refusal, written, Same}
use Rattle.sheet_spec.proofs.Streams.{Each}
use Rattle.sheet_spec.proofs.Records.{EachField, each_head, head_at, band_at_lem}
use Rattle.sheet_spec.proofs.Laws.{goes_on, none_either, first_next, none_first, unless_zero}
use Rattle.sheet_spec.proofs.Tests.{InRange, AllInRange, AllGood, good_ranges, value_good, ranges_bad, good_all}
use Rattle.sheet_spec.proofs.LastTest.{LastTest, test_last}
use Rattle.sheet_spec.proofs.Filled.{all_at}
use Rattle.sheet_spec.proofs.Ranges.{abs_in, small, all_fit}
use Rattle.sheet_spec.proofs.BandKinds.{kind_by_mark}
use Rattle.sheet_spec.proofs.Accepted.{accepted, head_number, number_at, shape_same, shape_read, length_zeros}
use Rattle.sheet_spec.proofs.Length.{band_start, file_length}
use Rattle.sheet_spec.proofs.Says.{Says, bytes_of_lem, says, length_coded_all}
use Rattle.sheet_spec.proofs.Same.{Equal, same_ranges, same_order, same_overlap, same_good, same_head}

pub write_read : (f : List ℕ) → Bytes f → refusal f ≡ 0 → bytes_of (values f) ≡ f
unfolding bytes_of
write_read f b e =
    let a = accepted f e in
    let s = shape_of f in
    ap bytes_of a.values ∙ ap (λ (s : Shape). coded_all s (contents f) (records s)) (shape_read f a)
    ∙ bytes_of_lem s f (contents f) b (records s) (record { marks = a.marks; numbers = number_at f a.small }) (omega (arith, a.size))
    ∙ take_all (record_start s (records s)) f (omega (arith, a.size))

-- a file of the right length that says a sheet whose numbers are in range is refused as its records are, or accepted and read as that sheet
module _ (v : List ℤ) (f : List ℕ) (g : AllInRange v) (size : length f ≡ record_start (shape v) (records (shape v))) (t : Says (shape v) f v (records (shape v))) where
  nine : Each (InRange v) head_fields head_size
  nine = record { at = λ j l. (each_head (shape v) g).at j (omega arith) }

  head_equal : Each (Equal v (head_of f)) head_fields head_size
  unfolding fields record_start
  head_equal =
      let n = (shape v).vars in
      let P : Record → Type 0 = λ x. (j : ℕ) → j < field_count n x → v ! (fields n x j).slot ≡ decoded (fields n x j).kind (drop (0 + letters + offset (fields n x) j) f) in
      record { at = λ j l. subst P (head_at (shape v)) (t.numbers 0 (omega arith)) j (omega arith) ∙ sym (head_number f j l) }

  -- the first band's mark is that of the value's kind
  kind_is : band_kind v ≡ kind_of f (vars (head_of f))
  unfolding head_fields ◌▸◌
  kind_is =
      let s = shape v in
      let l : 0 < s.bands = omega (arith, (abs_in (v ! bands_slot) (nine.at bands_slot (omega arith))).0) in
      let m = subst (λ (x : Record). marked f (record_start s 1) x ≡ true) (band_at_lem s 0 l) (t.marks 1 (omega arith)) in
      let at : record_start s 1 ≡ caps_at + cap_bytes (vars v) = omega (arith, band_start s 0 (omega arith)) in
      let n = subst (λ (at : ℕ). marked f at (Band s.kind 0) ≡ true) at m in
      sym (kind_by_mark f (vars v) (band_kind v) 0 n) ∙ ap (λ (z : ℤ). kind_of f (nat_abs z)) (head_equal.at vars_slot (omega arith))

  shape_is : shape v ≡ shape_of f
  unfolding head_fields ◌▸◌ shape_of
  shape_is = shape_same v (head_of f) _ (head_equal.at vars_slot (omega arith)) (head_equal.at bands_slot (omega arith)) (head_equal.at boxes_slot (omega arith)) kind_is

  contents_equal : EachField (Equal v (contents f)) (shape v)
  unfolding contents
  contents_equal =
      let s = shape v in
      subst (λ (u : Shape). EachField (Equal v (filled_all u f (records u) zeros)) s) shape_is
      (record { at = λ r l. record { at = λ j k. t.numbers r l j k ∙ sym (all_at s f (small v nine) zeros length_zeros (records s) (omega arith) r l j k) } })

  first_mark : marked f 0 Head ≡ true
  unfolding record_start
  first_mark = subst (λ (x : Record). marked f 0 x ≡ true) (head_at (shape v)) (t.marks 0 (omega arith))

  passes : (i : ℕ) → i < 3 → stage f i ≡ 0
  unfolding stage
  passes zero l = rw (le-leb caps_at (length f) (omega (arith, size, file_length (shape v))), first_mark)
  passes (suc zero) l = ranges_bad head_fields (head_of f) head_size (same_head v (head_of f) head_equal nine)
  passes (suc (suc zero)) l = rw (← shape_is, eq-eqb (length f) (record_start (shape v) (records (shape v))) size)
  passes (suc (suc (suc i))) l = absurd (let z : ⊥ = omega arith in z)

  -- what the records' tests say
  says_refusal : {c : ℕ} → bad_all (marked_at (shape v) f) (shape v) (contents f) (records (shape v)) ≡ c → refusal f ≡ c
  unfolding refusal stage
  says_refusal {c} e =
      first_next (stage f) 3 c (none_first (stage f) 3 (record { at = passes }))
      (sym (subst (λ (s : Shape). bad_all (marked_at s f) s (contents f) (records s) ≡ c) shape_is e))

  says_read : AllGood v → (refusal f ≡ 0) × Same v (values f)
  says_read all =
      let same = same_good v (contents f) (shape v) contents_equal (small v nine).vars all in
      let e = says_refusal (good_all (marked_at (shape v) f) (shape v) (contents f) (records (shape v)) t.marks same) in
      let a = accepted f e in
      let q : shape v ≡ shape (values f) = shape_is ∙ sym (shape_read f a) ∙ ap shape (sym a.values) in
      (e, record { kind = ap (λ (s : Shape). s.kind) q; same = λ r l j k. (contents_equal.at r l).at j k ∙ ap (λ (w : List ℤ). w ! (fields_at (shape v) r j).slot) (sym a.values) })

  says_overlap : LastTest (λ r. true) (shape v) v → refusal f ≡ number Cause.overlap
  says_overlap l = says_refusal (test_last (marked_at (shape v) f) (shape v) (contents f) (record {
    marked = t.marks;
    ranges = same_ranges v (contents f) (shape v) contents_equal g;
    order = λ j h. sym (same_order v (contents f) (shape v) contents_equal (small v nine).vars j h) ∙ l.order j h;
    overlap = sym (same_overlap v (contents f) (shape v) contents_equal (small v nine).vars) ∙ l.overlap;
  }))

-- a value's bytes say it
bytes_say : (v : List ℤ) → AllInRange v → Says (shape v) (bytes_of v) v (records (shape v))
unfolding bytes_of
bytes_say v g =
    let s = shape v in
    subst (λ (f : List ℕ). Says s f v (records s)) (append-nil (bytes_of v)) (says s v (records s) [] (all_fit v g).at)

pub length_bytes_of : (v : List ℤ) → length (bytes_of v) ≡ length_of v
unfolding bytes_of length_of
length_bytes_of v = length_coded_all (shape v) v (records (shape v))

pub read_write : (v : List ℤ) → value_refusal v ≡ 0 → (refusal (bytes_of v) ≡ 0) × Same v (values (bytes_of v))
unfolding length_of
read_write v e =
    let g = value_good v e in
    let ranges = good_ranges v (shape v) g in
    says_read v (bytes_of v) ranges (length_bytes_of v) (bytes_say v ranges) g

-- those of a value that only the last test refuses are refused by it
pub read_overlap : (v : List ℤ) → LastTest (λ r. true) (shape v) v → refusal (bytes_of v) ≡ number Cause.overlap
unfolding length_of
read_overlap v l = says_overlap v (bytes_of v) l.ranges (length_bytes_of v) (bytes_say v l.ranges) l

-- ---- in a buffer

module _ (v : List ℤ) (buffer : List ℕ) (place : ℕ) (e : write_refusal v buffer place ≡ 0) where
  pub passed : (value_refusal v ≡ 0) × (place + length_of v ≤ length buffer)
  unfolding write_refusal
  passed =
      let b = none_either (value_refusal v) _ e in
      (b.0, leb-true _ _ (unless_zero (leb (place + length_of v) (length buffer)) Cause.room b.1))

  -- the bytes before and after the sheet's remain
  pub written_is : written v buffer place ≡ take place buffer ++ (bytes_of v ++ drop (place + length_of v) buffer)
  unfolding written
  written_is =
      goes_on (λ c. buffer) (sets buffer place (bytes_of v)) e
      ∙ (sets-eq (bytes_of v) buffer place (omega (arith, length_bytes_of v, passed.1)) ∙ append_assoc (take place buffer) (bytes_of v) _
      ∙ ap (λ (n : ℕ). take place buffer ++ (bytes_of v ++ drop (place + n) buffer)) (length_bytes_of v))

  -- and the sheet's are read as the same sheet
  pub read_written : (refusal (take (length_of v) (drop place (written v buffer place))) ≡ 0) × Same v (values (take (length_of v) (drop place (written v buffer place))))
  read_written =
      subst (λ (f : List ℕ). (refusal f ≡ 0) × Same v (values f))
      (sym
      (ap (λ (l : List ℕ). take (length_of v) (drop place l)) written_is
      ∙ ap (take (length_of v)) (drop_at (take place buffer) (bytes_of v ++ drop (place + length_of v) buffer) place (length-take-le place buffer (omega (arith, passed.1))))
      ∙ take_at (bytes_of v) (drop (place + length_of v) buffer) (length_of v) (length_bytes_of v)))
      (read_write v passed.0)
