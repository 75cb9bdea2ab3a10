-- Whether the recovery box shares a state with a no-go box is the last test of a sheet: where it refuses, every other test has passed. Assumes nothing.
use mathlib.Core.Path.{◌≡◌, refl, sym, ap, ◌∙◌, subst}
use mathlib.Core.Bool.{Bool, true}
use mathlib.Core.List.{List}
use mathlib.Core.Logic.{⊎_elim}
use Prim.Native.Nat.{ℕ, zero, suc, ◌+◌, ◌*◌, ◌≤◌, ◌<◌}
use native.Mathlib.Nat.{eq-or-lt_of_le}
use native.Mathlib.Omega.{arith}
use lib.IntN.{ℤ}
use Rattle.sheet_spec.specs.Limits.{max_unsafe_side, max_recovery_side}
use Rattle.sheet_spec.specs.Slots.{head_size, law_slot, row_slot, recovery_slot, unsafe_slot, law_rest_size, rest_size, pair_size}
use Rattle.sheet_spec.specs.Refusals.{Cause, number, refuse_unless, unless_refused, first_refusal}
use Rattle.sheet_spec.specs.Fields.{Field, test, bad}
use Rattle.sheet_spec.specs.Layout.{head_fields, edge_field, law_rest, law_fields, row_rest, row_fields, band_fields, side_fields, box_fields, fields, field_count, law_count, row_count, band_count, box_count}
use Rattle.sheet_spec.specs.declared.BandKind.{BandKind}
use Rattle.sheet_spec.specs.declared.BandKind.TheVariants.{Feedback}
use Rattle.sheet_spec.specs.declared.Record.{Record}
use Rattle.sheet_spec.specs.declared.Record.TheVariants.{Head, Band, Unsafe, Recovery}
use Rattle.sheet_spec.specs.declared.Shape.{Shape}
use Rattle.sheet_spec.specs.File.{records, record_at, fields_at, field_count_at, order_test, overlap_test, closing, bad_numbers, bad_record, bad_all}
use Rattle.sheet_spec.proofs.Streams.{Each, each_next, each_first, each_groups, law_more, caps_more}
use Rattle.sheet_spec.proofs.Records.{each_by_kind, record_cases, unsafe_at, recovery_at, EachOf, EachField}
use Rattle.sheet_spec.proofs.Laws.{goes_on, none_either, either_most, either_last, first_next, first_none, none_first, first_most, unless_zero, unless_below}
use Rattle.sheet_spec.proofs.Order.{order_most}
use Rattle.sheet_spec.proofs.Tests.{InRange, test_below, bad_ranges, ranges_bad}

-- ---- a field's refusal is at most that of a side

abbrev Low : Field → Type 0
Low x = number x.cause ≤ number Cause.side

head_low : (n : ℕ) → Each Low head_fields (head_size + n)
unfolding head_fields
head_low n =
    subst (Each Low head_fields) (caps_more n)
    (each_next _ _ (omega arith)
    (each_next _ _ (omega arith)
    (each_next _ _ (omega arith)
    (each_next _ _ (omega arith)
    (each_next _ _ (omega arith)
    (each_next _ _ (omega arith)
    (each_next _ _ (omega arith)
    (each_next _ _ (omega arith)
    (each_next _ _ (omega arith) (record { at = λ i l. omega arith }))))))))))

edge_low : (k : ℕ) → Low (edge_field k)
unfolding edge_field
edge_low zero = omega arith
edge_low (suc k) = omega arith

row_low : (n s : ℕ) → Each Low (row_fields n s) (row_count n)
unfolding row_fields row_rest
row_low n s =
    each_first n rest_size _ _ (record { at = λ j l. omega arith })
    (each_next _ _ (omega arith) (each_next _ _ (omega arith) (each_next _ _ (omega arith) (record { at = λ j l. omega arith }))))

law_low : (n s : ℕ) → Each Low (law_fields n s) (law_count Feedback n)
unfolding law_fields law_rest
law_low n s = each_first n law_rest_size _ _ (record { at = λ j l. omega arith }) (each_next _ _ (omega arith) (record { at = λ j l. omega arith }))

band_low : (n : ℕ) (b : BandKind) (k : ℕ) → Each Low (band_fields n b k) (band_count n b)
unfolding band_fields
band_low n b k =
    subst (Each Low (band_fields n b k)) (law_more (law_count b n + n * row_count n))
    (each_next _ _ (edge_low k) (each_next _ _ (omega arith) (each_next _ _ (omega arith)
    (each_first (law_count b n) (n * row_count n) _ _ (each_by_kind n b (law_slot k) (λ e. law_low n (law_slot k)))
    (each_groups n (row_count n) _ (λ i l. row_low n (row_slot k i)))))))

box_low : (n h s : ℕ) → Each Low (box_fields h s) (box_count n)
unfolding box_fields side_fields
box_low n h s = each_groups n pair_size _ (λ i l. each_next _ _ (omega arith) (record { at = λ q k. omega arith }))

fields_low : (n : ℕ) (x : Record) → EachOf Low n x
unfolding fields
fields_low n Head = head_low n
fields_low n (Band b k) = band_low n b k
fields_low n (Unsafe j) = box_low n max_unsafe_side (unsafe_slot j)
fields_low n Recovery = box_low n max_recovery_side recovery_slot

bad_low : (p : ℕ → Field) (v : List ℤ) (k : ℕ) → Each Low p k → bad p v k ≤ number Cause.side
unfolding bad
bad_low p v k low = first_most (λ j. test v (p j)) k (λ j l. test_below v (p j) (low.at j l))

pub head_refusal_lem : (v : List ℤ) → bad head_fields v head_size ≤ number Cause.side
head_refusal_lem v = bad_low head_fields v head_size (record { at = λ j l. (head_low 0).at j (omega arith) })

-- ---- the tests of a file's records, up to the last

module _ (marks : ℕ → Bool) (s : Shape) (v : List ℤ) where
  -- the last record
  abbrev last : ℕ
  last = 1 + (s.bands + s.boxes)

  abbrev refusal_at : ℕ → ℕ
  refusal_at = bad_record marks s v

  mark_low : (r : ℕ) → refuse_unless (marks r) Cause.mark ≤ number Cause.side
  mark_low r = unless_below (marks r) Cause.mark (omega arith)

  fields_most : (x : Record) → bad (fields s.vars x) v (field_count s.vars x) ≤ number Cause.side
  fields_most x = bad_low (fields s.vars x) v (field_count s.vars x) (fields_low s.vars x)

  -- every record before the last is refused by less than 22, if it is refused
  early : (r : ℕ) → r < records s → r < last → refusal_at r ≤ number Cause.order
  unfolding closing
  early =
      record_cases s (λ r x. r < last → unless_refused (refuse_unless (marks r) Cause.mark) (λ c. c) (bad_numbers v s x) ≤ number Cause.order)
      (λ l. below 0 Head (omega arith))
      (λ k h l. below (1 + k) (Band s.kind k) (omega arith))
      (λ j h l. below (1 + (s.bands + j)) (Unsafe j) (order_most s.vars v j))
      (λ l. absurd (let z : ⊥ = omega arith in z))
    where
      below : (r : ℕ) (x : Record) → closing v s x ≤ number Cause.order → unless_refused (refuse_unless (marks r) Cause.mark) (λ c. c) (bad_numbers v s x) ≤ number Cause.order
      below r x h = either_most _ _ (omega (arith, mark_low r)) (either_most _ _ (omega (arith, fields_most x)) h)

  -- what has passed
  pub record LastTest : Type 0 where
    pub marked : (r : ℕ) → r < records s → marks r ≡ true
    pub ranges : EachField (InRange v) s
    pub order : (j : ℕ) → j < s.boxes → order_test s.vars v j ≡ 0
    pub overlap : overlap_test s.vars v s.boxes ≡ number Cause.overlap

  module _ (e : bad_all marks s v (records s) ≡ number Cause.overlap) where
    parts : (first_refusal refusal_at last ≡ 0) × (refusal_at last ≡ number Cause.overlap)
    unfolding bad_all first_refusal
    parts =
        let n : records s ≡ suc last = omega arith in
        either_last (first_refusal refusal_at last) (refusal_at last) (number Cause.overlap)
        (omega (arith, first_most refusal_at last (λ r l. early r (omega arith) l))) (subst (λ (k : ℕ). first_refusal refusal_at k ≡ number Cause.overlap) n e)

    -- a record's mark and its fields pass
    abbrev Passed : ℕ → Type 0
    Passed r = (refuse_unless (marks r) Cause.mark ≡ 0) × (bad (fields_at s r) v (field_count_at s r) ≡ 0)

    -- before the last, and then the whole record passes
    passed_before : (r : ℕ) → r < last → Passed r × (closing v s (record_at s r) ≡ 0)
    passed_before r h =
        let a = none_either _ _ ((first_none refusal_at last parts.0).at r h) in
        let b = none_either _ _ a.1 in
        ((a.0, b.0), b.1)

    -- at the last, which is refused as a whole
    passed_last : Passed last × (closing v s (record_at s last) ≡ number Cause.overlap)
    passed_last =
        let x = record_at s last in
        let a = either_last (refuse_unless (marks last) Cause.mark) (bad_numbers v s x) (number Cause.overlap) (omega (arith, mark_low last)) parts.1 in
        let b = either_last (bad (fields_at s last) v (field_count_at s last)) (closing v s x) (number Cause.overlap) (omega (arith, fields_most x)) a.1 in
        ((a.0, b.0), b.1)

    passed_at : (r : ℕ) → r < records s → Passed r
    passed_at r l = ⊎_elim (λ (q : r ≡ last). subst Passed (sym q) passed_last.0) (λ h. (passed_before r h).0) (eq-or-lt_of_le (omega arith))

    pub last_test : LastTest
    unfolding closing
    last_test = record {
      marked = λ r l. unless_zero (marks r) Cause.mark (passed_at r l).0;
      ranges = record { at = λ r l. bad_ranges (fields_at s r) v (field_count_at s r) (passed_at r l).1 };
      order = λ j l. subst (λ (x : Record). closing v s x ≡ 0) (unsafe_at s j l) (passed_before (1 + (s.bands + j)) (omega arith)).1;
      overlap = subst (λ (x : Record). closing v s x ≡ number Cause.overlap) (recovery_at s) passed_last.1;
    }

  -- and the other way round
  module _ (t : LastTest) where
    passes : (r : ℕ) → r < records s → refusal_at r ≡ closing v s (record_at s r)
    passes r l =
        goes_on (λ c. c) _ (ap (λ (b : Bool). refuse_unless b Cause.mark) (t.marked r l))
        ∙ goes_on (λ c. c) _ (ranges_bad (fields_at s r) v (field_count_at s r) (t.ranges.at r l))

    closes : (r : ℕ) → r < records s → r < last → closing v s (record_at s r) ≡ 0
    unfolding closing
    closes =
        record_cases s (λ r x. r < last → closing v s x ≡ 0) (λ l. refl) (λ k h l. refl) (λ j h l. t.order j h) (λ l. absurd (let z : ⊥ = omega arith in z))

    pub test_last : bad_all marks s v (records s) ≡ number Cause.overlap
    unfolding bad_all closing
    test_last =
        let n : last + 1 ≡ records s = omega arith in
        subst (λ (k : ℕ). first_refusal refusal_at k ≡ number Cause.overlap) n
        (first_next refusal_at last (number Cause.overlap)
        (none_first refusal_at last (record { at = λ r l. passes r (omega arith) ∙ closes r (omega arith) l }))
        (sym (passes last (omega arith) ∙ ap (closing v s) (recovery_at s) ∙ t.overlap)))
