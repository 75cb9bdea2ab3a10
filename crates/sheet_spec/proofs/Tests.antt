-- What a test that passed tells: of a field, of a record, of every record of a file. Assumes nothing.
use mathlib.Core.Path.{◌≡◌, refl, sym, ap, ◌∙◌}
use mathlib.Core.Bool.{Bool, true, ◌&&◌}
use mathlib.Core.List.{List}
use Prim.Native.Nat.{ℕ, ◌≤◌, ◌<◌}
use native.Mathlib.Omega.{arith}
use lib.IntN.{ℤ}
use lib.Signed.{le_z, ◌≤ℤ◌, ◌<ℤ◌}
use Rattle.integers.proofs.Z.{le_true}
use Rattle.sheet_spec.specs.Slots.{◌!◌}
use Rattle.sheet_spec.specs.Valid.{Between}
use Rattle.sheet_spec.specs.Refusals.{Cause, number, refuse_unless}
use Rattle.sheet_spec.specs.Fields.{Field, test, bad}
use Rattle.sheet_spec.specs.declared.Record.{Record}
use Rattle.sheet_spec.specs.declared.Shape.{Shape}
use Rattle.sheet_spec.specs.File.{shape, records, record_at, fields_at, field_count_at, closing, bad_numbers, bad_record, bad_all}
use Rattle.sheet_spec.specs.Sheet.{value_refusal}
use Rattle.sheet_spec.proofs.Box.{le_is, le_not, and_both}
use Rattle.sheet_spec.proofs.Streams.{Each}
use Rattle.sheet_spec.proofs.Records.{EachOf, EachField}
use Rattle.sheet_spec.proofs.Laws.{goes_on, none_either, first_none, none_first, unless_zero, unless_below}

-- ---- a test

-- a field's value in v lies in its range
abbrev pub InRange : List ℤ → Field → Type 0
InRange v x = Between (x.least v) (x.greatest v) (v ! x.slot)

module _ (v : List ℤ) (x : Field) where
  pub test_low : v ! x.slot <ℤ x.least v → number x.cause ≡ test v x
  unfolding test
  test_low h = rw (le_not (x.least v) (v ! x.slot) h)

  pub test_high : x.least v ≤ℤ v ! x.slot → x.greatest v <ℤ v ! x.slot → number x.cause ≡ test v x
  unfolding test
  test_high l h = rw (le_is (x.least v) (v ! x.slot) l, le_not (v ! x.slot) (x.greatest v) h)

  pub test_passed : InRange v x → 0 ≡ test v x
  unfolding test
  test_passed r = rw (le_is (x.least v) (v ! x.slot) r.low, le_is (v ! x.slot) (x.greatest v) r.high)

  pub test_below : {most : ℕ} → number x.cause ≤ most → test v x ≤ most
  unfolding test
  test_below = unless_below (le_z (x.least v) (v ! x.slot) && le_z (v ! x.slot) (x.greatest v)) x.cause

  pub in_range : test v x ≡ 0 → InRange v x
  unfolding test
  in_range e =
      let t = and_both _ _ (unless_zero (le_z (x.least v) (v ! x.slot) && le_z (v ! x.slot) (x.greatest v)) x.cause e) in
      record { low = le_true _ _ t.0; high = le_true _ _ t.1 }

-- ---- the fields of a record, and the records of a file

pub bad_ranges : (p : ℕ → Field) (v : List ℤ) (k : ℕ) → bad p v k ≡ 0 → Each (InRange v) p k
unfolding bad
bad_ranges p v k e = record { at = λ j l. in_range v (p j) ((first_none (λ j. test v (p j)) k e).at j l) }

pub ranges_bad : (p : ℕ → Field) (v : List ℤ) (k : ℕ) → Each (InRange v) p k → bad p v k ≡ 0
unfolding bad
ranges_bad p v k a = none_first (λ j. test v (p j)) k (record { at = λ j l. sym (test_passed v (p j) (a.at j l)) })

-- record x is good: its numbers lie in their ranges, and the whole record passes its test
pub record Good (v : List ℤ) (s : Shape) (x : Record) : Type 0 where
  pub ranges : EachOf (InRange v) s.vars x
  pub closed : closing v s x ≡ 0

module _ (marks : ℕ → Bool) (s : Shape) (v : List ℤ) (k : ℕ) where
  module _ (e : bad_all marks s v k ≡ 0) (r : ℕ) (l : r < k) where
    passed : (refuse_unless (marks r) Cause.mark ≡ 0) × (bad_numbers v s (record_at s r) ≡ 0)
    unfolding bad_all
    passed = none_either (refuse_unless (marks r) Cause.mark) (bad_numbers v s (record_at s r)) ((first_none (bad_record marks s v) k e).at r l)

    pub mark_right : marks r ≡ true
    mark_right = unless_zero (marks r) Cause.mark passed.0

    -- by facts on numbers, whichever of its two tests comes first
    record_good : Good v s (record_at s r)
    record_good =
        let b = none_either _ _ passed.1 in
        record { ranges = bad_ranges (fields_at s r) v (field_count_at s r) (omega (arith, b.0, b.1)); closed = omega (arith, b.0, b.1) }

  pub all_good : bad_all marks s v k ≡ 0 → Each (Good v s) (record_at s) k
  all_good e = record { at = record_good e }

  pub good_all : ((r : ℕ) → r < k → marks r ≡ true) → Each (Good v s) (record_at s) k → bad_all marks s v k ≡ 0
  unfolding bad_all
  good_all m g =
      none_first (bad_record marks s v) k (record {
        at = λ r l.
            let p = ranges_bad (fields_at s r) v (field_count_at s r) (g.at r l).ranges in
            let q = (g.at r l).closed in
            goes_on (λ c. c) _ (ap (λ (b : Bool). refuse_unless b Cause.mark) (m r l)) ∙ goes_on (λ c. c) _ (omega (arith, p, q)) ∙ omega (arith, p, q);
      })

-- every number of a sheet, up to its counts, lies in its range; every record is good
abbrev pub AllInRange : List ℤ → Type 0
AllInRange v = EachField (InRange v) (shape v)

abbrev pub AllGood : List ℤ → Type 0
AllGood v = Each (Good v (shape v)) (record_at (shape v)) (records (shape v))

pub good_ranges : (v : List ℤ) (s : Shape) → Each (Good v s) (record_at s) (records s) → EachField (InRange v) s
good_ranges v s g = record { at = λ r l. (g.at r l).ranges }

module _ (v : List ℤ) where
  pub value_good : value_refusal v ≡ 0 → AllGood v
  unfolding value_refusal
  value_good = all_good (λ r. true) (shape v) v (records (shape v))

  pub good_value : AllGood v → value_refusal v ≡ 0
  unfolding value_refusal
  good_value = good_all (λ r. true) (shape v) v (records (shape v)) (λ r l. refl)
