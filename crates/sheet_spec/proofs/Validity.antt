-- `Valid` is just what the writer accepts, and `Overlapping` just what it refuses with 22 (specs/Validity). proofs/Valid shows that what is accepted is
-- valid; here is the way back. Assumes nothing.
use mathlib.Core.Path.{◌≡◌, refl, sym, ap, subst}
use mathlib.Core.Bool.{Bool, true, ◌&&◌}
use mathlib.Core.List.{List}
use Prim.Native.Nat.{ℕ, zero, suc, ◌*◌, ◌+◌, ◌≤◌, ◌<◌}
use native.Mathlib.Omega.{arith}
use lib.Dec.{eqb, leb}
use lib.IntN.{ℤ, pos, nat_abs}
use lib.ListN.{length}
use Rattle.integers.proofs.Z.{ints, flat}
use Rattle.sheet_spec.specs.Limits.{max_unsafe_side, max_recovery_side}
use Rattle.sheet_spec.specs.Slots.{◌!◌, head_size, law_slot, row_slot, recovery_slot, unsafe_slot, recovery_box, vars, bands, boxes, band_kind, law_rest_size, vars_slot, bands_slot, boxes_slot, band_var_slot, δ_slot, α_slot, ρ_slot, least_slot, rest_size, pair_size}
use Rattle.sheet_spec.specs.Box.{lowest_met}
use Rattle.sheet_spec.specs.Valid.{Between, ValidBox, ValidNumbers, Ascending, Overlapping, Valid}
use Rattle.sheet_spec.specs.Refusals.{Cause, number, refuse_unless, first_refusal}
use Rattle.sheet_spec.specs.Sizes.{caps_at}
use Rattle.sheet_spec.specs.Layout.{head_fields, edge_field, law_rest, law_fields, row_rest, row_fields, band_fields, side_fields, box_fields, law_count, row_count, band_count, box_count}
use Rattle.sheet_spec.specs.declared.Record.TheVariants.{Head}
use Rattle.sheet_spec.specs.declared.Shape.{Shape}
use Rattle.sheet_spec.specs.File.{shape, records, record_at, fields_at, field_count_at, record_start, marked, marked_at, order_test, closing}
use Rattle.sheet_spec.specs.Sheet.{head_of, shape_of, contents, stage, refusal, value_refusal}
use Rattle.sheet_spec.specs.Validity.{ExactlyValid, OverlapRefused}
use Rattle.sheet_spec.proofs.Streams.{Each, each_next, each_first, each_groups, law_more, caps_more}
use Rattle.sheet_spec.proofs.Records.{record_cases, each_field, each_by_kind}
use Rattle.sheet_spec.proofs.Box.{clear_of, lowest_met_lem}
use Rattle.sheet_spec.proofs.Laws.{either_last, first_none, first_most, unless_below}
use Rattle.sheet_spec.proofs.Overlap.{overlap_met, overlap_clear, overlap_found}
use Rattle.sheet_spec.proofs.Tests.{InRange, AllInRange, bad_ranges, ranges_bad, value_good, good_value}
use Rattle.sheet_spec.proofs.LastTest.{LastTest, last_test, test_last, head_refusal_lem}
use Rattle.sheet_spec.proofs.Ranges.{abs_is, in_abs}
use Rattle.sheet_spec.proofs.Accepted.{head_named, same_shape}
use Rattle.sheet_spec.proofs.RoundTrip.{read_overlap}
use Rattle.sheet_spec.proofs.Valid.{numbers_of, ascending, good_valid, contents_size, contents_fit}

-- ---- each number of a valid value lies in its range

module _ {v : List ℤ} (wf : ValidNumbers v) where
  counted : {l h : ℕ} (i : ℕ) → i < least_slot → l ≤ nat_abs (v ! i) → nat_abs (v ! i) ≤ h → Between (pos l) (pos h) (v ! i)
  counted i l = in_abs (v ! i) (wf.head i l)

  is_count : (i : ℕ) → i < least_slot → v ! i ≡ pos (nat_abs (v ! i))
  is_count i l = abs_is (v ! i) (wf.head i l)

  head_ranges : Each (InRange v) head_fields (head_size + vars v)
  unfolding head_fields
  head_ranges =
      subst (Each (InRange v) head_fields) (caps_more (vars v))
      (each_next _ _ (counted vars_slot (omega arith) wf.vars_low (omega (arith, wf.vars_high)))
      (each_next _ _ (counted bands_slot (omega arith) wf.bands_low wf.bands_high)
      (each_next _ _ (counted boxes_slot (omega arith) wf.boxes_low wf.boxes_high)
      (each_next _ _ (record { low = wf.head band_var_slot (omega arith); high = simp flat (omega (ints, is_count band_var_slot (omega arith), is_count vars_slot (omega arith), wf.var)) })
      (each_next _ _ (counted δ_slot (omega arith) wf.δ_low (omega (arith, wf.sum_high)))
      (each_next _ _ (record { low = omega (ints, is_count α_slot (omega arith), wf.α_low); high = simp flat (omega (ints, is_count α_slot (omega arith), is_count δ_slot (omega arith), wf.sum_high)) })
      (each_next _ _ (counted ρ_slot (omega arith) wf.ρ_low (omega (arith, wf.ρ_high)))
      (each_next _ _ (record { low = wf.commands_low; high = omega (ints, wf.commands, wf.commands_high) })
      (each_next _ _ (record { low = wf.commands; high = wf.commands_high }) (record { at = wf.caps }))))))))))

  edge_range : (k : ℕ) → k < bands v → InRange v (edge_field k)
  unfolding edge_field
  edge_range zero l = record { low = omega (ints, wf.first_edge); high = omega (ints, wf.first_edge) }
  edge_range (suc k) l = record { low = simp flat (omega (ints, wf.edges k l)); high = wf.edges_high (suc k) l }

  row_ranges : (k i : ℕ) → k < bands v → i < vars v → Each (InRange v) (row_fields (vars v) (row_slot k i)) (row_count (vars v))
  unfolding row_fields row_rest
  row_ranges k i h g =
      let r = wf.rows k i h g in
      each_first (vars v) rest_size _ _ (record { at = r.a }) (each_next _ _ r.b (each_next _ _ r.c (each_next _ _ r.d (record { at = λ j l. r.q }))))

  law_ranges : (k : ℕ) → k < bands v → Each (InRange v) (law_fields (vars v) (law_slot k)) (law_count (band_kind v) (vars v))
  unfolding law_fields law_rest
  law_ranges k h =
      each_by_kind (vars v) (band_kind v) (law_slot k)
      (λ e. let l = wf.laws e k h in each_first (vars v) law_rest_size _ _ (record { at = l.a }) (each_next _ _ l.c (record { at = λ j i. l.q })))

  band_ranges : (k : ℕ) → k < bands v → Each (InRange v) (band_fields (vars v) (band_kind v) k) (band_count (vars v) (band_kind v))
  unfolding band_fields
  band_ranges k l =
      let n = vars v in
      subst (Each (InRange v) (band_fields n (band_kind v) k)) (law_more (law_count (band_kind v) n + n * row_count n))
      (each_next _ _ (edge_range k l)
      (each_next _ _ (record { low = wf.safety_low k l; high = omega (ints, wf.safety k l, wf.safety_high k l) })
      (each_next _ _ (record { low = wf.safety k l; high = wf.safety_high k l })
      (each_first (law_count (band_kind v) n) (n * row_count n) _ _ (law_ranges k l) (each_groups n (row_count n) _ (λ i g. row_ranges k i l g))))))

  box_ranges : (most at : ℕ) → ValidBox (vars v) (pos most) v at → Each (InRange v) (box_fields most at) (box_count (vars v))
  unfolding box_fields side_fields
  box_ranges most at b =
      each_groups (vars v) pair_size _
      (λ i l. each_next _ _ (record { low = b.lower i l; high = omega (ints, b.ordered i l, b.upper i l) }) (record { at = λ q k. record { low = b.ordered i l; high = b.upper i l } }))

  in_ranges : AllInRange v
  in_ranges =
      each_field (shape v) head_ranges band_ranges (λ j l. box_ranges max_unsafe_side (unsafe_slot j) (wf.unsafe j l)) (box_ranges max_recovery_side recovery_slot wf.recovery)

-- ---- and each record passes its test

module _ {v : List ℤ} where
  order_passes : Ascending v → (j : ℕ) → j < (shape v).boxes → order_test (vars v) v j ≡ 0
  unfolding order_test
  order_passes a zero l = refl
  order_passes a (suc j) l = ap (λ (t : Bool). refuse_unless t Cause.order) (a.at j l)

  module _ (a : Valid v) where
    closed : (r : ℕ) → r < records (shape v) → closing v (shape v) (record_at (shape v) r) ≡ 0
    unfolding closing
    closed =
        let clear = clear_of (vars v) v (shape v).boxes (recovery_box v) (λ j l. a.clear.at j (omega arith)) in
        record_cases (shape v) (λ r x. closing v (shape v) x ≡ 0) refl (λ k l. refl) (order_passes a.order) (sym (overlap_clear (vars v) v (shape v).boxes clear))

    -- so the writer accepts it
    pub valid_accepted : value_refusal v ≡ 0
    valid_accepted = good_value v (record { at = λ r l. record { ranges = (in_ranges a.numbers).at r l; closed = closed r l } })

-- ---- or all but the last

abbrev AllButLast : List ℤ → Type 0
AllButLast v = LastTest (λ r. true) (shape v) v

module _ {v : List ℤ} where
  overlapping : AllButLast v → ValidNumbers v → Overlapping v
  overlapping t wf =
      let met = lowest_met_lem (vars v) v (boxes v) (recovery_box v) (overlap_found (vars v) v (boxes v) t.overlap) in
      record { numbers = wf; order = ascending v t.order; box = lowest_met (vars v) v (boxes v) (recovery_box v); below = omega (arith, met.0); shares = met.1 }

  all_but_last : Overlapping v → AllButLast v
  all_but_last o = record {
    marked = λ r l. refl;
    ranges = in_ranges o.numbers;
    order = order_passes o.order;
    overlap = sym (overlap_met (vars v) v (boxes v) o.box (omega (arith, o.below)) o.shares);
  }

pub exactly_valid : ExactlyValid
unfolding value_refusal
exactly_valid v array = record {
  numbers = (
    (λ pass. numbers_of v (record { at = λ r l. bad_ranges (fields_at (shape v) r) v (field_count_at (shape v) r) (pass r l) }) array.size array.fits),
    (λ wf r l. ranges_bad (fields_at (shape v) r) v (field_count_at (shape v) r) ((in_ranges wf).at r l)),
  );
  overlap = (
    (λ e. let t = last_test (λ r. true) (shape v) v e in overlapping t (numbers_of v t.ranges array.size array.fits)),
    (λ o. test_last (λ r. true) (shape v) v (all_but_last o)),
  );
  all = ((λ e. good_valid v (value_good v e) array.size array.fits), valid_accepted);
}

-- ---- the reader

-- its first three tests refuse by less
early : (f : List ℕ) (i : ℕ) → i < 3 → stage f i ≤ number Cause.side
unfolding stage
early f zero l = unless_below (leb caps_at (length f) && marked f 0 Head) Cause.head (omega arith)
early f (suc zero) l = head_refusal_lem (head_of f)
early f (suc (suc zero)) l = let s = shape_of f in unless_below (eqb (length f) (record_start s (records s))) Cause.length (omega arith)
early f (suc (suc (suc i))) l = absurd (let z : ⊥ = omega arith in z)

only_overlap : (f : List ℕ) → refusal f ≡ number Cause.overlap → Overlapping (contents f)
unfolding refusal stage first_refusal shape_of
only_overlap f e =
    let s = shape_of f in
    let p = either_last (first_refusal (stage f) 3) (stage f 3) (number Cause.overlap) (omega (arith, first_most (stage f) 3 (early f))) e in
    let h = head_named f ((first_none (stage f) 3 p.0).at 1 (omega arith)) in
    let t = last_test (marked_at s f) s (contents f) p.1 in
    let l : LastTest (λ r. true) s (contents f) = record { marked = λ r l. refl; ranges = t.ranges; order = t.order; overlap = t.overlap } in
    let q = same_shape f h.0 h.1 t.ranges in
    let u : AllButLast (contents f) = subst (λ (s : Shape). LastTest (λ r. true) s (contents f)) (sym q) l in
    overlapping u (numbers_of (contents f) u.ranges (contents_size f) (contents_fit f q u.ranges))

pub overlap_refused : OverlapRefused
overlap_refused = record { only = only_overlap; always = λ v o. read_overlap v (all_but_last o) }
