-- `bad_band`: a band's edge, its safety range, its law, and its rows. Assumes nothing.
use Rattle.std.proofs.Common.{◌≡◌, ◌∙◌, ◌+◌, ◌*◌, ◌≤◌, ◌<◌, ℕ, List, ℤ, ap, arith, rules}
use Rattle.std.proofs.Math.Nat.{mul-le-mul_right}
use Rattle.sheet_spec.proofs.FieldRuns.{bad_none, bad_field, bad_run, bad_stop}
use Rattle.sheet_spec.proofs.FieldPlaces.{law_run, row_next, row_run}
use Rattle.sheet_encoding.proofs.SlotNumber.{held}
use Rattle.sheet_spec.specs.declared.BandKind.{BandKind}
use Rattle.sheet_spec.specs.Fields.{bad}
use Rattle.sheet_spec.specs.Layout.{◌▸◌, band_fields, law_fields, law_count, row_fields, row_count, band_count}
use Rattle.sheet_spec.specs.Slots.{law_slot, row_slot, law_in_band}
use Rattle.sheet_spec.specs.Refusals.{refusal_number}
use Rattle.sheet_spec.specs.declared.refusals.Refusal.{Refusal}
use Rattle.sheet_validation.proofs.bad_band.Goals as goal

module _ (n : ℕ) (b : BandKind) (k : ℕ) (v : List ℤ) where
  -- after the safety range, the law
  law : {y : ℕ} → 0 ≡ bad (band_fields n b k) v law_in_band → y ≡ bad (law_fields n (law_slot k)) v (law_count b n) → y ≡ bad (band_fields n b k) v (law_in_band + law_count b n)
  law = bad_run (band_fields n b k) (law_fields n (law_slot k)) law_in_band (law_count b n) (law_run n b k) v

  no_row : 0 ≡ bad (band_fields n b k) v (law_in_band + law_count b n) → 0 ≡ bad (band_fields n b k) v (law_in_band + (law_count b n + 0 * row_count n))
  no_row is = is ∙ ap (bad (band_fields n b k) v) (omega arith)

  -- one row more
  row : (i : ℕ) {y : ℕ} → 0 ≡ bad (band_fields n b k) v (law_in_band + (law_count b n + i * row_count n)) → y ≡ bad (row_fields n (row_slot k i)) v (row_count n)
      → y ≡ bad (band_fields n b k) v (law_in_band + (law_count b n + (i + 1) * row_count n))
  row i pass is =
      bad_run (band_fields n b k) (row_fields n (row_slot k i)) (law_in_band + (law_count b n + i * row_count n)) (row_count n) (row_run n b k i) v pass is ∙ ap (bad (band_fields n b k) v) (row_next n b i)

  stop : (m : ℕ) (r : Refusal) → refusal_number r ≡ bad (band_fields n b k) v m → m ≤ band_count n b → refusal_number r ≡ bad (band_fields n b k) v (band_count n b)
  stop m r is l = bad_stop (band_fields n b k) v m (band_count n b) r is l

  law_stop : (r : Refusal) → 0 ≡ bad (band_fields n b k) v law_in_band → refusal_number r ≡ bad (law_fields n (law_slot k)) v (law_count b n) → refusal_number r ≡ bad (band_fields n b k) v (band_count n b)
  law_stop r pass is = stop (law_in_band + law_count b n) r (law pass is) (omega arith)

  row_stop : (i : ℕ) → i < n → (r : Refusal) → 0 ≡ bad (band_fields n b k) v (law_in_band + (law_count b n + i * row_count n)) → refusal_number r ≡ bad (row_fields n (row_slot k i)) v (row_count n)
      → refusal_number r ≡ bad (band_fields n b k) v (band_count n b)
  row_stop i l r pass is = stop (law_in_band + (law_count b n + (i + 1) * row_count n)) r (row i pass is) (omega (arith, mul-le-mul_right (row_count n) l))

pub returns-in_err-bad_edge : goal.returns-in_err-bad_edge
unfolding band_fields ◌▸◌
returns-in_err-bad_edge c = search (rules, stop c.args.n c.args.kind c.args.k c.args.v.now 1, bad_none, bad_field)

pub returns-in_err-in_range : goal.returns-in_err-in_range
unfolding band_fields ◌▸◌
returns-in_err-in_range c = search (rules, stop c.args.n c.args.kind c.args.k c.args.v.now 2, bad_none, bad_field, held)

pub returns-in_err-in_range-2 : goal.returns-in_err-in_range-2
unfolding band_fields ◌▸◌
returns-in_err-in_range-2 c = search (rules, stop c.args.n c.args.kind c.args.k c.args.v.now 3, bad_none, bad_field, held)

pub returns-in_err-bad_law : goal.returns-in_err-bad_law
unfolding band_fields ◌▸◌
returns-in_err-bad_law c =
    let a = c.args in
    let safe : 0 ≡ bad (band_fields a.n a.kind a.k) a.v.now law_in_band = search (rules, bad_none, bad_field, held) in
    search (rules, law_stop a.n a.kind a.k a.v.now)

pub loop-i-init : goal.loop-i-init
unfolding band_fields ◌▸◌
loop-i-init c =
    let a = c.args in
    let safe : 0 ≡ bad (band_fields a.n a.kind a.k) a.v.now law_in_band = search (rules, bad_none, bad_field, held) in
    search (rules, no_row, law)

pub returns-in_err-bad_row : goal.returns-in_err-bad_row
returns-in_err-bad_row c = search (rules, row_stop c.args.n c.args.kind c.args.k c.args.v.now c.loop-i.i)

pub loop-i-preserved : goal.loop-i-preserved
loop-i-preserved c = search (rules, row)
