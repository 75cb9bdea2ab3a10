-- `write_band`: the law behind the band's edge and safety range, and the next row. Assumes nothing.
use Rattle.std.proofs.Common.{◌≡◌, ◌+◌, ◌*◌, ℕ, ◌∙◌, ap, sym, refl, arith}
use Rattle.std.proofs.lemmas.List.Edits.{sets}
use Rattle.sheet_spec.specs.Slots.{band_slot, law_slot, row_slot, safety_least_slot, safety_greatest_slot, edge_in_band, least_in_band, greatest_in_band, law_in_band}
use Rattle.sheet_spec.specs.Fields.{i32, coded, offset}
use Rattle.sheet_spec.specs.Layout.{◌▸◌, band_fields, law_fields, law_count, row_fields, row_count}
use Rattle.sheet_spec.specs.Sizes.{letters, safety_least_at, safety_greatest_at, band_head, row_bytes}
use Rattle.sheet_spec.proofs.FieldPlaces.{law_run, row_next, row_run}
use Rattle.sheet_spec.proofs.Length.{law_offset, row_offset}
use Rattle.sheet_spec.proofs.Places.{edge_slot}
use Rattle.sheet_writer.proofs.RecordTurn.{coded_field, coded_run, edge_bytes}
use Rattle.sheet_writer.proofs.record.write_band.Goals as goal

pub loop-i-init : goal.loop-i-init
unfolding band_fields ◌▸◌ coded offset
loop-i-init c =
    let n = c.args.n in
    let b = c.args.kind in
    let k = c.args.k in
    let p = band_fields n b k in
    let s = c.args.s.now in
    let v = c.args.v.now in
    let e : law_in_band + law_count b n ≡ law_in_band + (law_count b n + 0 * row_count n) = omega arith in
    coded_run p v s letters law_in_band (law_fields n (law_slot k)) (law_count b n) (law_run n b k) band_head c.write_law.ensures (omega (arith, law_offset n b k))
    (coded_field p v s letters greatest_in_band i32 (safety_greatest_slot k) (letters + safety_greatest_at) c.put_i32-3.ensures refl refl (omega (arith, edge_bytes k))
    (coded_field p v s letters least_in_band i32 (safety_least_slot k) (letters + safety_least_at) c.put_i32-2.ensures refl refl (omega (arith, edge_bytes k))
    (coded_field p v s letters edge_in_band i32 (band_slot k) letters c.put_i32.ensures (edge_bytes k) (sym (edge_slot k)) refl refl)))
    ∙ ap (λ (j : ℕ). sets s letters (coded p v j)) e

pub loop-i-preserved : goal.loop-i-preserved
loop-i-preserved c =
    let n = c.args.n in
    let b = c.args.kind in
    let k = c.args.k in
    let p = band_fields n b k in
    let s = c.args.s.now in
    let v = c.args.v.now in
    let i = c.loop-i.i in
    coded_run p v s letters (law_in_band + (law_count b n + i * row_count n)) (row_fields n (row_slot k i)) (row_count n) (row_run n b k i) _ c.write_row.ensures
    (omega (arith, row_offset n b k i, ap (λ (m : ℕ). i * row_bytes m) c.count.ensures.0)) c.loop-i.invariant
    ∙ ap (λ (j : ℕ). sets s letters (coded p v j)) (row_next n b i)
