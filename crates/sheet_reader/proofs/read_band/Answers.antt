-- `read_band`: the edge and the safety range, the law, and a row at each turn. Assumes nothing.
use Rattle.std.proofs.Common.{◌≡◌, ℕ, ◌*◌, ◌+◌, sym, ap, ◌∙◌, arith}
use Rattle.sheet_spec.specs.Slots.{law_slot, row_slot, law_in_band}
use Rattle.sheet_spec.specs.Fields.{filled}
use Rattle.sheet_spec.specs.Sizes.{row_bytes}
use Rattle.sheet_spec.specs.Layout.{band_fields, law_fields, law_count, row_fields, row_count}
use Rattle.sheet_spec.proofs.FieldRuns.{filled_run}
use Rattle.sheet_spec.proofs.FieldPlaces.{law_run, row_next, row_run}
use Rattle.sheet_spec.proofs.Length.{law_offset, row_offset}
use Rattle.sheet_encoding.proofs.FieldTurn.{band_filled}
use Rattle.sheet_encoding.proofs.SlotNumber.{stored}
use Rattle.sheet_reader.proofs.read_band.Goals as goal

pub loop-i-preserved : goal.loop-i-preserved
loop-i-preserved c =
    let a = c.args in
    let n = a.n in
    let i = c.loop-i.i in
    let f = a.f.now in
    λ b w r h.
    filled_run (band_fields n b a.k) (row_fields n (row_slot a.k i)) (law_in_band + (law_count b n + i * row_count n)) (row_count n) (row_run n b a.k i) f a.at w c.read_row.ensures
    (omega (arith, row_offset n b a.k i, ap (λ (k : ℕ). i * row_bytes k) c.count.ensures.0)) (c.loop-i.invariant b w r h)
    ∙ ap (λ (j : ℕ). filled (band_fields n b a.k) f a.at j w) (row_next n b i)

pub returns : goal.returns
returns c =
    let a = c.args in
    let n = a.n in
    let b = a.kind in
    let f = a.f.now in
    let v = a.v.now in
    let law =
    filled_run (band_fields n b a.k) (law_fields n (law_slot a.k)) law_in_band (law_count b n) (law_run n b a.k) f a.at v c.read_law.ensures (omega (arith, law_offset n b a.k))
    (rw (stored c.get_i32.ensures c.get_i32.type_inv, stored c.get_i32-2.ensures c.get_i32-2.type_inv, stored c.get_i32-3.ensures c.get_i32-3.type_inv)
    (sym (band_filled n b a.k f a.at v))) in
    let e : c.loop-i.i ≡ n = omega arith in
    c.loop-i.invariant b v (omega (arith, c.law_bytes.ensures)) law
    ∙ ap (λ (i : ℕ). filled (band_fields n b a.k) f a.at (law_in_band + (law_count b n + i * row_count n)) v) e
