-- `read_box`: a lower and an upper side at each turn. Assumes nothing.
use Rattle.std.proofs.Common.{◌≡◌, ℕ, ◌*◌, ◌+◌, refl, ap, ◌∙◌, arith}
use Rattle.sheet_spec.specs.Slots.{pair_size}
use Rattle.sheet_spec.specs.Fields.{filled, offset}
use Rattle.sheet_spec.specs.Sizes.{upper_at, box_bytes}
use Rattle.sheet_spec.specs.Layout.{◌▸◌, box_fields, side_fields}
use Rattle.sheet_spec.proofs.FieldRuns.{filled_next}
use Rattle.sheet_spec.proofs.FieldPlaces.{side_run}
use Rattle.sheet_spec.proofs.Length.{side_offset}
use Rattle.sheet_encoding.proofs.FieldTurn.{upper_offset}
use Rattle.sheet_encoding.proofs.SlotNumber.{stored}
use Rattle.sheet_reader.proofs.read_box.Goals as goal

pub loop-i-init : goal.loop-i-init
unfolding filled
loop-i-init c = λ h. refl

pub loop-i-preserved : goal.loop-i-preserved
unfolding side_fields ◌▸◌
loop-i-preserved c =
    let a = c.args in
    let i = c.loop-i.i in
    let s = a.slot in
    let f = a.f.now in
    let v = a.v.now in
    let z : i * pair_size + 0 ≡ i * pair_size = omega arith in
    λ h.
    filled_next (box_fields h s) (i * pair_size + 1) ((i + 1) * pair_size) (omega arith) _ ((side_run h s i).at 1 (omega arith)) f a.at v (a.at + box_bytes i + upper_at)
    refl (stored c.get_i32-in-loop-i.ensures c.get_i32-in-loop-i.type_inv) (omega (arith, upper_offset h s i))
    (filled_next (box_fields h s) (i * pair_size + 0) (i * pair_size + 1) (omega arith) _ ((side_run h s i).at 0 (omega arith)) f a.at v (a.at + box_bytes i)
    refl (stored c.get_i32.ensures c.get_i32.type_inv) (omega (arith, side_offset h s i, ap (offset (box_fields h s)) z))
    (c.loop-i.invariant h ∙ ap (λ (j : ℕ). filled (box_fields h s) f a.at j v) (omega arith)))
