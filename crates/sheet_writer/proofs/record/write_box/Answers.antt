-- `write_box`: the next pair of sides. Assumes nothing.
use Rattle.std.proofs.Common.{◌≡◌, ◌+◌, ◌*◌, ℕ, ◌∙◌, ap, refl, arith}
use Rattle.std.proofs.lemmas.List.Edits.{sets}
use Rattle.sheet_spec.specs.Slots.{N, pair_size}
use Rattle.sheet_spec.specs.Fields.{i32, coded, offset}
use Rattle.sheet_spec.specs.Layout.{◌▸◌, box_fields, side_fields}
use Rattle.sheet_spec.specs.Sizes.{letters, upper_at, box_bytes}
use Rattle.sheet_spec.proofs.FieldPlaces.{side_run}
use Rattle.sheet_spec.proofs.Length.{side_offset}
use Rattle.sheet_encoding.proofs.FieldTurn.{upper_offset}
use Rattle.sheet_writer.proofs.RecordTurn.{coded_next}
use Rattle.sheet_writer.proofs.record.write_box.Goals as goal

pub loop-i-init : goal.loop-i-init
unfolding coded
loop-i-init c = λ h. refl

pub loop-i-preserved : goal.loop-i-preserved
unfolding side_fields ◌▸◌
loop-i-preserved c =
    let i = c.loop-i.i in
    let k = c.args.slot in
    let s = c.args.s.now in
    let v = c.args.v.now in
    let z : i * pair_size + 0 ≡ i * pair_size = omega arith in
    λ h.
    coded_next (box_fields h k) v s letters (i * pair_size + 1) ((i + 1) * pair_size) (omega arith) _ ((side_run h k i).at 1 (omega arith)) i32 (k + i + N) (letters + box_bytes i + upper_at) c.put_i32-in-loop-i.ensures refl refl (omega (arith, upper_offset h k i))
    (coded_next (box_fields h k) v s letters (i * pair_size + 0) (i * pair_size + 1) (omega arith) _ ((side_run h k i).at 0 (omega arith)) i32 (k + i) (letters + box_bytes i) c.put_i32.ensures refl refl (omega (arith, side_offset h k i, ap (offset (box_fields h k)) z))
    (c.loop-i.invariant h ∙ ap (λ (j : ℕ). sets s letters (coded (box_fields h k) v j)) (omega arith)))
