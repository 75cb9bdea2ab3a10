-- `write_caps`: the next cap. Assumes nothing.
use Rattle.std.proofs.Common.{◌+◌, refl, arith}
use Rattle.sheet_spec.specs.Slots.{head_size, cap_slot}
use Rattle.sheet_spec.specs.Fields.{u16}
use Rattle.sheet_spec.specs.Layout.{head_fields}
use Rattle.sheet_spec.specs.Sizes.{letters, caps_at, cap_bytes}
use Rattle.sheet_spec.proofs.FieldPlaces.{cap_at}
use Rattle.sheet_spec.proofs.Length.{cap_offset}
use Rattle.sheet_writer.proofs.RecordTurn.{coded_next}
use Rattle.sheet_writer.proofs.record.write_caps.Goals as goal

pub loop-i-preserved : goal.loop-i-preserved
loop-i-preserved c =
    let i = c.loop-i.i in
    coded_next head_fields c.args.v.now c.args.s.now letters (head_size + i) (head_size + (i + 1)) (omega arith) _ (cap_at i) u16 (cap_slot i) (caps_at + cap_bytes i) c.put_u16.ensures
    refl refl (omega (arith, cap_offset i)) c.loop-i.invariant
