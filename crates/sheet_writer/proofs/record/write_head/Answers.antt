-- `write_head`: the head's numbers, each from its slot. Assumes nothing.
use Rattle.std.proofs.Common.{refl}
use Rattle.sheet_spec.specs.Slots.{vars_slot, bands_slot, boxes_slot, band_var_slot, δ_slot, α_slot, ρ_slot, least_slot, greatest_slot}
use Rattle.sheet_spec.specs.Fields.{u8, u16, i32, coded, offset}
use Rattle.sheet_spec.specs.Sizes.{letters, vars_at, bands_at, boxes_at, band_var_at, δ_at, α_at, ρ_at, least_at, greatest_at}
use Rattle.sheet_spec.specs.Layout.{◌▸◌, head_fields}
use Rattle.sheet_writer.proofs.RecordTurn.{coded_field}
use Rattle.sheet_writer.proofs.record.write_head.Goals as goal

pub returns : goal.returns
unfolding head_fields ◌▸◌ coded offset
returns c =
    let s = c.args.s.now in
    let v = c.args.v.now in
    coded_field head_fields v s letters greatest_slot i32 greatest_slot greatest_at c.put_i32-2.ensures refl refl refl
    (coded_field head_fields v s letters least_slot i32 least_slot least_at c.put_i32.ensures refl refl refl
    (coded_field head_fields v s letters ρ_slot u16 ρ_slot ρ_at c.put_u16-3.ensures refl refl refl
    (coded_field head_fields v s letters α_slot u16 α_slot α_at c.put_u16-2.ensures refl refl refl
    (coded_field head_fields v s letters δ_slot u16 δ_slot δ_at c.put_u16.ensures refl refl refl
    (coded_field head_fields v s letters band_var_slot u8 band_var_slot band_var_at c.put_u8-4.ensures refl refl refl
    (coded_field head_fields v s letters boxes_slot u8 boxes_slot boxes_at c.put_u8-3.ensures refl refl refl
    (coded_field head_fields v s letters bands_slot u8 bands_slot bands_at c.put_u8-2.ensures refl refl refl
    (coded_field head_fields v s letters vars_slot u8 vars_slot vars_at c.put_u8.ensures refl refl refl refl))))))))
