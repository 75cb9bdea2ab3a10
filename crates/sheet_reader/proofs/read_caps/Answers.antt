-- `read_caps`: each cap is written to the next slot. Assumes nothing.
use Rattle.std.proofs.Common.{◌≡◌, ℕ, ◌+◌, refl, ap, ◌∙◌, arith}
use Rattle.sheet_spec.specs.Slots.{head_size}
use Rattle.sheet_spec.specs.Fields.{filled, offset}
use Rattle.sheet_spec.specs.Sizes.{letters, caps_at, cap_bytes}
use Rattle.sheet_spec.specs.Layout.{◌▸◌, cap_field, head_fields}
use Rattle.sheet_spec.proofs.FieldRuns.{filled_next, filled_run}
use Rattle.sheet_encoding.proofs.FieldTurn.{cap_place, cap_run}
use Rattle.sheet_encoding.proofs.SlotNumber.{stored}
use Rattle.sheet_reader.proofs.read_caps.Goals as goal

pub loop-i-init : goal.loop-i-init
unfolding filled
loop-i-init c = refl

pub loop-i-preserved : goal.loop-i-preserved
loop-i-preserved c =
    let a = c.args in
    let i = c.loop-i.i in
    filled_next cap_field i (i + 1) refl _ refl a.f.now (a.at + caps_at) c.read_head.new.v (a.at + caps_at + cap_bytes i)
    refl (stored c.get_u16.ensures c.get_u16.type_inv) (omega (arith, cap_place i)) c.loop-i.invariant

pub returns : goal.returns
unfolding head_fields ◌▸◌ offset
returns c =
    let a = c.args in
    let e : c.loop-i.i ≡ a.n = omega arith in
    filled_run head_fields cap_field head_size a.n (cap_run a.n) a.f.now (a.at + letters) a.v.now
    (c.loop-i.invariant ∙ ap (λ (i : ℕ). filled cap_field a.f.now (a.at + caps_at) i c.read_head.new.v) e) (omega arith) c.read_head.ensures
