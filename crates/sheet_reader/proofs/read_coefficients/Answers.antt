-- `read_coefficients`: each coefficient is written to the next slot. Assumes nothing.
use Rattle.std.proofs.Common.{◌+◌, refl, arith}
use Rattle.sheet_spec.specs.Fields.{filled}
use Rattle.sheet_spec.specs.Sizes.{coefficient_bytes}
use Rattle.sheet_spec.specs.Layout.{coefficient_field}
use Rattle.sheet_spec.proofs.FieldRuns.{filled_next}
use Rattle.sheet_encoding.proofs.FieldTurn.{coefficient_place}
use Rattle.sheet_encoding.proofs.SlotNumber.{stored}
use Rattle.sheet_reader.proofs.read_coefficients.Goals as goal

pub loop-j-init : goal.loop-j-init
unfolding filled
loop-j-init c = refl

pub loop-j-preserved : goal.loop-j-preserved
loop-j-preserved c =
    let a = c.args in
    let j = c.loop-j.j in
    let p = coefficient_field a.slot in
    filled_next p j (j + 1) refl (p j) refl a.f.now a.at a.v.now (a.at + coefficient_bytes j)
    refl (stored c.get_i16.ensures c.get_i16.type_inv) (omega (arith, coefficient_place a.slot j)) c.loop-j.invariant
