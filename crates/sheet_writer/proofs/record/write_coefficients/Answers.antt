-- `write_coefficients`: the next coefficient. Assumes nothing.
use Rattle.std.proofs.Common.{◌+◌, refl, arith}
use Rattle.sheet_spec.specs.Fields.{u16, coded}
use Rattle.sheet_spec.specs.Layout.{coefficient_field}
use Rattle.sheet_spec.specs.Sizes.{coefficient_bytes}
use Rattle.sheet_encoding.proofs.FieldTurn.{coefficient_place}
use Rattle.sheet_writer.proofs.RecordTurn.{coded_next}
use Rattle.sheet_writer.proofs.record.write_coefficients.Goals as goal

pub loop-j-init : goal.loop-j-init
unfolding coded
loop-j-init c = refl

pub loop-j-preserved : goal.loop-j-preserved
loop-j-preserved c =
    let a = c.args in
    let j = c.loop-j.j in
    let p = coefficient_field a.slot in
    coded_next p a.v.now a.s.now a.at j (j + 1) refl (p j) refl u16 (a.slot + j) (a.at + coefficient_bytes j) c.put_u16.ensures
    refl refl (omega (arith, coefficient_place a.slot j)) c.loop-j.invariant
