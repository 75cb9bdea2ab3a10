-- `read_feedback`: a law's coefficients, and then its constant and its divisor. Assumes nothing.
use Rattle.std.proofs.Common.{◌+◌, arith}
use Rattle.sheet_spec.specs.Slots.{constant_in_law, divisor_in_law}
use Rattle.sheet_spec.specs.Fields.{offset}
use Rattle.sheet_spec.specs.Sizes.{coefficient_bytes, divisor_at}
use Rattle.sheet_spec.specs.Layout.{◌▸◌, law_rest}
use Rattle.sheet_encoding.proofs.FieldTurn.{law_parts, filled_coefficients, filled_rest}
use Rattle.sheet_encoding.proofs.SlotNumber.{stored}
use Rattle.sheet_reader.proofs.read_feedback.Goals as goal

pub returns : goal.returns
unfolding law_rest ◌▸◌ offset
returns c =
    let a = c.args in
    let n = a.n in
    let k = c.count.result in
    let f = a.f.now in
    let v = a.v.now in
    let parts = law_parts n a.slot in
    filled_rest parts divisor_in_law f a.at v (a.at + coefficient_bytes k + divisor_at) (omega (arith, c.count.ensures.0)) (stored c.get_u16.ensures c.get_u16.type_inv) (omega (arith, c.count.ensures.0))
    (filled_rest parts constant_in_law f a.at v (a.at + coefficient_bytes k) (omega (arith, c.count.ensures.0)) (stored c.get_i32.ensures c.get_i32.type_inv) (omega (arith, c.count.ensures.0))
    (filled_coefficients parts f a.at v c.read_coefficients.ensures))
