-- `write_feedback`: a law's coefficients, and then its constant and its divisor. Assumes nothing.
use Rattle.std.proofs.Common.{◌+◌, refl, arith}
use Rattle.sheet_spec.specs.Slots.{N, constant_in_law, divisor_in_law}
use Rattle.sheet_spec.specs.Fields.{u16, i32, offset}
use Rattle.sheet_spec.specs.Layout.{◌▸◌, law_rest}
use Rattle.sheet_spec.specs.Sizes.{coefficient_bytes, divisor_at}
use Rattle.sheet_encoding.proofs.FieldTurn.{law_parts}
use Rattle.sheet_writer.proofs.RecordTurn.{coded_coefficients, coded_rest}
use Rattle.sheet_writer.proofs.record.write_feedback.Goals as goal

pub returns : goal.returns
unfolding law_rest ◌▸◌ offset
returns c =
    let a = c.args in
    let n = a.n in
    let k = c.count.result in
    let i = a.slot in
    let s = a.s.now in
    let v = a.v.now in
    let parts = law_parts n i in
    coded_rest parts v s a.at divisor_in_law u16 (i + (N + divisor_in_law)) (a.at + coefficient_bytes k + divisor_at) c.put_u16.ensures refl (omega (arith, c.count.ensures.0)) (omega (arith, c.count.ensures.0))
    (coded_rest parts v s a.at constant_in_law i32 (i + N) (a.at + coefficient_bytes k) c.put_i32.ensures refl (omega (arith, c.count.ensures.0)) (omega (arith, c.count.ensures.0))
    (coded_coefficients parts v s a.at c.write_coefficients.ensures))
