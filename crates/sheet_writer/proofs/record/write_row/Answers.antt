-- `write_row`: a row's coefficients, and then b, c, d and q. Assumes nothing.
use Rattle.std.proofs.Common.{◌+◌, refl, arith}
use Rattle.sheet_spec.specs.Slots.{N, b_in_rest, c_in_rest, d_in_rest, q_in_rest}
use Rattle.sheet_spec.specs.Fields.{u16, i32, offset}
use Rattle.sheet_spec.specs.Layout.{◌▸◌, row_rest}
use Rattle.sheet_spec.specs.Sizes.{coefficient_bytes, c_at, d_at, q_at}
use Rattle.sheet_encoding.proofs.FieldTurn.{row_parts}
use Rattle.sheet_writer.proofs.RecordTurn.{coded_coefficients, coded_rest}
use Rattle.sheet_writer.proofs.record.write_row.Goals as goal

pub returns : goal.returns
unfolding row_rest ◌▸◌ offset
returns c =
    let a = c.args in
    let n = a.n in
    let k = c.count.result in
    let i = a.slot in
    let s = a.s.now in
    let v = a.v.now in
    let parts = row_parts n i in
    coded_rest parts v s a.at q_in_rest u16 (i + (N + q_in_rest)) (a.at + coefficient_bytes k + q_at) c.put_u16-2.ensures refl (omega (arith, c.count.ensures.0)) (omega (arith, c.count.ensures.0))
    (coded_rest parts v s a.at d_in_rest i32 (i + (N + d_in_rest)) (a.at + coefficient_bytes k + d_at) c.put_i32-2.ensures refl (omega (arith, c.count.ensures.0)) (omega (arith, c.count.ensures.0))
    (coded_rest parts v s a.at c_in_rest i32 (i + (N + c_in_rest)) (a.at + coefficient_bytes k + c_at) c.put_i32.ensures refl (omega (arith, c.count.ensures.0)) (omega (arith, c.count.ensures.0))
    (coded_rest parts v s a.at b_in_rest u16 (i + N) (a.at + coefficient_bytes k) c.put_u16.ensures refl (omega (arith, c.count.ensures.0)) (omega (arith, c.count.ensures.0))
    (coded_coefficients parts v s a.at c.write_coefficients.ensures))))
