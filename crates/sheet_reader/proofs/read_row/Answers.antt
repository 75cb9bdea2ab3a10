-- `read_row`: a row's coefficients, and then b, c, d and q. Assumes nothing.
use Rattle.std.proofs.Common.{◌+◌, arith}
use Rattle.sheet_spec.specs.Slots.{b_in_rest, c_in_rest, d_in_rest, q_in_rest}
use Rattle.sheet_spec.specs.Fields.{offset}
use Rattle.sheet_spec.specs.Sizes.{coefficient_bytes, c_at, d_at, q_at}
use Rattle.sheet_spec.specs.Layout.{◌▸◌, row_rest}
use Rattle.sheet_encoding.proofs.FieldTurn.{row_parts, filled_coefficients, filled_rest}
use Rattle.sheet_encoding.proofs.SlotNumber.{stored}
use Rattle.sheet_reader.proofs.read_row.Goals as goal

pub returns : goal.returns
unfolding row_rest ◌▸◌ offset
returns c =
    let a = c.args in
    let n = a.n in
    let k = c.count.result in
    let f = a.f.now in
    let v = a.v.now in
    let parts = row_parts n a.slot in
    filled_rest parts q_in_rest f a.at v (a.at + coefficient_bytes k + q_at) (omega (arith, c.count.ensures.0)) (stored c.get_u16.ensures c.get_u16.type_inv) (omega (arith, c.count.ensures.0))
    (filled_rest parts d_in_rest f a.at v (a.at + coefficient_bytes k + d_at) (omega (arith, c.count.ensures.0)) (stored c.get_i32-2.ensures c.get_i32-2.type_inv) (omega (arith, c.count.ensures.0))
    (filled_rest parts c_in_rest f a.at v (a.at + coefficient_bytes k + c_at) (omega (arith, c.count.ensures.0)) (stored c.get_i32.ensures c.get_i32.type_inv) (omega (arith, c.count.ensures.0))
    (filled_rest parts b_in_rest f a.at v (a.at + coefficient_bytes k) (omega (arith, c.count.ensures.0)) (stored c.get_i16.ensures c.get_i16.type_inv) (omega (arith, c.count.ensures.0))
    (filled_coefficients parts f a.at v c.read_coefficients.ensures))))
