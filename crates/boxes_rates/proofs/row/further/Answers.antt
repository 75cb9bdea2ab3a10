-- `further` gives the outer one of the outermost so far and of the outermost allowed change by a row, whose spread is put on the
-- outer side of its N. Assumes nothing.
use Rattle.std.proofs.Common.{rules, ◌∙◌, ◌+◌, FitsSigned, w32, w64, ◌+ℤ◌, ◌-ℤ◌}
use mir.Facts.{to_z-of_z}
use Rattle.integers.proofs.Z.{bound_sum, bound_sub, fits64}
use Rattle.sheet_spec.specs.Slots.{◌!◌, N, row_at}
use Rattle.machine_spec.specs.Machine.{change, outward_div}
use Rattle.boxes_rates.proofs.RowNumbers.{row_read, row_bound}
use Rattle.boxes_rates.proofs.row.further.Goals as goal

-- an upper face
pub returns-then-up : goal.returns-then-up
unfolding change outward_div
returns-then-up c =
    let row = row_at c.args.sheet.now c.args.row in
    let spread : FitsSigned w32 (c.args.sheet.now ! (c.args.row + (N + 2))) = search rules in
    let divisor : FitsSigned w32 (c.args.sheet.now ! (c.args.row + (N + 3))) = search rules in
    let spread_is = row_read c.args.sheet.now c.args.row 2 spread.sfits in
    let divisor_is = row_read c.args.sheet.now c.args.row 3 divisor.sfits in
    let sum : FitsSigned w64 (c.args.number +ℤ row.d) = fits64 (bound_sum c.requires.number (row_bound c.args.sheet.now c.args.row 2 spread.sfits)) tt in
    let fits = c.ranges in (
      c.outer_quotient.ensures.0 ∙ rw c.if-up.true (simp (to_z-of_z, fits.cap, fits.outermost, fits.number, spread_is, divisor_is, sum)),
      λ e. c.outer_quotient.ensures.1 e ∙ simp (to_z-of_z, fits.cap),
    )

-- a lower face
pub returns-else-up : goal.returns-else-up
unfolding change outward_div
returns-else-up c =
    let row = row_at c.args.sheet.now c.args.row in
    let spread : FitsSigned w32 (c.args.sheet.now ! (c.args.row + (N + 2))) = search rules in
    let divisor : FitsSigned w32 (c.args.sheet.now ! (c.args.row + (N + 3))) = search rules in
    let spread_is = row_read c.args.sheet.now c.args.row 2 spread.sfits in
    let divisor_is = row_read c.args.sheet.now c.args.row 3 divisor.sfits in
    let difference : FitsSigned w64 (c.args.number -ℤ row.d) = fits64 (bound_sub c.requires.number (row_bound c.args.sheet.now c.args.row 2 spread.sfits)) tt in
    let fits = c.ranges in (
      c.outer_quotient-else-up.ensures.0 ∙ rw c.if-up.false (simp (to_z-of_z, fits.cap, fits.outermost, fits.number, spread_is, divisor_is, difference)),
      λ e. c.outer_quotient-else-up.ensures.1 e ∙ simp (to_z-of_z, fits.cap),
    )
