-- `read_coefficients`: the coefficients of a law or of a row, one after another. The invariant: the first j were read.
-- Assumes nothing.
use Rattle.std.proofs.Common.{◌≡◌}
use Rattle.sheet_spec.specs.Fields.{filled}
use Rattle.sheet_spec.specs.Layout.{coefficient_field}
use Rattle.sheet_reader.proofs.read_coefficients.Given as goal

abbrev pub invariant-loop-j : goal.invariant-loop-j
invariant-loop-j l = l.v ≡ filled (coefficient_field l.slot) l.f l.at l.j l.initial.v
