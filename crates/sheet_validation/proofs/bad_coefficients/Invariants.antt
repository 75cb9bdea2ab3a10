-- `bad_coefficients`: the first `j` coefficients pass.
use Rattle.std.proofs.Common.{◌≡◌}
use Rattle.sheet_spec.specs.Fields.{bad}
use Rattle.sheet_spec.specs.Layout.{coefficient_field}
use Rattle.sheet_validation.proofs.bad_coefficients.Given as goal

abbrev pub invariant-loop-j : goal.invariant-loop-j
invariant-loop-j l = 0 ≡ bad (coefficient_field l.slot) l.v l.j
