-- `write_coefficients`: the first j are written. Assumes nothing.
use Rattle.std.proofs.Common.{◌≡◌}
use Rattle.std.proofs.lemmas.List.Edits.{sets}
use Rattle.sheet_spec.specs.Fields.{coded}
use Rattle.sheet_spec.specs.Layout.{coefficient_field}
use Rattle.sheet_writer.proofs.record.write_coefficients.Given as goal

abbrev pub invariant-loop-j : goal.invariant-loop-j
invariant-loop-j l = l.s ≡ sets l.initial.s l.at (coded (coefficient_field l.slot) l.v l.j)
