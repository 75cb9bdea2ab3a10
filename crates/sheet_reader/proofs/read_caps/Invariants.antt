-- `read_caps`: the head with its caps. The invariant: the first i caps were read. Assumes nothing.
use Rattle.std.proofs.Common.{◌≡◌}
use Rattle.sheet_spec.specs.Fields.{filled}
use Rattle.sheet_spec.specs.Layout.{cap_field}
use Rattle.sheet_reader.proofs.read_caps.Given as goal

abbrev pub invariant-loop-i : goal.invariant-loop-i
invariant-loop-i l = l.v ≡ filled cap_field l.f l.caps l.i l.initial.v
