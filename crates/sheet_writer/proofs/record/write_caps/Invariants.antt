-- `write_caps`: the head and the first i caps are written. Assumes nothing.
use Rattle.std.proofs.Common.{◌+◌, ◌≡◌}
use Rattle.std.proofs.lemmas.List.Edits.{sets}
use Rattle.sheet_spec.specs.Slots.{head_size}
use Rattle.sheet_spec.specs.Fields.{coded}
use Rattle.sheet_spec.specs.Sizes.{letters}
use Rattle.sheet_spec.specs.Layout.{head_fields}
use Rattle.sheet_writer.proofs.record.write_caps.Given as goal

abbrev pub invariant-loop-i : goal.invariant-loop-i
invariant-loop-i l = l.s ≡ sets l.fn.s letters (coded head_fields l.v (head_size + l.i))
