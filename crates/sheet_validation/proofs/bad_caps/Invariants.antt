-- `bad_caps`: the head and its first `i` caps pass.
use Rattle.std.proofs.Common.{◌≡◌, ◌+◌}
use Rattle.sheet_spec.specs.Fields.{bad}
use Rattle.sheet_spec.specs.Layout.{head_fields}
use Rattle.sheet_spec.specs.Slots.{head_size}
use Rattle.sheet_validation.proofs.bad_caps.Given as goal

abbrev pub invariant-loop-i : goal.invariant-loop-i
invariant-loop-i l = 0 ≡ bad head_fields l.v (head_size + l.i)
