-- `bad_box`: the sides of the first `i` variables pass.
use Rattle.std.proofs.Common.{◌≡◌, ◌*◌}
use Rattle.sheet_spec.specs.Fields.{bad}
use Rattle.sheet_spec.specs.Layout.{box_fields}
use Rattle.sheet_spec.specs.Slots.{pair_size}
use Rattle.sheet_validation.proofs.bad_box.Given as goal

abbrev pub invariant-loop-i : goal.invariant-loop-i
invariant-loop-i l = 0 ≡ bad (box_fields l.most l.slot) l.v (l.i * pair_size)
