-- `compare_boxes`: the first `i` variables have the same sides.
use Rattle.std.proofs.Common.{◌≡◌}
use Rattle.std.specs.declared.cmp.Ordering.TheVariants.{Equal}
use Rattle.sheet_spec.specs.Order.{compare_boxes}
use Rattle.sheet_spec.specs.Slots.{box_at}
use Rattle.sheet_validation.proofs.order.compare_boxes.Given as goal

abbrev pub invariant-loop-i : goal.invariant-loop-i
invariant-loop-i l = Equal ≡ compare_boxes l.i (box_at l.v l.a) (box_at l.v l.b)
