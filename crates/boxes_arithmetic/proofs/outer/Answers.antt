-- `outer` gives the smaller for a lower face, the greater for an upper. Assumes nothing.
use Rattle.std.proofs.Common.{◌∙◌, rules, w64, FitsSigned}
use mir.Facts.{to_z-of_z}
use Rattle.machine_spec.specs.Rate.{outer}
use Rattle.boxes_arithmetic.proofs.Order.{int_min_is, int_max_is}
use Rattle.boxes_arithmetic.proofs.outer.Goals as goal

pub returns-then-up : goal.returns-then-up
unfolding outer
returns-then-up c =
    let fits : FitsSigned w64 c.max.result = search rules in
    let is = simp (to_z-of_z, c.ranges.a, c.ranges.b) at c.max.ensures.value in
    rw c.if-up.true (to_z-of_z fits ∙ (is ∙ int_max_is c.args.a c.args.b))

pub returns-else-up : goal.returns-else-up
unfolding outer
returns-else-up c =
    let fits : FitsSigned w64 c.min.result = search rules in
    let is = simp (to_z-of_z, c.ranges.a, c.ranges.b) at c.min.ensures.value in
    rw c.if-up.false (to_z-of_z fits ∙ (is ∙ int_min_is c.args.a c.args.b))
