-- `put_sides`: one variable's sides more, each within 32 bits. Assumes nothing.
use Rattle.std.proofs.Common.{true, false, refl, arith}
use Rattle.decision_spec.specs.Numbers.{sides_of}
use Rattle.guard_reach.proofs.Turn.{sides_more, side_fits, side_is}
use Rattle.guard_reach.proofs.numbers.put_sides.Goals as goal

pub loop-i-init : goal.loop-i-init
unfolding sides_of
loop-i-init c = refl

pub overflow_cast-v : goal.overflow_cast-v
overflow_cast-v c = side_fits (c.requires.1.1.at false c.loop-i.i (omega arith))

pub overflow_cast-v-in-loop-i : goal.overflow_cast-v-in-loop-i
overflow_cast-v-in-loop-i c = side_fits (c.requires.1.1.at true c.loop-i.i (omega arith))

pub loop-i-preserved : goal.loop-i-preserved
loop-i-preserved c =
    let near = c.requires.1.1 in
    let i = c.loop-i.i in
    sides_more _ _ i _ c.loop-i.invariant (side_is (near.at false i (omega arith))) (side_is (near.at true i (omega arith)))
