-- `start_box` is the start box of the definitions. Assumes nothing.
use Rattle.std.proofs.Common.{refl}
use borrow.Author.Tests.{eq-eqb, ne_eqb}
use Rattle.decision_spec.specs.ReachCall.{start_box}
use Rattle.guard_reach.proofs.start_box.Goals as goal

pub returns-then-start-n : goal.returns-then-start-n
unfolding start_box
returns-then-start-n c = rw (eq-eqb _ _ c.if-start-n.true) c.pairs.ensures

pub returns : goal.returns
unfolding start_box
returns c = rw (ne_eqb _ _ c.if-start-n.false) refl
