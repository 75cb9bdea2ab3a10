-- `pairs`: after i turns, the box of the first i pairs. Assumes nothing.
use Rattle.std.proofs.Common.{◌≡◌}
use Rattle.decision_spec.specs.Question.{pairs}
use Rattle.decision_question.proofs.pairs.Given as goal

abbrev pub invariant-loop-i : goal.invariant-loop-i
invariant-loop-i l = l.sides ≡ pairs l.i l.bytes l.at
