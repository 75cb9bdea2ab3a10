-- `pairs`: no pair was read yet. Assumes nothing.
use Rattle.std.proofs.Common.{refl}
use Rattle.machine_spec.specs.Box.{box_of}
use Rattle.decision_spec.specs.Question.{pairs}
use Rattle.decision_question.proofs.pairs.Goals as goal

pub loop-i-init : goal.loop-i-init
unfolding pairs box_of
loop-i-init c = refl
