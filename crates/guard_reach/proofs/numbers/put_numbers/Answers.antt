-- `put_numbers`: one number more. Assumes nothing.
use Rattle.std.proofs.Common.{refl, ◌∙◌}
use Rattle.decision_spec.specs.Numbers.{number_bytes}
use Rattle.guard_reach.proofs.Turn.{bytes_more}
use Rattle.guard_reach.proofs.numbers.put_numbers.Goals as goal

pub loop-k-init : goal.loop-k-init
unfolding number_bytes
loop-k-init c = refl

pub loop-k-preserved : goal.loop-k-preserved
loop-k-preserved c = c.put_i32.ensures ∙ bytes_more _ _ c.loop-k.k c.loop-k.invariant
