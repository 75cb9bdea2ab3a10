-- `attempts`: what is left to do of the definition's attempts, from the width and the count that the loop has. Measure: the width.
-- Assumes nothing.
use Rattle.std.proofs.Common.{◌≤◌, ◌+◌, ◌*◌}
use Rattle.decision_attempt.specs.AttemptResult.{attempt_of}
use Rattle.decision_attempt.proofs.Turn.{Attempting}
use Rattle.decision_attempt.proofs.attempts.Given as goal

-- at the width w after `counted` rounds
abbrev pub invariant-loop-rounds : goal.invariant-loop-rounds
invariant-loop-rounds l = record {
  narrower : l.w ≤ l.width;
  counts : l.counted + 73000 * l.w ≤ 73000 * l.width;
  attempting : Attempting (attempt_of l.allowance l.phases l.sheet l.start) l.width l.w l.counted;
}

abbrev pub decreases-loop-rounds : goal.decreases-loop-rounds
decreases-loop-rounds l = l.w
