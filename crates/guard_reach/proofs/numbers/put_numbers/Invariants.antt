-- `put_numbers` writes numbers: after k turns, the first k. Assumes nothing.
use Rattle.std.proofs.Common.{◌≡◌}
use Rattle.std.proofs.lemmas.List.Edits.{sets}
use Rattle.decision_spec.specs.Numbers.{number_bytes}
use Rattle.guard_reach.proofs.numbers.put_numbers.Given as goal

abbrev pub invariant-loop-k : goal.invariant-loop-k
invariant-loop-k l = l.out ≡ sets l.fn.out 0 (number_bytes l.v l.k)
