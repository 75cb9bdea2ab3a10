-- Invariant: after j turns, the sum of the first j, and how far it goes.
use Rattle.std.proofs.Common.{◌≡◌, ◌+◌, ◌*◌}
use Rattle.integers.specs.Bound.{Bound}
use Rattle.sheet_spec.specs.Slots.{◌!◌}
use Rattle.machine_spec.specs.Rate.{weighted}
use Rattle.boxes_arithmetic.specs.Limits.{limit, word}
use Rattle.boxes_rates.proofs.row.weighted.Given as goal

abbrev pub invariant-loop-j : goal.invariant-loop-j
invariant-loop-j l = record {
  same : l.sum ≡ weighted l.up l.j (λ j. l.sheet ! (l.row + j)) l.over;
  near : Bound (weighted l.up l.j (λ j. l.sheet ! (l.row + j)) l.over) (l.j * (word * limit));
}
