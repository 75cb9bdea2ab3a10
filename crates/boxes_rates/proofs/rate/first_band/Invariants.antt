-- Invariant: the bands before the one at the slot end at or below `low`. Measure: the slots left.
use Rattle.std.proofs.Common.{◌-◌}
use Rattle.boxes_rates.specs.Plant.{BandFrom}
use Rattle.boxes_rates.proofs.rate.first_band.Given as goal

abbrev pub invariant-loop-at : goal.invariant-loop-at
invariant-loop-at l = BandFrom l.sheet l.low l.at

abbrev pub decreases-loop-at : goal.decreases-loop-at
decreases-loop-at l = l.top - l.at
