-- `measured`: the first i readings pass, and the box is theirs. Assumes nothing.
use Rattle.std.proofs.Common.{◌≡◌}
use Rattle.readings_spec.specs.Reading.{readings_refusal, readings_box}
use Rattle.readings.proofs.measured.Given as goal

abbrev pub invariant-loop-i : goal.invariant-loop-i
invariant-loop-i l = record {
  passed : readings_refusal l.i l.fn.readings ≡ 0;
  box : l.measured ≡ readings_box l.i l.fn.readings;
}
