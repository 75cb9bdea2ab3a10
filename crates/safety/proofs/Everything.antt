-- One name that opens every definition of this crate and of those below, where an example is computed. Assumes nothing.
use Prim.Native.Nat.{ℕ}
use Rattle.decision_spec.proofs.Everything as decision
use Rattle.readings_spec.specs.Exact.{finite, scaled, rounded, between}
use Rattle.readings_spec.specs.Reading.{reading_side, value_in, tolerance_in, reading_refusal, readings_refusal, readings_box}
use Rattle.readings_spec.specs.Allowed.{Allows}
use Rattle.decision_spec.specs.Numbers.{number_bytes, sides_of}
use Rattle.decision_spec.specs.Readings.{with_box, decide_readings}
use Rattle.safety.specs.Run.{kept, period_law, acting}
use Rattle.safety.specs.Asked.{asked_kept, asked_law, AskedMeasured, as_period}

unfoldable pub everything : ℕ
unfolding decision.everything finite scaled rounded between reading_side value_in tolerance_in reading_refusal readings_refusal readings_box Allows number_bytes sides_of with_box decide_readings kept period_law acting asked_kept asked_law AskedMeasured as_period
everything = 0
