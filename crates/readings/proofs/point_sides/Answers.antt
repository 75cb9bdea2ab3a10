-- `point_sides`: the first test that fails gives the refusal; where none does, the sides are floor and ceiling, less and more by the tolerance. Assumes nothing.
use Rattle.std.proofs.Common.{◌≡◌, Bool, true, false, refl, sym}
use Rattle.integers.specs.Bound.{Bound}
use Rattle.sheet_spec.specs.Limits.{max_reading}
use Rattle.readings_spec.specs.Exact.{rounded}
use Rattle.readings_spec.specs.Reading.{reading_side, value_in, tolerance_in, reading_refusal}
use Rattle.readings_spec.proofs.Sides.{value_bound, tolerance_bound}
use Rattle.readings.proofs.OneReading.{tolerance_value, bad_value, bad_tolerance, minus_fits, plus_fits, minus_read, plus_read}
use Rattle.readings.proofs.point_sides.Goals as goal
use Rattle.readings.proofs.point_sides.Goals.{then-not-value_in-via-then-not-value_in, then-not-value_in-via-else-not-value_in+then-not-tolerance_in}

pub returns-then-not-value_in : goal.returns-then-not-value_in
returns-then-not-value_in c =
    elim c.then-not-value_in.branch [
      | then-not-value_in-via-then-not-value_in w ↦ bad_value c.args.point (sym w.if-not-value_in.ensures)
      | then-not-value_in-via-else-not-value_in+then-not-tolerance_in w ↦ bad_tolerance c.args.point (sym w.if-not-tolerance_in.ensures)
    ]

pub rounded-margin-requires : goal.rounded-margin-requires
rounded-margin-requires c = tolerance_value _ (sym c.if-not-tolerance_in.ensures)

pub overflow_sub-result : goal.overflow_sub-result
overflow_sub-result c =
    minus_fits c.rounded.ensures c.rounded-margin.ensures (value_bound false c.args.point.value (sym c.if-not-value_in.ensures))
    (tolerance_bound c.args.point.tolerance (sym c.if-not-tolerance_in.ensures))

pub overflow_add-result : goal.overflow_add-result
overflow_add-result c =
    plus_fits c.rounded-2.ensures c.rounded-margin.ensures (value_bound true c.args.point.value (sym c.if-not-value_in.ensures))
    (tolerance_bound c.args.point.tolerance (sym c.if-not-tolerance_in.ensures))

pub returns : goal.returns
unfolding reading_side reading_refusal
returns c =
    let point = c.args.point in
    let value : value_in point.value ≡ true = sym c.if-not-value_in.ensures in
    let tolerance : tolerance_in point.tolerance ≡ true = sym c.if-not-tolerance_in.ensures in
    let of_value : (up : Bool) → Bound (rounded up point.value) max_reading = λ up. value_bound up point.value value in
    let of_tolerance = tolerance_bound point.tolerance tolerance in
    record {
      refusal = rw (value, tolerance) refl;
      lower = minus_read c.rounded.ensures c.rounded-margin.ensures (of_value false) of_tolerance;
      upper = plus_read c.rounded-2.ensures c.rounded-margin.ensures (of_value true) of_tolerance;
    }
