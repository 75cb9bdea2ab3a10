-- `pair_sides`: the first test that fails gives the refusal; where none does, the sides are floor and ceiling. Assumes nothing.
use Rattle.std.proofs.Common.{rules, ◌≡◌, true, false, refl, sym}
use Rattle.readings_spec.specs.Reading.{reading_side, value_in, reading_refusal}
use Rattle.readings_spec.proofs.Sides.{value_bound}
use Rattle.readings.proofs.OneReading.{bad_lower, bad_upper, reversed, out_of_order, in_order, read_back}
use Rattle.readings.proofs.pair_sides.Goals as goal
use Rattle.readings.proofs.pair_sides.Goals.{then-not-value_in-via-then-not-value_in, then-not-value_in-via-else-not-value_in+then-not-value_in-2, then-not-value_in-via-else-not-value_in+else-not-value_in-2+then-reversed}

pub returns-then-not-value_in : goal.returns-then-not-value_in
returns-then-not-value_in c =
    let l = c.args.lower in
    let u = c.args.upper in
    elim c.then-not-value_in.branch [
      | then-not-value_in-via-then-not-value_in w ↦ bad_lower l u (sym w.if-not-value_in.ensures)
      | then-not-value_in-via-else-not-value_in+then-not-value_in-2 w ↦ bad_upper l u (sym w.if-not-value_in-2.ensures)
      | then-not-value_in-via-else-not-value_in+else-not-value_in-2+then-reversed w ↦
          reversed l u
          (out_of_order l u (search rules) (search rules) (sym w.if-not-value_in.ensures) (sym w.if-not-value_in-2.ensures) w.if-reversed.true)
    ]

pub returns : goal.returns
unfolding reading_side reading_refusal
returns c =
    let l = c.args.lower in
    let u = c.args.upper in
    let lower_in : value_in l ≡ true = sym c.if-not-value_in.ensures in
    let upper_in : value_in u ≡ true = sym c.if-not-value_in-2.ensures in
    record {
      refusal = rw (lower_in, upper_in, in_order l u (search rules) (search rules) lower_in upper_in c.if-reversed.false) refl;
      lower = read_back c.rounded.ensures (value_bound false l lower_in);
      upper = read_back c.rounded-2.ensures (value_bound true u upper_in);
    }
