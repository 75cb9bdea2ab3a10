-- `reading_side`: what the test gives decides between the refusal and the rounded value. Assumes nothing.
use Rattle.std.proofs.Common.{◌≡◌, true, refl, sym}
use Rattle.readings_spec.specs.Reading.{value_in}
use Rattle.readings_spec.specs.SideCall.{side_call}
use Rattle.readings_spec.proofs.Sides.{value_bound}
use Rattle.readings.proofs.OneReading.{read_back}
use Rattle.readings.proofs.reading_side.Goals as goal

pub returns-then-not-value_in : goal.returns-then-not-value_in
unfolding side_call
returns-then-not-value_in c = rw (c.from-then-not-value_in.ensures, c.from.ensures, sym c.if-not-value_in.ensures) refl

pub returns : goal.returns
unfolding side_call
returns c =
    let e : value_in c.args.value ≡ true = sym c.if-not-value_in.ensures in
    rw e (read_back c.rounded.ensures (value_bound _ _ e))
