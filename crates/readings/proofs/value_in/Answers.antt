-- `value_in`: both ends are whole numbers of units. Assumes nothing.
use lib.Ieee.{neg, of_bits}
use Rattle.readings_spec.specs.Exact.{finite, scaled}
use Rattle.readings_spec.specs.Reading.{value_in}
use Rattle.readings.proofs.value_in.Goals as goal

pub lies_between-requires : goal.lies_between-requires
unfolding finite neg of_bits
lies_between-requires c = (tt, tt)

pub returns : goal.returns
unfolding value_in scaled neg of_bits
returns c = c.lies_between.ensures
