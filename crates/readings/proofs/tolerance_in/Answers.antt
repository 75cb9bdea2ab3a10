-- `tolerance_in`: both ends are whole numbers of units. Assumes nothing.
use lib.Ieee.{of_bits}
use Rattle.readings_spec.specs.Exact.{finite, scaled}
use Rattle.readings_spec.specs.Reading.{tolerance_in}
use Rattle.readings.proofs.tolerance_in.Goals as goal

pub lies_between-requires : goal.lies_between-requires
unfolding finite of_bits
lies_between-requires c = (tt, tt)

pub returns : goal.returns
unfolding tolerance_in scaled of_bits
returns c = c.lies_between.ensures
