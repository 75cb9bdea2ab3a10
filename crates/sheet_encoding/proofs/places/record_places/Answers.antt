-- `record_places`: the first record starts at 0. Assumes nothing.
use Rattle.std.proofs.Common.{refl, arith}
use Rattle.sheet_spec.specs.File.{record_start}
use Rattle.sheet_encoding.proofs.places.record_places.Goals as goal

pub invariant_of-result : goal.invariant_of-result
unfolding record_start
invariant_of-result c = record { small = c.requires; within = omega arith; start = refl }
