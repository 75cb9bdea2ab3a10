-- `reach` answers what the definition does of any file. Assumes nothing.
use Rattle.std.proofs.Common.{sym}
use mathlib.Core.Path.{subst}
use Rattle.sheet_spec.specs.Valid.{ValidNumbers}
use Rattle.sheet_spec.proofs.Valid.{valid_numbers, zeros_are}
use Rattle.boxes.proofs.reach.Goals as goal

pub read_zeroed-requires : goal.read_zeroed-requires
read_zeroed-requires c = zeros_are

pub reach_of-requires : goal.reach_of-requires
reach_of-requires c = subst ValidNumbers (sym c.read_zeroed.ensures.1) (valid_numbers _ (sym c.in_ok-read_zeroed.ensures.0))
