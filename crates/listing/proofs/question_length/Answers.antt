-- `question_length`: the sheet's number of variables is one for which there is room. Assumes nothing.
use Rattle.sheet_spec.specs.Slots.{N, vars}
use Rattle.std.proofs.Common.{ap, arith}
use Rattle.listing.proofs.Vars.{vars_in_range}
use Rattle.listing.proofs.question_length.Goals as goal

pub vars-requires : goal.vars-requires
vars-requires c = rw c.read_zeroed.ensures.1 ((vars_in_range c.args.sheet.now).low, (vars_in_range c.args.sheet.now).high)
