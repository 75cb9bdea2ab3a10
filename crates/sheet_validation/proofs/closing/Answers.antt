-- `closing`: the test of a whole record, by its kind. Assumes nothing.
use Rattle.std.proofs.Common.{◌∙◌, ap, sym}
use Rattle.sheet_spec.specs.File.{closing}
use Rattle.sheet_validation.proofs.closing.Goals as goal

pub returns-in-Head : goal.returns-in-Head
unfolding closing
returns-in-Head c = ap (closing c.args.v.now c.args.shape) (sym c.in-Head.is)

pub returns-in-Band : goal.returns-in-Band
unfolding closing
returns-in-Band c = ap (closing c.args.v.now c.args.shape) (sym c.in-Band.is)

pub returns-in-Unsafe : goal.returns-in-Unsafe
unfolding closing
returns-in-Unsafe c = c.bad_order.ensures ∙ ap (closing c.args.v.now c.args.shape) (sym c.in-Unsafe.is)

pub returns-in-Recovery : goal.returns-in-Recovery
unfolding closing
returns-in-Recovery c = c.bad_overlap.ensures ∙ ap (closing c.args.v.now c.args.shape) (sym c.in-Recovery.is)
