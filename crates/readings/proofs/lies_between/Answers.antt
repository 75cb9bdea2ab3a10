-- `lies_between`: the range's test is that of the exact values. Assumes nothing.
use Rattle.std.proofs.Common.{◌≡◌, arith, rules}
use Rattle.readings_spec.specs.Exact.{between, scaled}
use Rattle.readings.proofs.Order.{le_is, not_below, within}
use Rattle.readings.proofs.lies_between.Goals as goal

pub returns : goal.returns
returns c =
    let inside : c.contains.result ≡ between (scaled c.args.least) (scaled c.args.greatest) c.args.x =
    rw (c.contains.ensures.value, c.new.ensures.start, c.new.ensures.end, c.new.ensures.exhausted, le_is c.args.least c.args.x, le_is c.args.x c.args.greatest)
    (within c.args.least c.args.greatest c.args.x (search rules) (search rules) (search rules) c.requires.0 c.requires.1) in
    grind (arith, inside, not_below c.args.x)
