-- `four`: the number that four bytes are. Assumes nothing.
use Rattle.std.proofs.Common.{arith}
use Rattle.integers.proofs.Bytes.{be_four}
use Rattle.sheet_encoding.proofs.bytes.four.Goals as goal

pub returns : goal.returns
returns c = omega (arith, c.from_be_bytes.ensures, be_four c.args.f.now c.args.at c.requires)
