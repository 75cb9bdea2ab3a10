-- `put`: the text was copied to its part of the line. Assumes nothing.
use Rattle.std.proofs.Common.{arith}
use Rattle.listing_text.proofs.Puts.{copied}
use Rattle.listing_text.proofs.Line.put.Goals as goal

pub returns : goal.returns
returns c = copied c.args.text.now c.args.self.now.bytes _ c.args.self.now.end (omega arith) c.copy_from_slice.ensures.after
