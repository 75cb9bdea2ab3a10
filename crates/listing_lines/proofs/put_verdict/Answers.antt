-- `put_verdict`: a word and two numbers, each after a space. Assumes nothing.
use Rattle.std.proofs.Common.{arith}
use Rattle.listing_text.proofs.Puts.{then}
use Rattle.listing_lines.proofs.put_verdict.Goals as goal

pub returns : goal.returns
returns c =
    let width = rw c.from.ensures at c.put_field.ensures.0 in
    let rounds = rw c.from-2.ensures at c.put_field-2.ensures.0 in
    (then c.put.ensures (then width rounds), omega arith)
