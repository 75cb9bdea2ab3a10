-- `put_sheet_line`: the word `sheet`, the answer, a newline. Assumes nothing.
use Rattle.listing_text.proofs.Puts.{then}
use Rattle.listing_lines.proofs.put_sheet_line.Goals as goal

pub returns : goal.returns
returns c = then c.clear.ensures (then (then c.put.ensures c.put_recovery.ensures.0) c.put-2.ensures)
