-- `put_question_line`: the number, a space, the decision, a newline. Assumes nothing.
use Rattle.listing_text.proofs.Puts.{then}
use Rattle.listing_lines.proofs.put_question_line.Goals as goal

pub returns : goal.returns
returns c =
    then c.clear.ensures (then (then c.put_decimal.ensures.0 (then c.put.ensures c.put_decision.ensures.0)) c.put-2.ensures)
