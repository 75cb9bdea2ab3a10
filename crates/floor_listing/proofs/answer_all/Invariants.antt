-- `answer_all`: fewer and fewer questions may follow. Assumes nothing.
use Rattle.floor_listing.proofs.Left.{left}
use Rattle.floor_listing.proofs.answer_all.Given as goal

abbrev pub decreases-loop-next : goal.decreases-loop-next
decreases-loop-next g l = left l.next
