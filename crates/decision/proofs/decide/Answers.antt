-- `decide`: the rounds are those of the definition's reply. Assumes nothing.
use Rattle.std.proofs.Common.{rules}
use Rattle.sheet_spec.specs.Refusals.{unless_refused}
use Rattle.decision_spec.specs.Decision.{decide}
use Rattle.decision_spec.proofs.Allowance.{answer_allowed}
use Rattle.decision_answers.specs.Decision.{reply_of}
use Rattle.decision.proofs.decide.Goals as goal

pub returns-in_err-read_zeroed-clause-allowed : goal.returns-in_err-read_zeroed-clause-allowed
unfolding reply_of decide unless_refused
returns-in_err-read_zeroed-clause-allowed c = (answer_allowed c.args.sheet.now c.args.question.now (search rules)).1

pub returns-clause-allowed : goal.returns-clause-allowed
unfolding reply_of decide unless_refused
returns-clause-allowed c = (answer_allowed c.args.sheet.now c.args.question.now (search rules)).1
