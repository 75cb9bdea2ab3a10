-- `decide_readings`: the rounds are those of the definition's reply. Assumes nothing.
use Rattle.std.proofs.Common.{◌≡◌, ◌≤◌, List, ℕ, rules, subst, sym}
use Rattle.sheet_spec.specs.Refusals.{unless_refused}
use Rattle.readings_spec.specs.declared.Reading.{Reading}
use Rattle.decision_spec.specs.Question.{allowance_of}
use Rattle.decision_spec.specs.Decision.{Reply, rounds_of}
use Rattle.decision_spec.specs.Readings.{decide_readings}
use Rattle.decision_spec.proofs.Readings.{read_allowed, read_accepted}
use Rattle.decision_answers.specs.Decision.{reply_of}
use Rattle.decision_readings.proofs.decide_readings.Goals as goal

within : (f h : List ℕ) (rs : List Reading) {r : Reply} → r ≡ decide_readings f h rs → rounds_of r ≤ allowance_of h
within f h rs e = subst (λ (r : Reply). rounds_of r ≤ allowance_of h) (sym e) (read_allowed f h rs)

pub returns-in_err-read_zeroed-clause-allowed : goal.returns-in_err-read_zeroed-clause-allowed
unfolding reply_of decide_readings unless_refused
returns-in_err-read_zeroed-clause-allowed c = within c.args.sheet.now c.args.head.now c.args.readings (search rules)

pub returns-clause-allowed : goal.returns-clause-allowed
returns-clause-allowed c = within c.args.sheet.now c.args.head.now c.args.readings (search (rules, read_accepted))
