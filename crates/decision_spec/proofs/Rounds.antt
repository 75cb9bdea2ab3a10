-- How many rounds an answer takes at most (specs/Rounds). Assumes nothing.
use Rattle.decision_spec.specs.Rounds.{EnoughRounds, FewRounds, FewRecoveryRounds}
use Rattle.decision_spec.proofs.Allowance.{decide_allowed, decide_few, decide_enough, check_few, check_unspent}

pub enough_rounds : EnoughRounds
enough_rounds f g h w c = decide_enough f g h

pub few_rounds : FewRounds
few_rounds f g = (decide_allowed f g, decide_few f g)

pub few_recovery_rounds : FewRecoveryRounds
few_recovery_rounds f = (λ w c. check_unspent f, check_few f)
