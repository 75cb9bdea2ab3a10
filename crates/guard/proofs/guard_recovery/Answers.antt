-- `guard_recovery` answers the recovery check's number. Assumes nothing.
use Rattle.std.proofs.Common.{◌≡◌, ◌≤◌, sym, ap, ◌∙◌, subst, arith}
use Rattle.sheet_spec.specs.Limits.{max_width}
use Rattle.decision_answers.specs.Decision.{reply_of}
use Rattle.decision_answers.specs.Recovery.{check_reply_of}
use Rattle.decision_spec.specs.Decision.{Reply, width_of, packed, check_recovery}
use Rattle.decision_spec.specs.Calls.{recovery_call}
use Rattle.decision_spec.proofs.Allowance.{check_answer}
use Rattle.guard.proofs.guard_recovery.Goals as goal

pub pack_decision-requires : goal.pack_decision-requires
unfolding reply_of check_reply_of
pack_decision-requires c =
    let checks : reply_of c.map.result ≡ check_recovery c.args.sheet.now = grind arith in
    subst (λ (r : Reply). width_of r ≤ max_width) (sym checks) (check_answer _).wide

pub returns : goal.returns
unfolding recovery_call reply_of check_reply_of
returns c =
    let checks : reply_of c.map.result ≡ check_recovery c.args.sheet.now = grind arith in
    c.pack_decision.ensures ∙ ap packed checks
