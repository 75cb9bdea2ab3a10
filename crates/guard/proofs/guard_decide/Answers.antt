-- `guard_decide` answers the decision's number. Assumes nothing.
use Rattle.std.proofs.Common.{◌≤◌, sym, ap, ◌∙◌, subst}
use Rattle.sheet_spec.specs.Limits.{max_width}
use Rattle.decision_spec.specs.Decision.{Reply, width_of, packed}
use Rattle.decision_spec.specs.Calls.{decide_call}
use Rattle.decision_spec.proofs.Allowance.{decide_answer}
use Rattle.guard.proofs.guard_decide.Goals as goal

pub pack_decision-requires : goal.pack_decision-requires
pack_decision-requires c = subst (λ (r : Reply). width_of r ≤ max_width) (sym c.decide.ensures.result_value) (decide_answer _ _).wide

pub returns : goal.returns
unfolding decide_call
returns c = c.pack_decision.ensures ∙ ap packed c.decide.ensures.result_value
