-- `guard_decide_readings` answers the decision's number, by the readings that the slices stand for. Assumes nothing.
use Rattle.std.proofs.Common.{◌≤◌, List, sym, ap, ◌∙◌, subst}
use Rattle.sheet_spec.specs.Limits.{max_width}
use Rattle.readings_spec.specs.declared.Reading.{Reading}
use Rattle.decision_spec.specs.Decision.{Reply, width_of, packed}
use Rattle.decision_spec.specs.Readings.{decide_readings}
use Rattle.decision_spec.specs.ReadingsCall.{readings_call}
use Rattle.decision_spec.proofs.Allowance.{readings_answer}
use Rattle.guard.proofs.guard_decide_readings.Goals as goal

pub pack_decision-requires : goal.pack_decision-requires
pack_decision-requires c = subst (λ (r : Reply). width_of r ≤ max_width) (sym c.decide_readings.ensures.result_value) (readings_answer _ _ _).wide

pub returns : goal.returns
unfolding readings_call
returns c =
    c.pack_decision.ensures
    ∙ (ap packed c.decide_readings.ensures.result_value ∙ ap (λ (rs : List Reading). packed (decide_readings c.args.sheet.now c.args.head.now rs)) c.readings_in.ensures)
