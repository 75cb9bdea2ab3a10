-- `decide_on`: the question that was read is the definition's, and passes all tests where it is not refused. Assumes nothing.
use Rattle.std.proofs.Common.{◌≤◌, sym, subst, arith}
use Rattle.sheet_spec.specs.Slots.{N, vars}
use Rattle.boxes_spec.proofs.Ranges.{lawful, start_sized}
use Rattle.decision_spec.specs.Question.{question_head, measured}
use Rattle.decision_question.proofs.Measured.{measured_trimmed}
use Rattle.decision_spec.proofs.Passes.{question_passes}
use Rattle.decision.specs.Limits.{DecisionAsked}
use Rattle.decision.proofs.decide_on.Goals as goal

pub decision_to-requires : goal.decision_to-requires
decision_to-requires c =
    let v = c.args.sheet.now in
    let g = c.args.question.now in
    let room : vars v ≤ N = omega (arith, c.requires.vars_high) in
    let passes = question_passes v g (sym c.in_ok-asked.ensures.refusal) in
    subst (DecisionAsked v) (sym c.in_ok-asked.ensures.question)
    (record {
      sheet = c.requires;
      start = start_sized (vars v) (measured (vars v) g) passes.start;
      trimmed = measured_trimmed (vars v) g room;
      law = lawful v (question_head g).law passes.head.law;
    })
