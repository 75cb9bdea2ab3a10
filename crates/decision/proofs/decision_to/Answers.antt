-- `decision_to`: the attempts of the two phases are the definition's. Assumes nothing.
use Rattle.std.proofs.Common.{◌∙◌, arith}
use Rattle.decision_spec.specs.Decision.{ticks_of}
use Rattle.decision.proofs.Answer.{plan_decides}
use Rattle.decision.proofs.decision_to.Goals as goal

pub attempts-requires : goal.attempts-requires
unfolding ticks_of
attempts-requires c =
    let asked = c.requires in
    let δ_is = c.count-first.ensures in
    let α_is = c.count-then.ensures in
    let width_is = c.max.ensures in
    record {
      sheet = asked.sheet;
      start = asked.start;
      trimmed = asked.trimmed;
      phases = omega arith;
      laws = (asked.law, (tt, tt));
      ticks = omega (arith, δ_is, α_is, asked.sheet.sum_high);
      some = omega (arith, δ_is, α_is, width_is, asked.sheet.δ_low);
      most = omega (arith, δ_is, α_is, width_is, asked.sheet.sum_high);
    }

pub returns : goal.returns
returns c =
    let question = c.args.question in
    c.attempts.ensures
    ∙ plan_decides c.args.sheet.now question.measured question.head.law question.head.allowance c.count-first.ensures c.count-then.ensures c.max.ensures
