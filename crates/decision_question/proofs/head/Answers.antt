-- `head`: where the law is refused, the allowance is not. Assumes nothing.
use Rattle.std.proofs.Common.{rules, ◌≡◌, [], ◌∷◌}
use Rattle.std.proofs.lemmas.Result.{err_from_is_err_and}
use Rattle.sheet_spec.proofs.FirstRefusal.{last_found}
use Rattle.decision_spec.specs.Question.{allowance_of, least_of, greatest_of, allowance_refusal}
use Rattle.decision_question.proofs.head.Goals as goal

pub returns-in_err-law_refusal-clause-refusal : goal.returns-in_err-law_refusal-clause-refusal
unfolding allowance_of least_of greatest_of allowance_refusal
returns-in_err-law_refusal-clause-refusal c =
    let p = err_from_is_err_and c.from_residual.result c.from_residual.ensures.1 in
    let passed : allowance_refusal c.args.question.now ≡ 0 = search rules in
    rw (p.1, p.2) (last_found (search rules) (allowance_refusal c.args.question.now ∷ []) (passed, tt))
