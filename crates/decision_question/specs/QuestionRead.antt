-- What reading a question's bytes g gives on the sheet v: the refusal and, if there is none, what the bytes say.
use Rattle.std.specs.Prelude.{◌≡◌, List, ℕ, ℤ, IfOk}
use Rattle.std.specs.declared.result.Result.{Result}
use Rattle.sheet_spec.specs.Slots.{vars}
use Rattle.sheet_spec.specs.declared.refusals.Refusal.{Refusal}
use Rattle.sheet_spec.specs.Refusals.{refusal_of}
use Rattle.decision_spec.specs.declared.Question.{Question}
use Rattle.decision_spec.specs.Question.{question_of, question_refusal}

pub record QuestionReads (v : List ℤ) (g : List ℕ) (r : Result Question Refusal) : Type 0 where
  pub refusal : refusal_of r ≡ question_refusal v g
  pub question : IfOk r (λ question. question ≡ question_of (vars v) g)
