-- What reading a question's head gives on the sheet v, where `rest` of its bytes g are to follow the head: the refusal and, if there is none, the head.
use Rattle.std.specs.Prelude.{◌≡◌, List, ℕ, ℤ, IfOk}
use Rattle.std.specs.declared.result.Result.{Result}
use Rattle.sheet_spec.specs.declared.refusals.Refusal.{Refusal}
use Rattle.sheet_spec.specs.Refusals.{refusal_of}
use Rattle.decision_spec.specs.declared.QuestionHead.{QuestionHead}
use Rattle.decision_spec.specs.Question.{question_head, head_refusal}

pub record HeadReads (v : List ℤ) (rest : ℕ) (g : List ℕ) (r : Result QuestionHead Refusal) : Type 0 where
  pub refusal : refusal_of r ≡ head_refusal v rest g
  pub head : IfOk r (λ head. head ≡ question_head g)
