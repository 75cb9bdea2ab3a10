-- What holds of a question that is not refused. Assumes nothing.
use mathlib.Core.Path.{◌≡◌}
use mathlib.Core.Bool.{true}
use mathlib.Core.List.{List, [], ◌∷◌}
use Prim.Native.Nat.{ℕ, ◌+◌}
use lib.Dec.{eqb}
use lib.IntN.{ℤ}
use lib.ListN.{length}
use borrow.Author.Tests.{eqb-true}
use Rattle.sheet_spec.specs.Refusals.{Cause}
use Rattle.sheet_spec.specs.Slots.{vars}
use Rattle.sheet_spec.specs.Sizes.{box_bytes}
use Rattle.sheet_spec.proofs.Box.{and_both}
use Rattle.sheet_spec.proofs.Laws.{unless_zero}
use Rattle.sheet_spec.proofs.FirstRefusal.{all_pass}
use Rattle.boxes_spec.specs.Reach.{law_refusal, sides_refusal}
use Rattle.decision_spec.specs.Question.{kind_of, known, sides_at, measured, question_head, form_refusal, allowance_refusal, head_refusal, question_refusal}

-- its mark is known, and it has as many bytes as the mark says, with `rest` of them after the head
pub record FormPasses (rest : ℕ) (g : List ℕ) : Type 0 where
  pub mark : known (kind_of g) ≡ true
  pub size : length g ≡ sides_at (kind_of g) + rest

pub form_passes : (rest : ℕ) (g : List ℕ) → form_refusal rest g ≡ 0 → FormPasses rest g
unfolding form_refusal
form_passes rest g none =
    let both = and_both (known (kind_of g)) (eqb (length g) (sides_at (kind_of g) + rest)) (unless_zero _ Cause.question none) in
    record { mark = both.0; size = eqb-true (length g) (sides_at (kind_of g) + rest) both.1 }

pub record HeadPasses (v : List ℤ) (rest : ℕ) (g : List ℕ) : Type 0 where
  pub form : form_refusal rest g ≡ 0
  pub allowance : allowance_refusal g ≡ 0
  pub law : law_refusal v (question_head g).law ≡ 0

pub head_passes : (v : List ℤ) (rest : ℕ) (g : List ℕ) → head_refusal v rest g ≡ 0 → HeadPasses v rest g
unfolding head_refusal
head_passes v rest g none =
    let all = all_pass (form_refusal rest g ∷ allowance_refusal g ∷ law_refusal v (question_head g).law ∷ []) none in
    record { form = all.0; allowance = all.1.0; law = all.1.1.0 }

pub record QuestionPasses (v : List ℤ) (g : List ℕ) : Type 0 where
  pub head : HeadPasses v (box_bytes (vars v)) g
  pub start : sides_refusal (vars v) (measured (vars v) g) ≡ 0

pub question_passes : (v : List ℤ) (g : List ℕ) → question_refusal v g ≡ 0 → QuestionPasses v g
unfolding question_refusal
question_passes v g none =
    let all = all_pass (head_refusal v (box_bytes (vars v)) g ∷ sides_refusal (vars v) (measured (vars v) g) ∷ []) none in
    record { head = head_passes v (box_bytes (vars v)) g all.0; start = all.1.0 }
