-- A span of one command (document 02, paper 4): a question `QR` with equal ends is the question `QS` with that command.
-- proofs/SpanOfOne.antt proves it.
use Rattle.std.specs.Prelude.{◌≡◌, List, ◌∷◌, ◌++◌, ℕ, ℤ, length}
use Rattle.sheet_spec.specs.Fields.{i32, bytes_in}
use Rattle.decision_spec.specs.Question.{single_mark, ranged_mark, question_of, question_refusal}
use Rattle.decision_spec.specs.Decision.{decide}

-- the bytes of a question, from those of its fields
abbrev pub single_question : List ℕ → List ℕ → List ℕ → List ℕ
single_question allowance command sides = single_mark.0 ∷ single_mark.1 ∷ (allowance ++ (command ++ sides))

abbrev pub ranged_question : List ℕ → List ℕ → List ℕ → List ℕ → List ℕ
ranged_question allowance least greatest sides = ranged_mark.0 ∷ ranged_mark.1 ∷ (allowance ++ (least ++ (greatest ++ sides)))

-- two questions that say the same, are refused for the same cause on every sheet, and have the same reply in every field
pub record Alike (g g' : List ℕ) : Type 0 where
  pub said : (n : ℕ) → question_of n g ≡ question_of n g'
  pub refusals : (v : List ℤ) → question_refusal v g ≡ question_refusal v g'
  pub replies : (f : List ℕ) → decide f g ≡ decide f g'

-- whatever bytes there are for the sides
abbrev pub SpanOfOne : Type 0
SpanOfOne =
    (allowance command sides : List ℕ) → length allowance ≡ bytes_in i32 → length command ≡ bytes_in i32
    → Alike (ranged_question allowance command command sides) (single_question allowance command sides)
