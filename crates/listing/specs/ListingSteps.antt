-- The listing step by step, for a program that has a part of the questions' file at hand: the sheet's step, then a step for each
-- question. proofs/ListingSteps proves the two statements.
use Rattle.std.specs.Prelude.{◌≡◌, true, false, List, [], ◌++◌, ℕ, zero, suc, ◌≤◌, ◌<◌, ltb, length, take, drop, None, Some, IsSome}
use Rattle.std.specs.Bool.{then_some}
use Rattle.std.specs.declared.option.Option.{Option}
use Rattle.sheet_spec.specs.Slots.{vars}
use Rattle.sheet_spec.specs.Sheet.{values}
use Rattle.decision_spec.specs.Decision.{check_recovery, is_keep}
use Rattle.decision_spec.specs.Question.{kind_of, known, next_length}
use Rattle.decision_spec.specs.Listing.{sheet_line, question_line, listing}
use Rattle.listing.specs.Limits.{longest_sheet, longest_question}

-- ---- a step

-- its line, how many of the bytes still to come it took, and the number of the next question, if one may follow
pub record ListingStep : Type 0 where
  pub line : List ℕ
  pub taken : ℕ
  pub next : Option ℕ

-- the sheet's line; the questions follow only after pass, from number 1 on
unfoldable pub sheet_step : List ℕ → ListingStep
sheet_step f = record { line = sheet_line f; taken = 0; next = then_some (is_keep (check_recovery f)) 1 }

-- the step that ends the listing
abbrev pub ended : ListingStep
ended = record { line = []; taken = 0; next = None }

-- the next question's line, where g are the bytes still to come. The listing ends if there are none, and after an unknown mark, which takes
-- all that are left
unfoldable pub question_step : List ℕ → Option ℕ → List ℕ → ListingStep
question_step f None g = ended
question_step f (Some i) g =
    elim (ltb 0 (length g)) [
      | true ↦ record {
        line = question_line f i (take (next_length (vars (values f)) g) g);
        taken = next_length (vars (values f)) g;
        next = then_some (known (kind_of g)) (suc i);
      }
      | false ↦ ended
    ]

-- ---- all steps

-- the lines of steps, put together, where g are the bytes still to come: the step of question i is given the first `held i` of
-- them. The fuel is not used up if it is more than the length of g
unfoldable pub step_lines : List ℕ → (ℕ → ℕ) → ℕ → Option ℕ → List ℕ → List ℕ
step_lines f held zero next g = []
step_lines f held (suc fuel) None g = []
step_lines f held (suc fuel) (Some i) g =
    let s = question_step f (Some i) (take (held i) g) in
    s.line ++ step_lines f held fuel s.next (drop s.taken g)

unfoldable pub all_lines : List ℕ → (ℕ → ℕ) → List ℕ → List ℕ
all_lines f held g = (sheet_step f).line ++ step_lines f held (suc (length g)) (sheet_step f).next g

-- two steps that come to the same: they have the same line, they lead on alike and, if the listing goes on, they take as many bytes
pub record SameStep (s t : ListingStep) : Type 0 where
  pub line : s.line ≡ t.line
  pub next : s.next ≡ t.next
  pub taken : IsSome s.next → s.taken ≡ t.taken

-- a step on at least as many bytes as the longest question has, or on all that are left, comes to the same as the step on all that are left
abbrev pub StepOnPart : Type 0
StepOnPart = (f g : List ℕ) (next : Option ℕ) (held : ℕ) → longest_question ≤ held → SameStep (question_step f next (take held g)) (question_step f next g)

-- with more of the sheet's file than the longest sheet has, and such a part at each step, the lines are the listing
abbrev pub StepsAreListing : Type 0
StepsAreListing =
    (f g : List ℕ) (read : ℕ) (held : ℕ → ℕ) → longest_sheet < read → ((i : ℕ) → longest_question ≤ held i)
    → all_lines (take read f) held g ≡ listing f g
