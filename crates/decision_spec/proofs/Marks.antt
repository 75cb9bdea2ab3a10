-- What a question's mark says: where the fields start, how many bytes the next question takes, and that one with an unknown mark is refused.
-- Assumes nothing.
use mathlib.Core.Path.{◌≡◌, refl}
use mathlib.Core.Bool.{true, false}
use mathlib.Core.List.{List}
use Prim.Native.Nat.{ℕ, ◌≤◌, ◌<◌, min}
use native.Mathlib.Nat.{lt_of_lt_of_le}
use native.Mathlib.Omega.{arith}
use lib.IntN.{ℤ}
use lib.ListN.{get_or, length, take}
use lib.Seq.{get_or-take}
use Rattle.std.specs.declared.option.Option.{Option}
use Rattle.std.specs.declared.option.Option.TheVariants.{Some, None}
use Rattle.sheet_spec.specs.Sizes.{letters}
use Rattle.sheet_spec.specs.Refusals.{Cause, number, unless_refused, first_of}
use Rattle.sheet_spec.specs.Sheet.{refusal, values}
use Rattle.decision_spec.specs.declared.QuestionKind.{QuestionKind}
use Rattle.decision_spec.specs.declared.QuestionKind.TheVariants.{Single, Ranged}
use Rattle.decision_spec.specs.Question.{kind_of, known, command_at, greatest_at, question_length, next_length, form_refusal, head_refusal, question_refusal}
use Rattle.decision_spec.specs.Decision.{refused, decide}

-- ---- where the greatest command starts

-- not before the least command
pub greatest_from : (k : Option QuestionKind) → command_at ≤ greatest_at k
greatest_from (Some Single) = omega arith
greatest_from (Some Ranged) = omega arith
greatest_from None = omega arith

-- nor after the greatest of a span
pub greatest_to : (k : Option QuestionKind) → greatest_at k ≤ greatest_at (Some Ranged)
greatest_to (Some Single) = omega arith
greatest_to (Some Ranged) = omega arith
greatest_to None = omega arith

-- ---- the first bytes

-- they have the mark
pub kind_part : (g : List ℕ) (held : ℕ) → letters ≤ held → kind_of (take held g) ≡ kind_of g
unfolding kind_of
kind_part g held h = rw (letter 0 (omega arith), letter 1 (omega arith)) refl
  where
    letter : (i : ℕ) → i < letters → get_or (take held g) i 0 ≡ get_or g i 0
    letter i k = get_or-take held g i 0 (lt_of_lt_of_le k h)

-- ---- the next question

module _ (n : ℕ) (g : List ℕ) where
  -- a known mark takes its own length, or all that is left
  pub next_own : known (kind_of g) ≡ true → next_length n g ≡ min (question_length (kind_of g) n) (length g)
  unfolding next_length
  next_own e = rw e refl

  -- an unknown one takes all
  pub next_all : known (kind_of g) ≡ false → next_length n g ≡ length g
  unfolding next_length
  next_all e = rw e refl

-- ---- an unknown mark

module _ (g : List ℕ) (e : known (kind_of g) ≡ false) where
  unknown_refused : (v : List ℤ) → question_refusal v g ≡ number Cause.question
  unfolding question_refusal head_refusal form_refusal first_of unless_refused
  unknown_refused v = rw e refl

  -- whatever follows the mark, the reply is the same
  pub unknown_decided : (f : List ℕ) → decide f g ≡ unless_refused (refusal f) refused (refused (number Cause.question))
  unfolding decide unless_refused
  unknown_decided f = rw (unknown_refused (values f)) refl
