-- A question's bytes (document 01, "Sheet layout"; document 02, paper 4): a mark, the allowance, the command (`QS`) or the least and the
-- greatest command of a span (`QR`), n pairs of sides. What they say, as one value, and the tests that refuse them.
use Rattle.std.specs.Prelude.{Bool, cond, ◌&&◌, List, [], ◌∷◌, ℕ, ◌+◌, ◌*◌, min, leb, eqb, ℤ, get_or, length, take, drop, is_some}
use Rattle.std.specs.declared.option.Option.{Option}
use Rattle.std.specs.declared.option.Option.TheVariants.{Some, None}
use Rattle.integers.specs.Bytes.{be}
use Rattle.sheet_spec.specs.Fields.{i32, bytes_in, decoded}
use Rattle.sheet_spec.specs.Sizes.{letters, upper_at, pair_bytes, box_bytes}
use Rattle.sheet_spec.specs.Limits.{max_allowance}
use Rattle.sheet_spec.specs.Slots.{vars}
use Rattle.sheet_spec.specs.Refusals.{Cause, refuse_unless, first_of}
use Rattle.machine_spec.specs.Box.{box_of}
use Rattle.machine_spec.specs.declared.Law.TheVariants.{Span}
use Rattle.boxes_spec.specs.Reach.{law_refusal, sides_refusal}
use Rattle.decision_spec.specs.declared.QuestionKind.{QuestionKind}
use Rattle.decision_spec.specs.declared.QuestionKind.TheVariants.{Single, Ranged}
use Rattle.decision_spec.specs.declared.QuestionHead.{QuestionHead}
use Rattle.decision_spec.specs.declared.Question.{Question}

-- ---- its mark

-- the two letters that it starts with, Q and S for one command, Q and R for a span
abbrev pub single_mark : ℕ × ℕ
single_mark = (81, 83)

abbrev pub ranged_mark : ℕ × ℕ
ranged_mark = (81, 82)

abbrev pub marked : ℕ × ℕ → List ℕ → Bool
marked mark g = eqb (get_or g 0 0) mark.0 && eqb (get_or g 1 0) mark.1

-- the question that the mark announces, or None if it is unknown. Fewer than two bytes have no mark
unfoldable pub kind_of : List ℕ → Option QuestionKind
kind_of g = cond (marked single_mark g) (Some Single) (cond (marked ranged_mark g) (Some Ranged) None)

abbrev pub known : Option QuestionKind → Bool
known = is_some

-- ---- its bytes

-- where its fields start, after the letters. The bytes before the pairs of sides are its head
abbrev pub allowance_at : ℕ
allowance_at = letters

-- the allowance is unsigned, and has as many bytes as a command. The command, or the least one of a span
abbrev pub command_at : ℕ
command_at = allowance_at + bytes_in i32

-- the greatest command: a span has a field for it, after the least; one command is the least and the greatest
abbrev pub greatest_at : Option QuestionKind → ℕ
greatest_at (Some Single) = command_at
greatest_at (Some Ranged) = command_at + bytes_in i32
greatest_at None = command_at

abbrev pub sides_at : Option QuestionKind → ℕ
sides_at k = greatest_at k + bytes_in i32

-- how many bytes a question on a sheet of n variables takes
abbrev pub question_length : Option QuestionKind → ℕ → ℕ
question_length k n = sides_at k + box_bytes n

-- how many bytes the next question takes, where g are the bytes still to come: as many as its mark says, or all that are left if they
-- are fewer, or if the mark is unknown
unfoldable pub next_length : ℕ → List ℕ → ℕ
next_length n g = cond (known (kind_of g)) (min (question_length (kind_of g) n) (length g)) (length g)

-- ---- what they say

unfoldable pub allowance_of : List ℕ → ℕ
allowance_of g = be (take (bytes_in i32) (drop allowance_at g))

unfoldable pub least_of : List ℕ → ℤ
least_of g = decoded i32 (drop command_at g)

unfoldable pub greatest_of : List ℕ → ℤ
greatest_of g = decoded i32 (drop (greatest_at (kind_of g)) g)

-- n pairs of lower and upper side, from a place on
unfoldable pub pairs : ℕ → List ℕ → ℕ → List ℤ
pairs n g at = box_of n (λ i. decoded i32 (drop (at + pair_bytes * i) g)) (λ i. decoded i32 (drop (at + pair_bytes * i + upper_at) g))

-- the measured box
unfoldable pub measured : ℕ → List ℕ → List ℤ
measured n g = pairs n g (sides_at (kind_of g))

-- as one value, its head apart from the measured box
abbrev pub question_head : List ℕ → QuestionHead
question_head g = record { allowance = allowance_of g; law = Span (least_of g) (greatest_of g) }

-- the question on a sheet of n variables
abbrev pub question_of : ℕ → List ℕ → Question
question_of n g = record { head = question_head g; measured = measured n g }

-- ---- its tests

-- there is a mark, and as many bytes as it says, with `rest` of them after the head
abbrev pub well_formed : ℕ → List ℕ → Bool
well_formed rest g = known (kind_of g) && eqb (length g) (sides_at (kind_of g) + rest)

unfoldable pub form_refusal : ℕ → List ℕ → ℕ
form_refusal rest g = refuse_unless (well_formed rest g) Cause.question

unfoldable pub allowance_refusal : List ℕ → ℕ
allowance_refusal g = refuse_unless (leb (allowance_of g) max_allowance) Cause.allowance

-- the tests of a head in their order, on the sheet v, where `rest` bytes are to follow it
unfoldable pub head_refusal : List ℤ → ℕ → List ℕ → ℕ
head_refusal v rest g = first_of (form_refusal rest g ∷ allowance_refusal g ∷ law_refusal v (question_head g).law ∷ [])

-- the tests of a question, the head's first
unfoldable pub question_refusal : List ℤ → List ℕ → ℕ
question_refusal v g = first_of (head_refusal v (box_bytes (vars v)) g ∷ sides_refusal (vars v) (measured (vars v) g) ∷ [])
