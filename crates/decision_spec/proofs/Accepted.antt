-- What is accepted at its bound, and not past it: an allowance, the last end box of an attempt, and a swept box beside a no-go box, in either
-- order of two; which of several faults counts; what the marks say; and the lines of a short tail and of an unknown mark. Assumes nothing.
use mathlib.Core.Path.{◌≡◌, refl}
use mathlib.Core.Bool.{Bool, true, false}
use mathlib.Core.List.{List, [], ◌∷◌, ◌++◌, map}
use Prim.Native.Nat.{ℕ, ◌+◌}
use lib.IntN.{ℤ, pos, negsuc}
use lib.ListN.{take}
use lib.Seq.{sets}
use Rattle.sheet_spec.specs.Slots.{N, boxes_slot, unsafe_slot}
use Rattle.sheet_spec.specs.Sheet.{values}
use Rattle.sheet_spec.specs.SheetA.{file_a}
use Rattle.sheet_spec.specs.Refusals.{Cause, number}
use Rattle.sheet_spec.specs.Box.{lo, hi}
use Rattle.machine_spec.specs.Machine.{one_command}
use Rattle.boxes_spec.specs.Step.{Result, ok, failed, exhausted}
use Rattle.std.specs.declared.option.Option.TheVariants.{Some, None}
use Rattle.decision_spec.specs.declared.QuestionKind.TheVariants.{Single, Ranged}
use Rattle.decision_spec.specs.Question.{kind_of, next_length, least_of, greatest_of, measured, allowance_refusal, question_refusal}
use Rattle.decision_spec.specs.Decision.{attempt, decision_phases}
use Rattle.decision_spec.specs.Listing.{question_line, question_lines}
use Rattle.decision_spec.specs.Starred.{interval}
use Rattle.decision_spec.proofs.Everything.{everything}

-- 1,000,000 and 1,000,001
pub allowances : (allowance_refusal (81 ∷ 83 ∷ 0 ∷ 15 ∷ 66 ∷ 64 ∷ []) ≡ 0) × (allowance_refusal (81 ∷ 83 ∷ 0 ∷ 15 ∷ 66 ∷ 65 ∷ []) ≡ number Cause.allowance)
unfolding everything
allowances = (refl, refl)

-- of several faults the first in the document's order counts: a question on sheet A whose mark, allowance, command and measured box are wrong, and
-- the same with ever fewer of them
abbrev faulty : ℕ → ℕ → ℕ → List ℕ
faulty letter allowance u = 81 ∷ letter ∷ allowance ∷ 0 ∷ 0 ∷ 0 ∷ 0 ∷ 0 ∷ 0 ∷ u ∷ 0 ∷ 0 ∷ 0 ∷ 1 ∷ 0 ∷ 0 ∷ 0 ∷ 0 ∷ []

abbrev first_fault : List ℕ → Cause → Type 0
first_fault g cause = question_refusal (values file_a) g ≡ number cause

pub in_order : first_fault (faulty 84 1 26) Cause.question × first_fault (faulty 83 1 26) Cause.allowance × first_fault (faulty 83 0 26) Cause.command × first_fault (faulty 83 0 25) Cause.start
unfolding everything
in_order = (refl, refl, refl, refl)

-- the same of a question with a span, of which the first is cut short; 14 where the span is reversed, or an end of it is not the head's
abbrev faulty_ranged : ℕ → List ℕ → ℕ → List ℕ
faulty_ranged allowance least greatest = 81 ∷ 82 ∷ allowance ∷ 0 ∷ 0 ∷ 0 ∷ (least ++ (0 ∷ 0 ∷ 0 ∷ greatest ∷ 0 ∷ 0 ∷ 0 ∷ 1 ∷ 0 ∷ 0 ∷ 0 ∷ 0 ∷ []))

-- −26 and −25; 3 and 20
abbrev below : List ℕ
below = 255 ∷ 255 ∷ 255 ∷ 230 ∷ []

abbrev lowest : List ℕ
lowest = 255 ∷ 255 ∷ 255 ∷ 231 ∷ []

abbrev three : List ℕ
three = 0 ∷ 0 ∷ 0 ∷ 3 ∷ []

abbrev twenty : List ℕ
twenty = 0 ∷ 0 ∷ 0 ∷ 20 ∷ []

pub ranged_in_order : first_fault (take 21 (faulty_ranged 1 twenty 19)) Cause.question × first_fault (faulty_ranged 1 twenty 19) Cause.allowance × first_fault (faulty_ranged 0 twenty 19) Cause.command × first_fault (faulty_ranged 0 below 25) Cause.command × first_fault (faulty_ranged 0 three 26) Cause.command × first_fault (faulty_ranged 0 lowest 25) Cause.start
unfolding everything
ranged_in_order = (refl, refl, refl, refl, refl, refl)

-- what they say: one command is the least and the greatest, a span has both; the sides follow
pub said : (least_of (faulty 83 0 25) ≡ pos 25) × (greatest_of (faulty 83 0 25) ≡ pos 25) × (least_of (faulty_ranged 0 lowest 25) ≡ negsuc 24) × (greatest_of (faulty_ranged 0 lowest 25) ≡ pos 25)
unfolding everything
said = (refl, refl, refl, refl)

pub boxes_said : (lo (measured 1 (faulty 83 0 25)) 0 ≡ pos 1) × (hi (measured 1 (faulty 83 0 25)) 0 ≡ pos 0) × (lo (measured 1 (faulty_ranged 0 three 25)) 0 ≡ pos 1) × (hi (measured 1 (faulty_ranged 0 three 25)) 0 ≡ pos 0)
unfolding everything
boxes_said = (refl, refl, refl, refl)

-- QS and QR are marks; RR, QT, sq and one letter are none
pub marks : map kind_of ((81 ∷ 83 ∷ []) ∷ (81 ∷ 82 ∷ []) ∷ (82 ∷ 82 ∷ []) ∷ (81 ∷ 84 ∷ []) ∷ (115 ∷ 113 ∷ []) ∷ (81 ∷ []) ∷ []) ≡ Some Single ∷ Some Ranged ∷ None ∷ None ∷ None ∷ None ∷ []
unfolding everything
marks = refl

-- a question takes its own length, a short tail and an unknown mark what is left
pub lengths : map (next_length 1) ((faulty 83 0 25 ++ faulty 83 0 25) ∷ (faulty_ranged 0 three 25 ++ faulty 83 0 25) ∷ take 21 (faulty_ranged 0 three 25) ∷ (faulty 84 0 25 ++ faulty 83 0 25) ∷ (81 ∷ []) ∷ []) ≡ 18 ∷ 22 ∷ 21 ∷ 36 ∷ 1 ∷ []
unfolding everything
lengths = refl

-- sheet A with the recovery box l..h
abbrev sheet : ℕ → ℕ → List ℤ
sheet l h = values (sets file_a 62 (0 ∷ 0 ∷ 0 ∷ l ∷ 0 ∷ 0 ∷ 0 ∷ h ∷ []))

abbrev succeeds : Result (List ℤ) → Bool
succeeds (ok E c) = true
succeeds (failed why c) = false
succeeds (exhausted c) = false

-- the first question's attempt at width 4, whose last end box is 12..20 (document 01, "Checks at the stops")
abbrev attempted : List ℤ → Bool
attempted v = succeeds (attempt true 100 v 4 (decision_phases v (one_command (pos 25))) (interval (pos 0) (pos 0)) 0)

pub recovered : (attempted (sheet 12 20) ≡ true) × (attempted (sheet 13 20) ≡ false) × (attempted (sheet 12 19) ≡ false)
unfolding everything
recovered = (refl, refl, refl)

-- sheet A's value with two no-go boxes, from a on and from b on, in this order. The same attempt sweeps to 20: both orders fail where one of the
-- boxes holds 20, and both succeed where none does
abbrev two_boxes : ℕ → ℕ → List ℤ
two_boxes a b =
    sets (sets (sets (sets (sets (values file_a)
    boxes_slot (pos 2 ∷ []))
    (unsafe_slot 0) (pos a ∷ [])) (unsafe_slot 0 + N) (pos 2000000 ∷ []))
    (unsafe_slot 1) (pos b ∷ [])) (unsafe_slot 1 + N) (pos 2000000 ∷ [])

pub either_order : (attempted (two_boxes 130 20) ≡ false) × (attempted (two_boxes 20 130) ≡ false) × (attempted (two_boxes 130 21) ≡ true) × (attempted (two_boxes 21 130) ≡ true)
unfolding everything
either_order = (refl, refl, refl, refl)

-- a question on sheet A, and two bytes after it: two lines
abbrev tail : List ℕ
tail = 81 ∷ 83 ∷ []

pub tail_listed : question_lines file_a 20 1 (faulty 83 0 25 ++ tail) ≡ question_line file_a 1 (faulty 83 0 25) ++ question_line file_a 2 tail
unfolding everything
tail_listed = refl

-- with both marks before it: three lines; an unknown mark before a question: one line
pub mixed_listed : question_lines file_a 42 1 (faulty_ranged 0 three 25 ++ (faulty 83 0 25 ++ tail)) ≡ question_line file_a 1 (faulty_ranged 0 three 25) ++ (question_line file_a 2 (faulty 83 0 25) ++ question_line file_a 3 tail)
unfolding everything
mixed_listed = refl

pub unknown_listed : question_lines file_a 20 1 (84 ∷ 84 ∷ faulty 83 0 25) ≡ question_line file_a 1 (84 ∷ 84 ∷ faulty 83 0 25)
unfolding everything
unknown_listed = refl
