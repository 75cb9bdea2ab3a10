-- The definitions compute: reaches and a step on document 01's sheet A. Assumes nothing.
use mathlib.Core.Path.{◌≡◌, refl}
use mathlib.Core.Bool.{false}
use mathlib.Core.List.{List, [], ◌∷◌, ◌++◌, map}
use Prim.Native.Nat.{ℕ, ◌-◌}
use lib.IntN.{ℤ, pos, negsuc}
use lib.ListN.{replicate}
use Rattle.sheet_spec.specs.Slots.{N}
use Rattle.sheet_spec.specs.Sheet.{values}
use Rattle.sheet_spec.specs.SheetA.{file_a}
use Rattle.sheet_spec.specs.Refusals.{Cause, number}
use Rattle.sheet_spec.specs.Box.{clear}
use Rattle.machine_spec.specs.declared.Law.{Law}
use Rattle.machine_spec.specs.declared.Law.TheVariants.{Baseline, Span}
use Rattle.machine_spec.specs.Machine.{machine, one_command}
use Rattle.boxes_spec.specs.Step.{Result, Step, ok, failed, unsafe}
use Rattle.boxes_spec.specs.Reach.{Reached, tested_step, reach, Answer, refused, reach_file}
use Rattle.boxes_spec.proofs.Everything.{everything}

-- a box of one variable
pub box : ℤ → ℤ → List ℤ
box l h = (l ∷ replicate (N - 1) (pos 0)) ++ (h ∷ replicate (N - 1) (pos 0))

-- four ticks at width 4 after c rounds, and a step of width 1
four : Law → List ℤ → ℕ → Result Reached
four l S c = reach false 0 (machine (values file_a) l) (clear 1 (values file_a) 1) 4 S 4 c

one : Law → List ℤ → Result Step
one l S = tested_step false 0 (machine (values file_a) l) (clear 1 (values file_a) 1) 1 S 4 0

after_δ : four (one_command (pos 25)) (box (pos 0) (pos 0)) 0 ≡ ok (record { end = box (pos 16) (pos 20); swept = box (pos 0) (pos 20) }) 2
unfolding everything box four
after_δ = refl

after_α : four Baseline (box (pos 16) (pos 20)) 2 ≡ ok (record { end = box (pos 12) (pos 20); swept = box (pos 12) (pos 20) }) 4
unfolding everything box four
after_α = refl

-- here the rates hang on where the box is at the last tick but one, and not at the last
under_24 : four (one_command (pos 24)) (box (pos 0) (pos 0)) 0 ≡ ok (record { end = box (pos 16) (pos 20); swept = box (pos 0) (pos 20) }) 2
unfolding everything box four
under_24 = refl

-- under a span the box goes both ways
under_span : four (Span (negsuc 24) (pos 24)) (box (pos 0) (pos 0)) 0 ≡ ok (record { end = box (negsuc 19) (pos 20); swept = box (negsuc 19) (pos 20) }) 2
unfolding everything box four
under_span = refl

-- a step from 131 ends clear of the no-go box from 130, and its swept box is not clear
from_131 : one Baseline (box (pos 131) (pos 131)) ≡ failed (unsafe 4 (box (pos 126) (pos 131))) 1
unfolding everything box one
from_131 = refl

-- the public reach: no ticks, and the order of the refusals
pub answers : Law → ℕ → List ℤ → Answer
answers l w S = reach_file file_a 0 w l S

no_ticks : answers Baseline 1 (box (pos 5) (pos 7)) ≡ record { refusal = 0; end = box (pos 5) (pos 7); swept = box (pos 5) (pos 7); rounds = 0 }
unfolding everything box answers
no_ticks = refl

refusals : (answers (one_command (pos 26)) 0 (box (pos 1) (pos 0)) ≡ refused (number Cause.reach)) × (answers (one_command (pos 26)) 1 (box (pos 1) (pos 0)) ≡ refused (number Cause.command)) × (answers Baseline 1 (box (pos 1) (pos 0)) ≡ refused (number Cause.start))
unfolding everything box answers
refusals = (refl, refl, refl)

-- a span is refused where it is reversed, or an end of it is not the head's; the head's commands are one
pub spans : List Law → List ℕ
spans ls = map (λ l. (answers l 1 (box (pos 1) (pos 1))).refusal) ls

pub span_refusals : spans (Span (negsuc 24) (pos 25) ∷ Span (pos 1) (pos 0) ∷ Span (negsuc 25) (pos 0) ∷ Span (pos 0) (pos 26) ∷ []) ≡ 0 ∷ 14 ∷ 14 ∷ 14 ∷ []
unfolding everything box answers spans
span_refusals = refl
