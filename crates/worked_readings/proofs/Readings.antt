-- Worked examples of reference/examples.txt and limits.txt: what the definitions give, beside what the second guard gives.
-- This file is written by `print_proofs` of reference/, and a test there compares it. Assumes nothing.
use mathlib.Core.Path.{◌≡◌, refl}
use mathlib.Core.List.{List, [], ◌∷◌}
use Prim.Native.Nat.{ℕ}
use lib.IntN.{pos, negsuc}
use lib.ListN.{take}
use lib.Seq.{sets}
use lib.Ieee.{Float, binary32, of_bits}
use Rattle.sheet_spec.specs.Slots.{N}
use Rattle.sheet_spec.specs.SheetA.{file_a}
use Rattle.readings_spec.specs.Exact.{finite, scaled, rounded, between}
use Rattle.readings_spec.specs.Reading.{reading_side, value_in, tolerance_in, reading_refusal, readings_refusal, readings_box}
use Rattle.decision_spec.specs.Numbers.{number_bytes, sides_of}
use Rattle.decision_spec.specs.Decision.{keep, finest, spent, refused, answered}
use Rattle.decision_spec.specs.Readings.{with_box, decide_readings}
use Rattle.decision_spec.specs.ReadingsCall.{reading_of, reading_in, readings_in}
use Rattle.decision_spec.proofs.Everything as decision

-- opens the definitions of readings too
unfoldable everything : ℕ
unfolding decision.everything of_bits finite scaled rounded between reading_side value_in tolerance_in reading_refusal readings_refusal readings_box number_bytes sides_of with_box decide_readings reading_of reading_in readings_in
everything = 0

-- the float with these bits
abbrev float : ℕ → Float
float b = of_bits binary32 b

-- sheet A is the second guard's
same_A : file_a ≡ 83 ∷ 72 ∷ 1 ∷ 1 ∷ 1 ∷ 0 ∷ 0 ∷ 4 ∷ 0 ∷ 4 ∷ 0 ∷ 4 ∷ 255 ∷ 255 ∷ 255 ∷ 231 ∷ 0 ∷ 0 ∷ 0 ∷ 25 ∷ 0 ∷ 5 ∷ 66 ∷ 68 ∷ 255 ∷ 225 ∷ 123 ∷ 128 ∷ 0 ∷ 0 ∷ 0 ∷ 0 ∷ 0 ∷ 0 ∷ 0 ∷ 0 ∷ 255 ∷ 255 ∷ 0 ∷ 4 ∷ 0 ∷ 0 ∷ 0 ∷ 0 ∷ 0 ∷ 0 ∷ 0 ∷ 0 ∷ 0 ∷ 20 ∷ 78 ∷ 71 ∷ 0 ∷ 0 ∷ 0 ∷ 130 ∷ 0 ∷ 30 ∷ 132 ∷ 128 ∷ 82 ∷ 67 ∷ 255 ∷ 255 ∷ 255 ∷ 156 ∷ 0 ∷ 0 ∷ 0 ∷ 100 ∷ []
unfolding file_a
same_A = refl

unfoldable question_a : List ℕ
question_a = 81 ∷ 83 ∷ 0 ∷ 0 ∷ 0 ∷ 100 ∷ 0 ∷ 0 ∷ 0 ∷ 25 ∷ 0 ∷ 0 ∷ 0 ∷ 0 ∷ 0 ∷ 0 ∷ 0 ∷ 0 ∷ []

unfoldable span_A : List ℕ
span_A = 81 ∷ 82 ∷ 0 ∷ 0 ∷ 0 ∷ 100 ∷ 255 ∷ 255 ∷ 255 ∷ 231 ∷ 0 ∷ 0 ∷ 0 ∷ 25 ∷ 0 ∷ 0 ∷ 0 ∷ 0 ∷ 0 ∷ 0 ∷ 0 ∷ 0 ∷ []

unfoldable six_variables : List ℕ
six_variables = 83 ∷ 72 ∷ 6 ∷ 1 ∷ 1 ∷ 0 ∷ 0 ∷ 4 ∷ 0 ∷ 4 ∷ 0 ∷ 4 ∷ 255 ∷ 255 ∷ 255 ∷ 231 ∷ 0 ∷ 0 ∷ 0 ∷ 25 ∷ 0 ∷ 5 ∷ 0 ∷ 5 ∷ 0 ∷ 5 ∷ 0 ∷ 5 ∷ 0 ∷ 5 ∷ 0 ∷ 5 ∷ 66 ∷ 68 ∷ 255 ∷ 225 ∷ 123 ∷ 128 ∷ 0 ∷ 0 ∷ 0 ∷ 0 ∷ 0 ∷ 0 ∷ 0 ∷ 0 ∷ 255 ∷ 255 ∷ 0 ∷ 0 ∷ 0 ∷ 0 ∷ 0 ∷ 0 ∷ 0 ∷ 0 ∷ 0 ∷ 0 ∷ 0 ∷ 4 ∷ 0 ∷ 0 ∷ 0 ∷ 0 ∷ 0 ∷ 0 ∷ 0 ∷ 0 ∷ 0 ∷ 20 ∷ 0 ∷ 0 ∷ 255 ∷ 255 ∷ 0 ∷ 0 ∷ 0 ∷ 0 ∷ 0 ∷ 0 ∷ 0 ∷ 0 ∷ 0 ∷ 4 ∷ 0 ∷ 0 ∷ 0 ∷ 0 ∷ 0 ∷ 0 ∷ 0 ∷ 0 ∷ 0 ∷ 20 ∷ 0 ∷ 0 ∷ 0 ∷ 0 ∷ 255 ∷ 255 ∷ 0 ∷ 0 ∷ 0 ∷ 0 ∷ 0 ∷ 0 ∷ 0 ∷ 4 ∷ 0 ∷ 0 ∷ 0 ∷ 0 ∷ 0 ∷ 0 ∷ 0 ∷ 0 ∷ 0 ∷ 20 ∷ 0 ∷ 0 ∷ 0 ∷ 0 ∷ 0 ∷ 0 ∷ 255 ∷ 255 ∷ 0 ∷ 0 ∷ 0 ∷ 0 ∷ 0 ∷ 4 ∷ 0 ∷ 0 ∷ 0 ∷ 0 ∷ 0 ∷ 0 ∷ 0 ∷ 0 ∷ 0 ∷ 20 ∷ 0 ∷ 0 ∷ 0 ∷ 0 ∷ 0 ∷ 0 ∷ 0 ∷ 0 ∷ 255 ∷ 255 ∷ 0 ∷ 0 ∷ 0 ∷ 4 ∷ 0 ∷ 0 ∷ 0 ∷ 0 ∷ 0 ∷ 0 ∷ 0 ∷ 0 ∷ 0 ∷ 20 ∷ 0 ∷ 0 ∷ 0 ∷ 0 ∷ 0 ∷ 0 ∷ 0 ∷ 0 ∷ 0 ∷ 0 ∷ 255 ∷ 255 ∷ 0 ∷ 4 ∷ 0 ∷ 0 ∷ 0 ∷ 0 ∷ 0 ∷ 0 ∷ 0 ∷ 0 ∷ 0 ∷ 20 ∷ 78 ∷ 71 ∷ 0 ∷ 0 ∷ 0 ∷ 130 ∷ 0 ∷ 30 ∷ 132 ∷ 128 ∷ 0 ∷ 0 ∷ 0 ∷ 130 ∷ 0 ∷ 30 ∷ 132 ∷ 128 ∷ 0 ∷ 0 ∷ 0 ∷ 130 ∷ 0 ∷ 30 ∷ 132 ∷ 128 ∷ 0 ∷ 0 ∷ 0 ∷ 130 ∷ 0 ∷ 30 ∷ 132 ∷ 128 ∷ 0 ∷ 0 ∷ 0 ∷ 130 ∷ 0 ∷ 30 ∷ 132 ∷ 128 ∷ 0 ∷ 0 ∷ 0 ∷ 130 ∷ 0 ∷ 30 ∷ 132 ∷ 128 ∷ 82 ∷ 67 ∷ 255 ∷ 255 ∷ 255 ∷ 156 ∷ 0 ∷ 0 ∷ 0 ∷ 100 ∷ 255 ∷ 255 ∷ 255 ∷ 156 ∷ 0 ∷ 0 ∷ 0 ∷ 100 ∷ 255 ∷ 255 ∷ 255 ∷ 156 ∷ 0 ∷ 0 ∷ 0 ∷ 100 ∷ 255 ∷ 255 ∷ 255 ∷ 156 ∷ 0 ∷ 0 ∷ 0 ∷ 100 ∷ 255 ∷ 255 ∷ 255 ∷ 156 ∷ 0 ∷ 0 ∷ 0 ∷ 100 ∷ 255 ∷ 255 ∷ 255 ∷ 156 ∷ 0 ∷ 0 ∷ 0 ∷ 100 ∷ []

unfoldable three_boxes : List ℕ
three_boxes = 83 ∷ 72 ∷ 1 ∷ 1 ∷ 3 ∷ 0 ∷ 0 ∷ 4 ∷ 0 ∷ 4 ∷ 0 ∷ 4 ∷ 255 ∷ 255 ∷ 255 ∷ 231 ∷ 0 ∷ 0 ∷ 0 ∷ 25 ∷ 0 ∷ 5 ∷ 66 ∷ 68 ∷ 255 ∷ 225 ∷ 123 ∷ 128 ∷ 0 ∷ 0 ∷ 0 ∷ 0 ∷ 0 ∷ 0 ∷ 0 ∷ 0 ∷ 255 ∷ 255 ∷ 0 ∷ 4 ∷ 0 ∷ 0 ∷ 0 ∷ 0 ∷ 0 ∷ 0 ∷ 0 ∷ 0 ∷ 0 ∷ 20 ∷ 78 ∷ 71 ∷ 0 ∷ 0 ∷ 0 ∷ 130 ∷ 0 ∷ 30 ∷ 132 ∷ 128 ∷ 78 ∷ 71 ∷ 0 ∷ 0 ∷ 0 ∷ 131 ∷ 0 ∷ 30 ∷ 132 ∷ 128 ∷ 78 ∷ 71 ∷ 0 ∷ 0 ∷ 0 ∷ 132 ∷ 0 ∷ 30 ∷ 132 ∷ 128 ∷ 82 ∷ 67 ∷ 255 ∷ 255 ∷ 255 ∷ 156 ∷ 0 ∷ 0 ∷ 0 ∷ 100 ∷ []

unfoldable two_boxes : List ℕ
two_boxes = 83 ∷ 72 ∷ 2 ∷ 1 ∷ 2 ∷ 0 ∷ 0 ∷ 4 ∷ 0 ∷ 4 ∷ 0 ∷ 4 ∷ 255 ∷ 255 ∷ 255 ∷ 231 ∷ 0 ∷ 0 ∷ 0 ∷ 25 ∷ 0 ∷ 5 ∷ 0 ∷ 5 ∷ 66 ∷ 68 ∷ 255 ∷ 225 ∷ 123 ∷ 128 ∷ 0 ∷ 0 ∷ 0 ∷ 0 ∷ 0 ∷ 0 ∷ 0 ∷ 0 ∷ 255 ∷ 255 ∷ 0 ∷ 0 ∷ 0 ∷ 4 ∷ 0 ∷ 0 ∷ 0 ∷ 0 ∷ 0 ∷ 0 ∷ 0 ∷ 0 ∷ 0 ∷ 20 ∷ 0 ∷ 0 ∷ 255 ∷ 255 ∷ 0 ∷ 4 ∷ 0 ∷ 0 ∷ 0 ∷ 0 ∷ 0 ∷ 0 ∷ 0 ∷ 0 ∷ 0 ∷ 20 ∷ 78 ∷ 71 ∷ 0 ∷ 0 ∷ 0 ∷ 130 ∷ 0 ∷ 30 ∷ 132 ∷ 128 ∷ 0 ∷ 0 ∷ 0 ∷ 130 ∷ 0 ∷ 30 ∷ 132 ∷ 128 ∷ 78 ∷ 71 ∷ 0 ∷ 0 ∷ 0 ∷ 131 ∷ 0 ∷ 30 ∷ 132 ∷ 128 ∷ 0 ∷ 0 ∷ 0 ∷ 131 ∷ 0 ∷ 30 ∷ 132 ∷ 128 ∷ 82 ∷ 67 ∷ 255 ∷ 255 ∷ 255 ∷ 156 ∷ 0 ∷ 0 ∷ 0 ∷ 100 ∷ 255 ∷ 255 ∷ 255 ∷ 156 ∷ 0 ∷ 0 ∷ 0 ∷ 100 ∷ []

unfoldable sheet0 : List ℕ
sheet0 = 83 ∷ 72 ∷ 1 ∷ 1 ∷ 1 ∷ 0 ∷ 0 ∷ 1 ∷ 0 ∷ 1 ∷ 0 ∷ 1 ∷ 255 ∷ 255 ∷ 255 ∷ 247 ∷ 0 ∷ 0 ∷ 0 ∷ 9 ∷ 0 ∷ 9 ∷ 66 ∷ 70 ∷ 255 ∷ 225 ∷ 123 ∷ 128 ∷ 255 ∷ 255 ∷ 255 ∷ 247 ∷ 0 ∷ 0 ∷ 0 ∷ 9 ∷ 255 ∷ 255 ∷ 0 ∷ 0 ∷ 0 ∷ 0 ∷ 0 ∷ 2 ∷ 0 ∷ 0 ∷ 0 ∷ 1 ∷ 0 ∷ 0 ∷ 0 ∷ 0 ∷ 0 ∷ 0 ∷ 0 ∷ 0 ∷ 0 ∷ 1 ∷ 78 ∷ 71 ∷ 0 ∷ 0 ∷ 0 ∷ 100 ∷ 0 ∷ 0 ∷ 0 ∷ 200 ∷ 82 ∷ 67 ∷ 255 ∷ 255 ∷ 255 ∷ 255 ∷ 0 ∷ 0 ∷ 0 ∷ 7 ∷ []

unfoldable sheet1 : List ℕ
sheet1 = 83 ∷ 72 ∷ 1 ∷ 1 ∷ 1 ∷ 0 ∷ 0 ∷ 1 ∷ 0 ∷ 1 ∷ 0 ∷ 1 ∷ 255 ∷ 255 ∷ 255 ∷ 247 ∷ 0 ∷ 0 ∷ 0 ∷ 9 ∷ 0 ∷ 9 ∷ 66 ∷ 70 ∷ 255 ∷ 225 ∷ 123 ∷ 128 ∷ 255 ∷ 255 ∷ 255 ∷ 247 ∷ 0 ∷ 0 ∷ 0 ∷ 9 ∷ 255 ∷ 255 ∷ 0 ∷ 0 ∷ 0 ∷ 0 ∷ 0 ∷ 2 ∷ 0 ∷ 0 ∷ 0 ∷ 1 ∷ 0 ∷ 0 ∷ 0 ∷ 0 ∷ 0 ∷ 0 ∷ 0 ∷ 0 ∷ 0 ∷ 1 ∷ 78 ∷ 71 ∷ 0 ∷ 0 ∷ 0 ∷ 100 ∷ 0 ∷ 0 ∷ 0 ∷ 200 ∷ 82 ∷ 67 ∷ 255 ∷ 255 ∷ 255 ∷ 249 ∷ 0 ∷ 0 ∷ 0 ∷ 1 ∷ []

unfoldable sheet2 : List ℕ
sheet2 = 83 ∷ 72 ∷ 2 ∷ 3 ∷ 1 ∷ 0 ∷ 0 ∷ 4 ∷ 0 ∷ 8 ∷ 0 ∷ 8 ∷ 255 ∷ 255 ∷ 255 ∷ 236 ∷ 0 ∷ 0 ∷ 0 ∷ 20 ∷ 0 ∷ 8 ∷ 0 ∷ 6 ∷ 66 ∷ 68 ∷ 255 ∷ 225 ∷ 123 ∷ 128 ∷ 0 ∷ 0 ∷ 0 ∷ 0 ∷ 0 ∷ 0 ∷ 0 ∷ 5 ∷ 0 ∷ 0 ∷ 0 ∷ 1 ∷ 0 ∷ 0 ∷ 0 ∷ 0 ∷ 0 ∷ 0 ∷ 0 ∷ 0 ∷ 0 ∷ 1 ∷ 0 ∷ 4 ∷ 255 ∷ 255 ∷ 255 ∷ 250 ∷ 0 ∷ 4 ∷ 0 ∷ 0 ∷ 0 ∷ 0 ∷ 0 ∷ 0 ∷ 0 ∷ 3 ∷ 0 ∷ 16 ∷ 66 ∷ 68 ∷ 0 ∷ 0 ∷ 0 ∷ 0 ∷ 255 ∷ 255 ∷ 255 ∷ 254 ∷ 0 ∷ 0 ∷ 0 ∷ 2 ∷ 0 ∷ 0 ∷ 0 ∷ 1 ∷ 0 ∷ 0 ∷ 0 ∷ 0 ∷ 0 ∷ 0 ∷ 0 ∷ 0 ∷ 0 ∷ 1 ∷ 0 ∷ 4 ∷ 255 ∷ 254 ∷ 255 ∷ 250 ∷ 0 ∷ 4 ∷ 0 ∷ 0 ∷ 0 ∷ 0 ∷ 0 ∷ 0 ∷ 0 ∷ 3 ∷ 0 ∷ 16 ∷ 66 ∷ 68 ∷ 0 ∷ 0 ∷ 0 ∷ 40 ∷ 255 ∷ 255 ∷ 255 ∷ 246 ∷ 255 ∷ 255 ∷ 255 ∷ 251 ∷ 0 ∷ 0 ∷ 0 ∷ 1 ∷ 0 ∷ 0 ∷ 0 ∷ 0 ∷ 0 ∷ 0 ∷ 0 ∷ 0 ∷ 0 ∷ 2 ∷ 0 ∷ 4 ∷ 255 ∷ 254 ∷ 255 ∷ 248 ∷ 0 ∷ 4 ∷ 0 ∷ 0 ∷ 0 ∷ 10 ∷ 0 ∷ 0 ∷ 0 ∷ 5 ∷ 0 ∷ 16 ∷ 78 ∷ 71 ∷ 0 ∷ 0 ∷ 3 ∷ 232 ∷ 0 ∷ 30 ∷ 132 ∷ 128 ∷ 255 ∷ 225 ∷ 123 ∷ 128 ∷ 0 ∷ 30 ∷ 132 ∷ 128 ∷ 82 ∷ 67 ∷ 255 ∷ 255 ∷ 255 ∷ 156 ∷ 0 ∷ 0 ∷ 0 ∷ 100 ∷ 255 ∷ 255 ∷ 255 ∷ 186 ∷ 0 ∷ 0 ∷ 0 ∷ 65 ∷ []

unfoldable sheet3 : List ℕ
sheet3 = 83 ∷ 72 ∷ 4 ∷ 2 ∷ 2 ∷ 3 ∷ 0 ∷ 3 ∷ 0 ∷ 5 ∷ 0 ∷ 4 ∷ 255 ∷ 255 ∷ 255 ∷ 226 ∷ 0 ∷ 0 ∷ 0 ∷ 30 ∷ 0 ∷ 4 ∷ 0 ∷ 4 ∷ 0 ∷ 4 ∷ 0 ∷ 5 ∷ 66 ∷ 68 ∷ 255 ∷ 225 ∷ 123 ∷ 128 ∷ 255 ∷ 255 ∷ 255 ∷ 255 ∷ 0 ∷ 0 ∷ 0 ∷ 1 ∷ 255 ∷ 254 ∷ 0 ∷ 1 ∷ 0 ∷ 0 ∷ 0 ∷ 0 ∷ 0 ∷ 1 ∷ 0 ∷ 0 ∷ 0 ∷ 0 ∷ 0 ∷ 0 ∷ 0 ∷ 0 ∷ 0 ∷ 16 ∷ 0 ∷ 1 ∷ 255 ∷ 253 ∷ 0 ∷ 1 ∷ 0 ∷ 0 ∷ 0 ∷ 0 ∷ 0 ∷ 0 ∷ 0 ∷ 2 ∷ 0 ∷ 0 ∷ 0 ∷ 1 ∷ 0 ∷ 16 ∷ 0 ∷ 0 ∷ 0 ∷ 1 ∷ 255 ∷ 253 ∷ 0 ∷ 1 ∷ 255 ∷ 255 ∷ 0 ∷ 0 ∷ 0 ∷ 0 ∷ 0 ∷ 0 ∷ 0 ∷ 2 ∷ 0 ∷ 16 ∷ 0 ∷ 0 ∷ 0 ∷ 0 ∷ 0 ∷ 1 ∷ 255 ∷ 252 ∷ 0 ∷ 2 ∷ 255 ∷ 255 ∷ 255 ∷ 255 ∷ 0 ∷ 0 ∷ 0 ∷ 3 ∷ 0 ∷ 16 ∷ 66 ∷ 68 ∷ 0 ∷ 0 ∷ 0 ∷ 5 ∷ 255 ∷ 255 ∷ 255 ∷ 253 ∷ 0 ∷ 0 ∷ 0 ∷ 0 ∷ 255 ∷ 254 ∷ 0 ∷ 1 ∷ 0 ∷ 0 ∷ 0 ∷ 0 ∷ 0 ∷ 1 ∷ 0 ∷ 0 ∷ 0 ∷ 0 ∷ 0 ∷ 0 ∷ 0 ∷ 0 ∷ 0 ∷ 16 ∷ 0 ∷ 1 ∷ 255 ∷ 253 ∷ 0 ∷ 1 ∷ 0 ∷ 0 ∷ 0 ∷ 0 ∷ 0 ∷ 0 ∷ 0 ∷ 2 ∷ 0 ∷ 0 ∷ 0 ∷ 1 ∷ 0 ∷ 16 ∷ 0 ∷ 0 ∷ 0 ∷ 1 ∷ 255 ∷ 253 ∷ 0 ∷ 1 ∷ 255 ∷ 255 ∷ 0 ∷ 0 ∷ 0 ∷ 0 ∷ 0 ∷ 0 ∷ 0 ∷ 2 ∷ 0 ∷ 16 ∷ 0 ∷ 0 ∷ 0 ∷ 0 ∷ 0 ∷ 1 ∷ 255 ∷ 250 ∷ 0 ∷ 2 ∷ 255 ∷ 255 ∷ 255 ∷ 255 ∷ 0 ∷ 0 ∷ 0 ∷ 3 ∷ 0 ∷ 16 ∷ 78 ∷ 71 ∷ 255 ∷ 255 ∷ 255 ∷ 156 ∷ 0 ∷ 0 ∷ 0 ∷ 100 ∷ 255 ∷ 255 ∷ 255 ∷ 166 ∷ 255 ∷ 255 ∷ 255 ∷ 196 ∷ 255 ∷ 255 ∷ 255 ∷ 156 ∷ 0 ∷ 0 ∷ 0 ∷ 100 ∷ 255 ∷ 255 ∷ 255 ∷ 156 ∷ 0 ∷ 0 ∷ 0 ∷ 100 ∷ 78 ∷ 71 ∷ 0 ∷ 0 ∷ 0 ∷ 60 ∷ 0 ∷ 0 ∷ 0 ∷ 90 ∷ 255 ∷ 255 ∷ 255 ∷ 156 ∷ 0 ∷ 0 ∷ 0 ∷ 100 ∷ 255 ∷ 255 ∷ 255 ∷ 156 ∷ 0 ∷ 0 ∷ 0 ∷ 100 ∷ 255 ∷ 255 ∷ 255 ∷ 156 ∷ 0 ∷ 0 ∷ 0 ∷ 100 ∷ 82 ∷ 67 ∷ 255 ∷ 255 ∷ 255 ∷ 216 ∷ 0 ∷ 0 ∷ 0 ∷ 40 ∷ 255 ∷ 255 ∷ 255 ∷ 216 ∷ 0 ∷ 0 ∷ 0 ∷ 40 ∷ 255 ∷ 255 ∷ 255 ∷ 216 ∷ 0 ∷ 0 ∷ 0 ∷ 40 ∷ 255 ∷ 255 ∷ 255 ∷ 216 ∷ 0 ∷ 0 ∷ 0 ∷ 40 ∷ []

unfoldable sheet4 : List ℕ
sheet4 = 83 ∷ 72 ∷ 3 ∷ 1 ∷ 1 ∷ 2 ∷ 0 ∷ 2 ∷ 0 ∷ 6 ∷ 0 ∷ 6 ∷ 255 ∷ 255 ∷ 255 ∷ 251 ∷ 0 ∷ 0 ∷ 0 ∷ 5 ∷ 3 ∷ 132 ∷ 3 ∷ 132 ∷ 3 ∷ 132 ∷ 66 ∷ 68 ∷ 255 ∷ 225 ∷ 123 ∷ 128 ∷ 255 ∷ 255 ∷ 255 ∷ 255 ∷ 0 ∷ 0 ∷ 0 ∷ 1 ∷ 255 ∷ 251 ∷ 0 ∷ 1 ∷ 0 ∷ 0 ∷ 0 ∷ 3 ∷ 0 ∷ 0 ∷ 0 ∷ 0 ∷ 0 ∷ 0 ∷ 0 ∷ 0 ∷ 0 ∷ 32 ∷ 0 ∷ 0 ∷ 255 ∷ 251 ∷ 255 ∷ 255 ∷ 0 ∷ 2 ∷ 0 ∷ 0 ∷ 0 ∷ 0 ∷ 0 ∷ 0 ∷ 0 ∷ 4 ∷ 0 ∷ 32 ∷ 0 ∷ 1 ∷ 0 ∷ 0 ∷ 255 ∷ 251 ∷ 255 ∷ 255 ∷ 0 ∷ 0 ∷ 0 ∷ 5 ∷ 0 ∷ 0 ∷ 0 ∷ 0 ∷ 0 ∷ 32 ∷ 78 ∷ 71 ∷ 0 ∷ 0 ∷ 1 ∷ 244 ∷ 0 ∷ 0 ∷ 2 ∷ 88 ∷ 0 ∷ 0 ∷ 1 ∷ 244 ∷ 0 ∷ 0 ∷ 2 ∷ 88 ∷ 0 ∷ 0 ∷ 1 ∷ 244 ∷ 0 ∷ 0 ∷ 2 ∷ 88 ∷ 82 ∷ 67 ∷ 255 ∷ 255 ∷ 255 ∷ 166 ∷ 0 ∷ 0 ∷ 0 ∷ 90 ∷ 255 ∷ 255 ∷ 255 ∷ 166 ∷ 0 ∷ 0 ∷ 0 ∷ 90 ∷ 255 ∷ 255 ∷ 255 ∷ 166 ∷ 0 ∷ 0 ∷ 0 ∷ 90 ∷ []

unfoldable sheet5 : List ℕ
sheet5 = 83 ∷ 72 ∷ 2 ∷ 2 ∷ 1 ∷ 0 ∷ 0 ∷ 2 ∷ 0 ∷ 1 ∷ 0 ∷ 1 ∷ 255 ∷ 255 ∷ 255 ∷ 255 ∷ 0 ∷ 0 ∷ 0 ∷ 1 ∷ 0 ∷ 1 ∷ 0 ∷ 5 ∷ 66 ∷ 68 ∷ 255 ∷ 225 ∷ 123 ∷ 128 ∷ 0 ∷ 0 ∷ 0 ∷ 0 ∷ 0 ∷ 0 ∷ 0 ∷ 0 ∷ 0 ∷ 0 ∷ 0 ∷ 0 ∷ 0 ∷ 1 ∷ 0 ∷ 0 ∷ 0 ∷ 0 ∷ 0 ∷ 0 ∷ 0 ∷ 0 ∷ 0 ∷ 1 ∷ 0 ∷ 0 ∷ 0 ∷ 0 ∷ 0 ∷ 0 ∷ 0 ∷ 0 ∷ 0 ∷ 0 ∷ 0 ∷ 0 ∷ 0 ∷ 0 ∷ 0 ∷ 1 ∷ 66 ∷ 68 ∷ 0 ∷ 0 ∷ 0 ∷ 1 ∷ 0 ∷ 0 ∷ 0 ∷ 0 ∷ 0 ∷ 0 ∷ 0 ∷ 0 ∷ 0 ∷ 0 ∷ 0 ∷ 0 ∷ 0 ∷ 1 ∷ 0 ∷ 0 ∷ 0 ∷ 0 ∷ 0 ∷ 0 ∷ 0 ∷ 0 ∷ 0 ∷ 1 ∷ 0 ∷ 0 ∷ 0 ∷ 0 ∷ 255 ∷ 251 ∷ 0 ∷ 0 ∷ 0 ∷ 0 ∷ 0 ∷ 0 ∷ 0 ∷ 0 ∷ 0 ∷ 1 ∷ 78 ∷ 71 ∷ 255 ∷ 255 ∷ 255 ∷ 253 ∷ 0 ∷ 0 ∷ 0 ∷ 3 ∷ 0 ∷ 0 ∷ 0 ∷ 5 ∷ 0 ∷ 0 ∷ 0 ∷ 9 ∷ 82 ∷ 67 ∷ 255 ∷ 255 ∷ 255 ∷ 253 ∷ 0 ∷ 0 ∷ 0 ∷ 3 ∷ 255 ∷ 255 ∷ 255 ∷ 236 ∷ 0 ∷ 0 ∷ 0 ∷ 4 ∷ []

unfoldable sheet6 : List ℕ
sheet6 = 83 ∷ 72 ∷ 6 ∷ 3 ∷ 1 ∷ 2 ∷ 0 ∷ 1 ∷ 0 ∷ 1 ∷ 0 ∷ 1 ∷ 255 ∷ 255 ∷ 255 ∷ 236 ∷ 0 ∷ 0 ∷ 0 ∷ 20 ∷ 0 ∷ 4 ∷ 0 ∷ 4 ∷ 0 ∷ 4 ∷ 0 ∷ 4 ∷ 0 ∷ 4 ∷ 0 ∷ 4 ∷ 66 ∷ 70 ∷ 255 ∷ 225 ∷ 123 ∷ 128 ∷ 255 ∷ 255 ∷ 255 ∷ 250 ∷ 0 ∷ 0 ∷ 0 ∷ 6 ∷ 255 ∷ 254 ∷ 0 ∷ 0 ∷ 255 ∷ 255 ∷ 0 ∷ 0 ∷ 0 ∷ 0 ∷ 0 ∷ 1 ∷ 0 ∷ 0 ∷ 0 ∷ 5 ∷ 0 ∷ 3 ∷ 255 ∷ 253 ∷ 0 ∷ 1 ∷ 0 ∷ 0 ∷ 0 ∷ 0 ∷ 0 ∷ 0 ∷ 0 ∷ 0 ∷ 0 ∷ 5 ∷ 0 ∷ 0 ∷ 0 ∷ 0 ∷ 0 ∷ 0 ∷ 0 ∷ 1 ∷ 0 ∷ 16 ∷ 0 ∷ 1 ∷ 255 ∷ 252 ∷ 0 ∷ 0 ∷ 0 ∷ 0 ∷ 0 ∷ 0 ∷ 0 ∷ 0 ∷ 255 ∷ 253 ∷ 0 ∷ 0 ∷ 0 ∷ 2 ∷ 0 ∷ 0 ∷ 0 ∷ 0 ∷ 0 ∷ 16 ∷ 0 ∷ 0 ∷ 0 ∷ 0 ∷ 255 ∷ 253 ∷ 0 ∷ 1 ∷ 0 ∷ 0 ∷ 0 ∷ 0 ∷ 0 ∷ 1 ∷ 0 ∷ 0 ∷ 0 ∷ 0 ∷ 0 ∷ 0 ∷ 0 ∷ 2 ∷ 0 ∷ 16 ∷ 0 ∷ 0 ∷ 0 ∷ 0 ∷ 0 ∷ 0 ∷ 255 ∷ 253 ∷ 0 ∷ 1 ∷ 0 ∷ 0 ∷ 0 ∷ 2 ∷ 255 ∷ 255 ∷ 255 ∷ 255 ∷ 0 ∷ 0 ∷ 0 ∷ 0 ∷ 0 ∷ 16 ∷ 0 ∷ 0 ∷ 0 ∷ 0 ∷ 0 ∷ 0 ∷ 0 ∷ 1 ∷ 255 ∷ 252 ∷ 0 ∷ 0 ∷ 255 ∷ 250 ∷ 0 ∷ 0 ∷ 0 ∷ 0 ∷ 0 ∷ 0 ∷ 0 ∷ 1 ∷ 0 ∷ 16 ∷ 0 ∷ 0 ∷ 0 ∷ 1 ∷ 0 ∷ 0 ∷ 0 ∷ 0 ∷ 0 ∷ 0 ∷ 255 ∷ 252 ∷ 0 ∷ 0 ∷ 0 ∷ 0 ∷ 0 ∷ 0 ∷ 0 ∷ 0 ∷ 0 ∷ 0 ∷ 0 ∷ 16 ∷ 66 ∷ 70 ∷ 255 ∷ 255 ∷ 255 ∷ 250 ∷ 255 ∷ 255 ∷ 255 ∷ 253 ∷ 0 ∷ 0 ∷ 0 ∷ 4 ∷ 255 ∷ 255 ∷ 0 ∷ 1 ∷ 0 ∷ 0 ∷ 255 ∷ 254 ∷ 0 ∷ 0 ∷ 0 ∷ 1 ∷ 255 ∷ 255 ∷ 255 ∷ 252 ∷ 0 ∷ 4 ∷ 255 ∷ 253 ∷ 0 ∷ 1 ∷ 0 ∷ 0 ∷ 0 ∷ 0 ∷ 0 ∷ 0 ∷ 0 ∷ 0 ∷ 0 ∷ 5 ∷ 0 ∷ 0 ∷ 0 ∷ 0 ∷ 0 ∷ 0 ∷ 0 ∷ 1 ∷ 0 ∷ 16 ∷ 0 ∷ 1 ∷ 255 ∷ 252 ∷ 0 ∷ 0 ∷ 0 ∷ 0 ∷ 0 ∷ 0 ∷ 0 ∷ 0 ∷ 255 ∷ 253 ∷ 0 ∷ 0 ∷ 0 ∷ 2 ∷ 0 ∷ 0 ∷ 0 ∷ 0 ∷ 0 ∷ 16 ∷ 0 ∷ 0 ∷ 0 ∷ 0 ∷ 255 ∷ 252 ∷ 0 ∷ 1 ∷ 0 ∷ 0 ∷ 0 ∷ 0 ∷ 0 ∷ 1 ∷ 0 ∷ 0 ∷ 0 ∷ 0 ∷ 0 ∷ 0 ∷ 0 ∷ 2 ∷ 0 ∷ 16 ∷ 0 ∷ 0 ∷ 0 ∷ 0 ∷ 0 ∷ 0 ∷ 255 ∷ 253 ∷ 0 ∷ 1 ∷ 0 ∷ 0 ∷ 0 ∷ 2 ∷ 255 ∷ 255 ∷ 255 ∷ 255 ∷ 0 ∷ 0 ∷ 0 ∷ 0 ∷ 0 ∷ 16 ∷ 0 ∷ 0 ∷ 0 ∷ 0 ∷ 0 ∷ 0 ∷ 0 ∷ 1 ∷ 255 ∷ 252 ∷ 0 ∷ 0 ∷ 255 ∷ 250 ∷ 0 ∷ 0 ∷ 0 ∷ 0 ∷ 0 ∷ 0 ∷ 0 ∷ 1 ∷ 0 ∷ 16 ∷ 0 ∷ 0 ∷ 0 ∷ 1 ∷ 0 ∷ 0 ∷ 0 ∷ 0 ∷ 0 ∷ 0 ∷ 255 ∷ 252 ∷ 0 ∷ 0 ∷ 0 ∷ 0 ∷ 0 ∷ 0 ∷ 0 ∷ 0 ∷ 0 ∷ 0 ∷ 0 ∷ 16 ∷ 66 ∷ 70 ∷ 0 ∷ 0 ∷ 0 ∷ 9 ∷ 255 ∷ 255 ∷ 255 ∷ 254 ∷ 255 ∷ 255 ∷ 255 ∷ 255 ∷ 0 ∷ 0 ∷ 255 ∷ 253 ∷ 255 ∷ 255 ∷ 0 ∷ 0 ∷ 0 ∷ 2 ∷ 0 ∷ 0 ∷ 0 ∷ 0 ∷ 0 ∷ 1 ∷ 0 ∷ 2 ∷ 255 ∷ 253 ∷ 0 ∷ 1 ∷ 0 ∷ 0 ∷ 0 ∷ 0 ∷ 0 ∷ 0 ∷ 0 ∷ 0 ∷ 0 ∷ 5 ∷ 0 ∷ 0 ∷ 0 ∷ 0 ∷ 0 ∷ 0 ∷ 0 ∷ 1 ∷ 0 ∷ 16 ∷ 0 ∷ 1 ∷ 255 ∷ 252 ∷ 0 ∷ 0 ∷ 0 ∷ 0 ∷ 0 ∷ 0 ∷ 0 ∷ 0 ∷ 255 ∷ 253 ∷ 0 ∷ 0 ∷ 0 ∷ 2 ∷ 0 ∷ 0 ∷ 0 ∷ 0 ∷ 0 ∷ 16 ∷ 0 ∷ 0 ∷ 0 ∷ 0 ∷ 255 ∷ 251 ∷ 0 ∷ 1 ∷ 0 ∷ 0 ∷ 0 ∷ 0 ∷ 0 ∷ 1 ∷ 0 ∷ 0 ∷ 0 ∷ 0 ∷ 0 ∷ 0 ∷ 0 ∷ 2 ∷ 0 ∷ 16 ∷ 0 ∷ 0 ∷ 0 ∷ 0 ∷ 0 ∷ 0 ∷ 255 ∷ 253 ∷ 0 ∷ 1 ∷ 0 ∷ 0 ∷ 0 ∷ 2 ∷ 255 ∷ 255 ∷ 255 ∷ 255 ∷ 0 ∷ 0 ∷ 0 ∷ 0 ∷ 0 ∷ 16 ∷ 0 ∷ 0 ∷ 0 ∷ 0 ∷ 0 ∷ 0 ∷ 0 ∷ 1 ∷ 255 ∷ 252 ∷ 0 ∷ 0 ∷ 255 ∷ 250 ∷ 0 ∷ 0 ∷ 0 ∷ 0 ∷ 0 ∷ 0 ∷ 0 ∷ 1 ∷ 0 ∷ 16 ∷ 0 ∷ 0 ∷ 0 ∷ 1 ∷ 0 ∷ 0 ∷ 0 ∷ 0 ∷ 0 ∷ 0 ∷ 255 ∷ 252 ∷ 0 ∷ 0 ∷ 0 ∷ 0 ∷ 0 ∷ 0 ∷ 0 ∷ 0 ∷ 0 ∷ 0 ∷ 0 ∷ 16 ∷ 78 ∷ 71 ∷ 0 ∷ 0 ∷ 0 ∷ 100 ∷ 0 ∷ 0 ∷ 0 ∷ 200 ∷ 0 ∷ 0 ∷ 0 ∷ 100 ∷ 0 ∷ 0 ∷ 0 ∷ 200 ∷ 0 ∷ 0 ∷ 0 ∷ 100 ∷ 0 ∷ 0 ∷ 0 ∷ 200 ∷ 0 ∷ 0 ∷ 0 ∷ 100 ∷ 0 ∷ 0 ∷ 0 ∷ 200 ∷ 0 ∷ 0 ∷ 0 ∷ 100 ∷ 0 ∷ 0 ∷ 0 ∷ 200 ∷ 0 ∷ 0 ∷ 0 ∷ 100 ∷ 0 ∷ 0 ∷ 0 ∷ 200 ∷ 82 ∷ 67 ∷ 255 ∷ 255 ∷ 255 ∷ 226 ∷ 0 ∷ 0 ∷ 0 ∷ 30 ∷ 255 ∷ 255 ∷ 255 ∷ 226 ∷ 0 ∷ 0 ∷ 0 ∷ 30 ∷ 255 ∷ 255 ∷ 255 ∷ 226 ∷ 0 ∷ 0 ∷ 0 ∷ 30 ∷ 255 ∷ 255 ∷ 255 ∷ 226 ∷ 0 ∷ 0 ∷ 0 ∷ 30 ∷ 255 ∷ 255 ∷ 255 ∷ 226 ∷ 0 ∷ 0 ∷ 0 ∷ 30 ∷ 255 ∷ 255 ∷ 255 ∷ 226 ∷ 0 ∷ 0 ∷ 0 ∷ 30 ∷ []

unfoldable sheet7 : List ℕ
sheet7 = 83 ∷ 72 ∷ 5 ∷ 2 ∷ 1 ∷ 4 ∷ 0 ∷ 1 ∷ 0 ∷ 2 ∷ 0 ∷ 2 ∷ 255 ∷ 255 ∷ 255 ∷ 241 ∷ 0 ∷ 0 ∷ 0 ∷ 15 ∷ 0 ∷ 4 ∷ 0 ∷ 4 ∷ 0 ∷ 4 ∷ 0 ∷ 4 ∷ 0 ∷ 4 ∷ 66 ∷ 70 ∷ 255 ∷ 225 ∷ 123 ∷ 128 ∷ 255 ∷ 255 ∷ 255 ∷ 247 ∷ 0 ∷ 0 ∷ 0 ∷ 9 ∷ 255 ∷ 254 ∷ 0 ∷ 0 ∷ 0 ∷ 1 ∷ 0 ∷ 0 ∷ 0 ∷ 1 ∷ 0 ∷ 0 ∷ 0 ∷ 0 ∷ 0 ∷ 4 ∷ 255 ∷ 253 ∷ 0 ∷ 1 ∷ 0 ∷ 0 ∷ 0 ∷ 0 ∷ 0 ∷ 0 ∷ 0 ∷ 3 ∷ 0 ∷ 0 ∷ 0 ∷ 0 ∷ 0 ∷ 0 ∷ 0 ∷ 0 ∷ 0 ∷ 16 ∷ 0 ∷ 1 ∷ 255 ∷ 252 ∷ 0 ∷ 1 ∷ 0 ∷ 0 ∷ 0 ∷ 0 ∷ 0 ∷ 1 ∷ 0 ∷ 0 ∷ 0 ∷ 2 ∷ 0 ∷ 0 ∷ 0 ∷ 1 ∷ 0 ∷ 16 ∷ 0 ∷ 0 ∷ 0 ∷ 1 ∷ 255 ∷ 252 ∷ 0 ∷ 1 ∷ 0 ∷ 0 ∷ 255 ∷ 253 ∷ 0 ∷ 0 ∷ 0 ∷ 0 ∷ 0 ∷ 0 ∷ 0 ∷ 2 ∷ 0 ∷ 16 ∷ 0 ∷ 0 ∷ 0 ∷ 0 ∷ 0 ∷ 1 ∷ 255 ∷ 252 ∷ 0 ∷ 1 ∷ 0 ∷ 2 ∷ 255 ∷ 255 ∷ 255 ∷ 255 ∷ 0 ∷ 0 ∷ 0 ∷ 0 ∷ 0 ∷ 16 ∷ 0 ∷ 0 ∷ 0 ∷ 0 ∷ 0 ∷ 0 ∷ 0 ∷ 1 ∷ 255 ∷ 253 ∷ 255 ∷ 255 ∷ 0 ∷ 0 ∷ 0 ∷ 0 ∷ 0 ∷ 0 ∷ 0 ∷ 3 ∷ 0 ∷ 16 ∷ 66 ∷ 70 ∷ 0 ∷ 0 ∷ 0 ∷ 5 ∷ 255 ∷ 255 ∷ 255 ∷ 254 ∷ 0 ∷ 0 ∷ 0 ∷ 7 ∷ 0 ∷ 1 ∷ 255 ∷ 255 ∷ 0 ∷ 0 ∷ 0 ∷ 2 ∷ 0 ∷ 0 ∷ 0 ∷ 0 ∷ 0 ∷ 6 ∷ 0 ∷ 5 ∷ 255 ∷ 253 ∷ 0 ∷ 1 ∷ 0 ∷ 0 ∷ 0 ∷ 0 ∷ 0 ∷ 0 ∷ 255 ∷ 254 ∷ 0 ∷ 0 ∷ 0 ∷ 0 ∷ 0 ∷ 0 ∷ 0 ∷ 0 ∷ 0 ∷ 16 ∷ 0 ∷ 1 ∷ 255 ∷ 252 ∷ 0 ∷ 1 ∷ 0 ∷ 0 ∷ 0 ∷ 0 ∷ 0 ∷ 1 ∷ 0 ∷ 0 ∷ 0 ∷ 2 ∷ 0 ∷ 0 ∷ 0 ∷ 1 ∷ 0 ∷ 16 ∷ 0 ∷ 0 ∷ 0 ∷ 1 ∷ 255 ∷ 252 ∷ 0 ∷ 1 ∷ 0 ∷ 0 ∷ 0 ∷ 2 ∷ 0 ∷ 0 ∷ 0 ∷ 0 ∷ 0 ∷ 0 ∷ 0 ∷ 2 ∷ 0 ∷ 16 ∷ 0 ∷ 0 ∷ 0 ∷ 0 ∷ 0 ∷ 1 ∷ 255 ∷ 252 ∷ 0 ∷ 1 ∷ 0 ∷ 2 ∷ 255 ∷ 255 ∷ 255 ∷ 255 ∷ 0 ∷ 0 ∷ 0 ∷ 0 ∷ 0 ∷ 16 ∷ 0 ∷ 0 ∷ 0 ∷ 0 ∷ 0 ∷ 0 ∷ 0 ∷ 1 ∷ 255 ∷ 253 ∷ 255 ∷ 255 ∷ 0 ∷ 0 ∷ 0 ∷ 0 ∷ 0 ∷ 0 ∷ 0 ∷ 3 ∷ 0 ∷ 16 ∷ 78 ∷ 71 ∷ 0 ∷ 0 ∷ 0 ∷ 60 ∷ 0 ∷ 0 ∷ 0 ∷ 90 ∷ 255 ∷ 255 ∷ 255 ∷ 166 ∷ 0 ∷ 0 ∷ 0 ∷ 90 ∷ 255 ∷ 255 ∷ 255 ∷ 166 ∷ 0 ∷ 0 ∷ 0 ∷ 90 ∷ 255 ∷ 255 ∷ 255 ∷ 166 ∷ 0 ∷ 0 ∷ 0 ∷ 90 ∷ 255 ∷ 255 ∷ 255 ∷ 166 ∷ 0 ∷ 0 ∷ 0 ∷ 90 ∷ 82 ∷ 67 ∷ 255 ∷ 255 ∷ 255 ∷ 216 ∷ 0 ∷ 0 ∷ 0 ∷ 40 ∷ 255 ∷ 255 ∷ 255 ∷ 216 ∷ 0 ∷ 0 ∷ 0 ∷ 40 ∷ 255 ∷ 255 ∷ 255 ∷ 216 ∷ 0 ∷ 0 ∷ 0 ∷ 40 ∷ 255 ∷ 255 ∷ 255 ∷ 216 ∷ 0 ∷ 0 ∷ 0 ∷ 40 ∷ 255 ∷ 255 ∷ 255 ∷ 216 ∷ 0 ∷ 0 ∷ 0 ∷ 40 ∷ []

point_kept : decide_readings sheet0 (81 ∷ 83 ∷ 0 ∷ 0 ∷ 0 ∷ 10 ∷ 0 ∷ 0 ∷ 0 ∷ 0 ∷ []) (readings_in (1 ∷ []) (float 1087373312 ∷ float 1073741824 ∷ []) N) ≡ answered keep 1 2
unfolding sheet0 everything
point_kept = refl

point_kept_box : readings_box 1 (readings_in (1 ∷ []) (float 1087373312 ∷ float 1073741824 ∷ []) N) ≡ pos 4 ∷ pos 0 ∷ pos 0 ∷ pos 0 ∷ pos 0 ∷ pos 0 ∷ pos 9 ∷ pos 0 ∷ pos 0 ∷ pos 0 ∷ pos 0 ∷ pos 0 ∷ []
unfolding everything
point_kept_box = refl

point_below_0_kept : decide_readings sheet1 (81 ∷ 83 ∷ 0 ∷ 0 ∷ 0 ∷ 10 ∷ 0 ∷ 0 ∷ 0 ∷ 0 ∷ []) (readings_in (1 ∷ []) (float 3234856960 ∷ float 1073741824 ∷ []) N) ≡ answered keep 1 2
unfolding sheet1 everything
point_below_0_kept = refl

point_below_0_kept_box : readings_box 1 (readings_in (1 ∷ []) (float 3234856960 ∷ float 1073741824 ∷ []) N) ≡ negsuc 8 ∷ pos 0 ∷ pos 0 ∷ pos 0 ∷ pos 0 ∷ pos 0 ∷ negsuc 3 ∷ pos 0 ∷ pos 0 ∷ pos 0 ∷ pos 0 ∷ pos 0 ∷ []
unfolding everything
point_below_0_kept_box = refl

point_over : decide_readings sheet0 (81 ∷ 83 ∷ 0 ∷ 0 ∷ 0 ∷ 10 ∷ 0 ∷ 0 ∷ 0 ∷ 0 ∷ []) (readings_in (1 ∷ []) (float 1087373312 ∷ float 1075838976 ∷ []) N) ≡ answered finest 1 2
unfolding sheet0 everything
point_over = refl

point_over_box : readings_box 1 (readings_in (1 ∷ []) (float 1087373312 ∷ float 1075838976 ∷ []) N) ≡ pos 3 ∷ pos 0 ∷ pos 0 ∷ pos 0 ∷ pos 0 ∷ pos 0 ∷ pos 10 ∷ pos 0 ∷ pos 0 ∷ pos 0 ∷ pos 0 ∷ pos 0 ∷ []
unfolding everything
point_over_box = refl

point_below_0_over : decide_readings sheet1 (81 ∷ 83 ∷ 0 ∷ 0 ∷ 0 ∷ 10 ∷ 0 ∷ 0 ∷ 0 ∷ 0 ∷ []) (readings_in (1 ∷ []) (float 3235905536 ∷ float 1074790400 ∷ []) N) ≡ answered finest 1 2
unfolding sheet1 everything
point_below_0_over = refl

point_below_0_over_box : readings_box 1 (readings_in (1 ∷ []) (float 3235905536 ∷ float 1074790400 ∷ []) N) ≡ negsuc 9 ∷ pos 0 ∷ pos 0 ∷ pos 0 ∷ pos 0 ∷ pos 0 ∷ negsuc 3 ∷ pos 0 ∷ pos 0 ∷ pos 0 ∷ pos 0 ∷ pos 0 ∷ []
unfolding everything
point_below_0_over_box = refl

pair_kept : decide_readings sheet0 (81 ∷ 83 ∷ 0 ∷ 0 ∷ 0 ∷ 10 ∷ 0 ∷ 0 ∷ 0 ∷ 0 ∷ []) (readings_in (2 ∷ []) (float 1082654720 ∷ float 1091043328 ∷ []) N) ≡ answered keep 1 2
unfolding sheet0 everything
pair_kept = refl

pair_kept_box : readings_box 1 (readings_in (2 ∷ []) (float 1082654720 ∷ float 1091043328 ∷ []) N) ≡ pos 4 ∷ pos 0 ∷ pos 0 ∷ pos 0 ∷ pos 0 ∷ pos 0 ∷ pos 9 ∷ pos 0 ∷ pos 0 ∷ pos 0 ∷ pos 0 ∷ pos 0 ∷ []
unfolding everything
pair_kept_box = refl

pair_over : decide_readings sheet0 (81 ∷ 83 ∷ 0 ∷ 0 ∷ 0 ∷ 10 ∷ 0 ∷ 0 ∷ 0 ∷ 0 ∷ []) (readings_in (2 ∷ []) (float 1082654720 ∷ float 1092091904 ∷ []) N) ≡ answered finest 1 2
unfolding sheet0 everything
pair_over = refl

pair_over_box : readings_box 1 (readings_in (2 ∷ []) (float 1082654720 ∷ float 1092091904 ∷ []) N) ≡ pos 4 ∷ pos 0 ∷ pos 0 ∷ pos 0 ∷ pos 0 ∷ pos 0 ∷ pos 10 ∷ pos 0 ∷ pos 0 ∷ pos 0 ∷ pos 0 ∷ pos 0 ∷ []
unfolding everything
pair_over_box = refl

pair_below_0_kept : decide_readings sheet1 (81 ∷ 83 ∷ 0 ∷ 0 ∷ 0 ∷ 10 ∷ 0 ∷ 0 ∷ 0 ∷ 0 ∷ []) (readings_in (2 ∷ []) (float 3238526976 ∷ float 3229614080 ∷ []) N) ≡ answered keep 1 2
unfolding sheet1 everything
pair_below_0_kept = refl

pair_below_0_kept_box : readings_box 1 (readings_in (2 ∷ []) (float 3238526976 ∷ float 3229614080 ∷ []) N) ≡ negsuc 8 ∷ pos 0 ∷ pos 0 ∷ pos 0 ∷ pos 0 ∷ pos 0 ∷ negsuc 3 ∷ pos 0 ∷ pos 0 ∷ pos 0 ∷ pos 0 ∷ pos 0 ∷ []
unfolding everything
pair_below_0_kept_box = refl

pair_below_0_over : decide_readings sheet1 (81 ∷ 83 ∷ 0 ∷ 0 ∷ 0 ∷ 10 ∷ 0 ∷ 0 ∷ 0 ∷ 0 ∷ []) (readings_in (2 ∷ []) (float 3239313408 ∷ float 3229614080 ∷ []) N) ≡ answered finest 1 2
unfolding sheet1 everything
pair_below_0_over = refl

pair_below_0_over_box : readings_box 1 (readings_in (2 ∷ []) (float 3239313408 ∷ float 3229614080 ∷ []) N) ≡ negsuc 9 ∷ pos 0 ∷ pos 0 ∷ pos 0 ∷ pos 0 ∷ pos 0 ∷ negsuc 3 ∷ pos 0 ∷ pos 0 ∷ pos 0 ∷ pos 0 ∷ pos 0 ∷ []
unfolding everything
pair_below_0_over_box = refl

readings_second_width : decide_readings sheet2 (81 ∷ 83 ∷ 0 ∷ 0 ∷ 0 ∷ 100 ∷ 0 ∷ 0 ∷ 0 ∷ 20 ∷ []) (readings_in (1 ∷ 2 ∷ []) (float 0 ∷ float 2147483648 ∷ float 2147483648 ∷ float 0 ∷ []) N) ≡ answered keep 4 19
unfolding sheet2 everything
readings_second_width = refl

readings_second_width_box : readings_box 2 (readings_in (1 ∷ 2 ∷ []) (float 0 ∷ float 2147483648 ∷ float 2147483648 ∷ float 0 ∷ []) N) ≡ pos 0 ∷ pos 0 ∷ pos 0 ∷ pos 0 ∷ pos 0 ∷ pos 0 ∷ pos 0 ∷ pos 0 ∷ pos 0 ∷ pos 0 ∷ pos 0 ∷ pos 0 ∷ []
unfolding everything
readings_second_width_box = refl

readings_spent : decide_readings sheet2 (81 ∷ 83 ∷ 0 ∷ 0 ∷ 0 ∷ 8 ∷ 0 ∷ 0 ∷ 0 ∷ 20 ∷ []) (readings_in (1 ∷ 2 ∷ []) (float 0 ∷ float 2147483648 ∷ float 2147483648 ∷ float 0 ∷ []) N) ≡ answered spent 4 8
unfolding sheet2 everything
readings_spent = refl

readings_spent_box : readings_box 2 (readings_in (1 ∷ 2 ∷ []) (float 0 ∷ float 2147483648 ∷ float 2147483648 ∷ float 0 ∷ []) N) ≡ pos 0 ∷ pos 0 ∷ pos 0 ∷ pos 0 ∷ pos 0 ∷ pos 0 ∷ pos 0 ∷ pos 0 ∷ pos 0 ∷ pos 0 ∷ pos 0 ∷ pos 0 ∷ []
unfolding everything
readings_spent_box = refl

chain_by_readings : decide_readings sheet3 (81 ∷ 83 ∷ 0 ∷ 0 ∷ 0 ∷ 60 ∷ 0 ∷ 0 ∷ 0 ∷ 12 ∷ []) (readings_in (1 ∷ 2 ∷ 1 ∷ 2 ∷ []) (float 0 ∷ float 1084227584 ∷ float 1048576000 ∷ float 1075838976 ∷ float 2147483648 ∷ float 1069547520 ∷ float 1065353216 ∷ float 1084358656 ∷ []) N) ≡ answered keep 2 21
unfolding sheet3 everything
chain_by_readings = refl

chain_by_readings_box : readings_box 4 (readings_in (1 ∷ 2 ∷ 1 ∷ 2 ∷ []) (float 0 ∷ float 1084227584 ∷ float 1048576000 ∷ float 1075838976 ∷ float 2147483648 ∷ float 1069547520 ∷ float 1065353216 ∷ float 1084358656 ∷ []) N) ≡ negsuc 4 ∷ pos 0 ∷ negsuc 1 ∷ pos 1 ∷ pos 0 ∷ pos 0 ∷ pos 5 ∷ pos 3 ∷ pos 2 ∷ pos 6 ∷ pos 0 ∷ pos 0 ∷ []
unfolding everything
chain_by_readings_box = refl

gentle_span_by_readings : decide_readings sheet4 (81 ∷ 82 ∷ 0 ∷ 0 ∷ 0 ∷ 200 ∷ 255 ∷ 255 ∷ 255 ∷ 251 ∷ 0 ∷ 0 ∷ 0 ∷ 5 ∷ []) (readings_in (1 ∷ 1 ∷ 2 ∷ []) (float 1073741824 ∷ float 1085276160 ∷ float 1115815936 ∷ float 1082654720 ∷ float 3266248704 ∷ float 3263954944 ∷ []) N) ≡ answered keep 6 22
unfolding sheet4 everything
gentle_span_by_readings = refl

gentle_span_by_readings_box : readings_box 3 (readings_in (1 ∷ 1 ∷ 2 ∷ []) (float 1073741824 ∷ float 1085276160 ∷ float 1115815936 ∷ float 1082654720 ∷ float 3266248704 ∷ float 3263954944 ∷ []) N) ≡ negsuc 3 ∷ pos 60 ∷ negsuc 87 ∷ pos 0 ∷ pos 0 ∷ pos 0 ∷ pos 8 ∷ pos 70 ∷ negsuc 69 ∷ pos 0 ∷ pos 0 ∷ pos 0 ∷ []
unfolding everything
gentle_span_by_readings_box = refl

steered_by_readings : decide_readings sheet5 (81 ∷ 82 ∷ 0 ∷ 0 ∷ 0 ∷ 20 ∷ 255 ∷ 255 ∷ 255 ∷ 255 ∷ 0 ∷ 0 ∷ 0 ∷ 1 ∷ []) (readings_in (1 ∷ 2 ∷ []) (float 0 ∷ float 2147483648 ∷ float 2147483648 ∷ float 0 ∷ []) N) ≡ answered finest 1 5
unfolding sheet5 everything
steered_by_readings = refl

steered_by_readings_box : readings_box 2 (readings_in (1 ∷ 2 ∷ []) (float 0 ∷ float 2147483648 ∷ float 2147483648 ∷ float 0 ∷ []) N) ≡ pos 0 ∷ pos 0 ∷ pos 0 ∷ pos 0 ∷ pos 0 ∷ pos 0 ∷ pos 0 ∷ pos 0 ∷ pos 0 ∷ pos 0 ∷ pos 0 ∷ pos 0 ∷ []
unfolding everything
steered_by_readings_box = refl

column_by_readings : decide_readings sheet6 (81 ∷ 83 ∷ 0 ∷ 0 ∷ 0 ∷ 10 ∷ 0 ∷ 0 ∷ 0 ∷ 9 ∷ []) (readings_in (1 ∷ 1 ∷ 2 ∷ 2 ∷ 1 ∷ 1 ∷ []) (float 1065353216 ∷ float 1056964608 ∷ float 0 ∷ float 1065353216 ∷ float 1048576000 ∷ float 1075838976 ∷ float 3217031168 ∷ float 2147483648 ∷ float 1069547520 ∷ float 0 ∷ float 3225419776 ∷ float 0 ∷ []) N) ≡ answered keep 1 2
unfolding sheet6 everything
column_by_readings = refl

column_by_readings_box : readings_box 6 (readings_in (1 ∷ 1 ∷ 2 ∷ 2 ∷ 1 ∷ 1 ∷ []) (float 1065353216 ∷ float 1056964608 ∷ float 0 ∷ float 1065353216 ∷ float 1048576000 ∷ float 1075838976 ∷ float 3217031168 ∷ float 2147483648 ∷ float 1069547520 ∷ float 0 ∷ float 3225419776 ∷ float 0 ∷ []) N) ≡ pos 0 ∷ negsuc 0 ∷ pos 0 ∷ negsuc 1 ∷ pos 1 ∷ negsuc 2 ∷ pos 2 ∷ pos 1 ∷ pos 3 ∷ pos 0 ∷ pos 2 ∷ negsuc 2 ∷ []
unfolding everything
column_by_readings_box = refl

column_without_a_reading : decide_readings sheet6 (81 ∷ 83 ∷ 0 ∷ 0 ∷ 0 ∷ 10 ∷ 0 ∷ 0 ∷ 0 ∷ 9 ∷ []) (readings_in (1 ∷ 1 ∷ 2 ∷ 2 ∷ []) (float 1065353216 ∷ float 1056964608 ∷ float 0 ∷ float 1065353216 ∷ float 1048576000 ∷ float 1075838976 ∷ float 3217031168 ∷ float 2147483648 ∷ []) N) ≡ refused 18
unfolding sheet6 everything
column_without_a_reading = refl

column_by_no_number : decide_readings sheet6 (81 ∷ 83 ∷ 0 ∷ 0 ∷ 0 ∷ 10 ∷ 0 ∷ 0 ∷ 0 ∷ 9 ∷ []) (readings_in (1 ∷ 1 ∷ 2 ∷ 2 ∷ 1 ∷ 0 ∷ []) (float 1065353216 ∷ float 1056964608 ∷ float 0 ∷ float 1065353216 ∷ float 1048576000 ∷ float 1075838976 ∷ float 3217031168 ∷ float 2147483648 ∷ float 2143289344 ∷ float 0 ∷ float 0 ∷ float 0 ∷ []) N) ≡ refused 19
unfolding sheet6 everything
column_by_no_number = refl

pulley_by_readings : decide_readings sheet7 (81 ∷ 82 ∷ 0 ∷ 0 ∷ 0 ∷ 100 ∷ 255 ∷ 255 ∷ 255 ∷ 247 ∷ 0 ∷ 0 ∷ 0 ∷ 12 ∷ []) (readings_in (2 ∷ 1 ∷ 1 ∷ 2 ∷ 1 ∷ []) (float 3217031168 ∷ float 1075838976 ∷ float 1075838976 ∷ float 1073741824 ∷ float 3221225472 ∷ float 1069547520 ∷ float 1065353216 ∷ float 1069547520 ∷ float 1084227584 ∷ float 1073741824 ∷ []) N) ≡ answered keep 2 5
unfolding sheet7 everything
pulley_by_readings = refl

pulley_by_readings_box : readings_box 5 (readings_in (2 ∷ 1 ∷ 1 ∷ 2 ∷ 1 ∷ []) (float 3217031168 ∷ float 1075838976 ∷ float 1075838976 ∷ float 1073741824 ∷ float 3221225472 ∷ float 1069547520 ∷ float 1065353216 ∷ float 1069547520 ∷ float 1084227584 ∷ float 1073741824 ∷ []) N) ≡ negsuc 1 ∷ pos 0 ∷ negsuc 3 ∷ pos 1 ∷ pos 3 ∷ pos 0 ∷ pos 3 ∷ pos 5 ∷ pos 0 ∷ pos 2 ∷ pos 7 ∷ pos 0 ∷ []
unfolding everything
pulley_by_readings_box = refl

pulley_too_far : decide_readings sheet7 (81 ∷ 82 ∷ 0 ∷ 0 ∷ 0 ∷ 100 ∷ 255 ∷ 255 ∷ 255 ∷ 247 ∷ 0 ∷ 0 ∷ 0 ∷ 12 ∷ []) (readings_in (2 ∷ 1 ∷ 1 ∷ 2 ∷ 1 ∷ []) (float 3217031168 ∷ float 1075838976 ∷ float 1075838976 ∷ float 1073741824 ∷ float 3379831808 ∷ float 1065353216 ∷ float 1065353216 ∷ float 1069547520 ∷ float 1084227584 ∷ float 1073741824 ∷ []) N) ≡ refused 15
unfolding sheet7 everything
pulley_too_far = refl

pulley_reversed : decide_readings sheet7 (81 ∷ 82 ∷ 0 ∷ 0 ∷ 0 ∷ 100 ∷ 255 ∷ 255 ∷ 255 ∷ 247 ∷ 0 ∷ 0 ∷ 0 ∷ 12 ∷ []) (readings_in (2 ∷ 1 ∷ 1 ∷ 2 ∷ 1 ∷ []) (float 3217031168 ∷ float 1075838976 ∷ float 1075838976 ∷ float 1073741824 ∷ float 3221225472 ∷ float 1069547520 ∷ float 1069547520 ∷ float 1067450368 ∷ float 1084227584 ∷ float 1073741824 ∷ []) N) ≡ refused 19
unfolding sheet7 everything
pulley_reversed = refl

pulley_without_a_reading : decide_readings sheet7 (81 ∷ 82 ∷ 0 ∷ 0 ∷ 0 ∷ 100 ∷ 255 ∷ 255 ∷ 255 ∷ 247 ∷ 0 ∷ 0 ∷ 0 ∷ 12 ∷ []) (readings_in (0 ∷ 1 ∷ 1 ∷ 2 ∷ 1 ∷ []) (float 0 ∷ float 0 ∷ float 1075838976 ∷ float 1073741824 ∷ float 3221225472 ∷ float 1069547520 ∷ float 1065353216 ∷ float 1069547520 ∷ float 1084227584 ∷ float 1073741824 ∷ []) N) ≡ refused 18
unfolding sheet7 everything
pulley_without_a_reading = refl

reading_0 : decide_readings file_a (take 10 question_a) (readings_in (1 ∷ []) (float 0 ∷ float 0 ∷ []) N) ≡ answered keep 4 4
unfolding question_a everything
reading_0 = refl

reading_0_box : readings_box 1 (readings_in (1 ∷ []) (float 0 ∷ float 0 ∷ []) N) ≡ pos 0 ∷ pos 0 ∷ pos 0 ∷ pos 0 ∷ pos 0 ∷ pos 0 ∷ pos 0 ∷ pos 0 ∷ pos 0 ∷ pos 0 ∷ pos 0 ∷ pos 0 ∷ []
unfolding everything
reading_0_box = refl

reading_minus_0 : decide_readings file_a (take 10 question_a) (readings_in (1 ∷ []) (float 2147483648 ∷ float 0 ∷ []) N) ≡ answered keep 4 4
unfolding question_a everything
reading_minus_0 = refl

reading_minus_0_box : readings_box 1 (readings_in (1 ∷ []) (float 2147483648 ∷ float 0 ∷ []) N) ≡ pos 0 ∷ pos 0 ∷ pos 0 ∷ pos 0 ∷ pos 0 ∷ pos 0 ∷ pos 0 ∷ pos 0 ∷ pos 0 ∷ pos 0 ∷ pos 0 ∷ pos 0 ∷ []
unfolding everything
reading_minus_0_box = refl

reading_least_subnormal : decide_readings file_a (take 10 question_a) (readings_in (1 ∷ []) (float 1 ∷ float 0 ∷ []) N) ≡ answered keep 4 4
unfolding question_a everything
reading_least_subnormal = refl

reading_least_subnormal_box : readings_box 1 (readings_in (1 ∷ []) (float 1 ∷ float 0 ∷ []) N) ≡ pos 0 ∷ pos 0 ∷ pos 0 ∷ pos 0 ∷ pos 0 ∷ pos 0 ∷ pos 1 ∷ pos 0 ∷ pos 0 ∷ pos 0 ∷ pos 0 ∷ pos 0 ∷ []
unfolding everything
reading_least_subnormal_box = refl

reading_least_negative_subnormal : decide_readings file_a (take 10 question_a) (readings_in (1 ∷ []) (float 2147483649 ∷ float 0 ∷ []) N) ≡ answered keep 4 4
unfolding question_a everything
reading_least_negative_subnormal = refl

reading_least_negative_subnormal_box : readings_box 1 (readings_in (1 ∷ []) (float 2147483649 ∷ float 0 ∷ []) N) ≡ negsuc 0 ∷ pos 0 ∷ pos 0 ∷ pos 0 ∷ pos 0 ∷ pos 0 ∷ pos 0 ∷ pos 0 ∷ pos 0 ∷ pos 0 ∷ pos 0 ∷ pos 0 ∷ []
unfolding everything
reading_least_negative_subnormal_box = refl

reading_last_subnormal : decide_readings file_a (take 10 question_a) (readings_in (1 ∷ []) (float 8388607 ∷ float 0 ∷ []) N) ≡ answered keep 4 4
unfolding question_a everything
reading_last_subnormal = refl

reading_last_subnormal_box : readings_box 1 (readings_in (1 ∷ []) (float 8388607 ∷ float 0 ∷ []) N) ≡ pos 0 ∷ pos 0 ∷ pos 0 ∷ pos 0 ∷ pos 0 ∷ pos 0 ∷ pos 1 ∷ pos 0 ∷ pos 0 ∷ pos 0 ∷ pos 0 ∷ pos 0 ∷ []
unfolding everything
reading_last_subnormal_box = refl

reading_first_normal : decide_readings file_a (take 10 question_a) (readings_in (1 ∷ []) (float 8388608 ∷ float 0 ∷ []) N) ≡ answered keep 4 4
unfolding question_a everything
reading_first_normal = refl

reading_first_normal_box : readings_box 1 (readings_in (1 ∷ []) (float 8388608 ∷ float 0 ∷ []) N) ≡ pos 0 ∷ pos 0 ∷ pos 0 ∷ pos 0 ∷ pos 0 ∷ pos 0 ∷ pos 1 ∷ pos 0 ∷ pos 0 ∷ pos 0 ∷ pos 0 ∷ pos 0 ∷ []
unfolding everything
reading_first_normal_box = refl

reading_half : decide_readings file_a (take 10 question_a) (readings_in (1 ∷ []) (float 1056964608 ∷ float 0 ∷ []) N) ≡ answered keep 4 4
unfolding question_a everything
reading_half = refl

reading_half_box : readings_box 1 (readings_in (1 ∷ []) (float 1056964608 ∷ float 0 ∷ []) N) ≡ pos 0 ∷ pos 0 ∷ pos 0 ∷ pos 0 ∷ pos 0 ∷ pos 0 ∷ pos 1 ∷ pos 0 ∷ pos 0 ∷ pos 0 ∷ pos 0 ∷ pos 0 ∷ []
unfolding everything
reading_half_box = refl

reading_minus_half : decide_readings file_a (take 10 question_a) (readings_in (1 ∷ []) (float 3204448256 ∷ float 0 ∷ []) N) ≡ answered keep 4 4
unfolding question_a everything
reading_minus_half = refl

reading_minus_half_box : readings_box 1 (readings_in (1 ∷ []) (float 3204448256 ∷ float 0 ∷ []) N) ≡ negsuc 0 ∷ pos 0 ∷ pos 0 ∷ pos 0 ∷ pos 0 ∷ pos 0 ∷ pos 0 ∷ pos 0 ∷ pos 0 ∷ pos 0 ∷ pos 0 ∷ pos 0 ∷ []
unfolding everything
reading_minus_half_box = refl

reading_just_below_1 : decide_readings file_a (take 10 question_a) (readings_in (1 ∷ []) (float 1065353215 ∷ float 0 ∷ []) N) ≡ answered keep 4 4
unfolding question_a everything
reading_just_below_1 = refl

reading_just_below_1_box : readings_box 1 (readings_in (1 ∷ []) (float 1065353215 ∷ float 0 ∷ []) N) ≡ pos 0 ∷ pos 0 ∷ pos 0 ∷ pos 0 ∷ pos 0 ∷ pos 0 ∷ pos 1 ∷ pos 0 ∷ pos 0 ∷ pos 0 ∷ pos 0 ∷ pos 0 ∷ []
unfolding everything
reading_just_below_1_box = refl

reading_just_above_minus_1 : decide_readings file_a (take 10 question_a) (readings_in (1 ∷ []) (float 3212836863 ∷ float 0 ∷ []) N) ≡ answered keep 4 4
unfolding question_a everything
reading_just_above_minus_1 = refl

reading_just_above_minus_1_box : readings_box 1 (readings_in (1 ∷ []) (float 3212836863 ∷ float 0 ∷ []) N) ≡ negsuc 0 ∷ pos 0 ∷ pos 0 ∷ pos 0 ∷ pos 0 ∷ pos 0 ∷ pos 0 ∷ pos 0 ∷ pos 0 ∷ pos 0 ∷ pos 0 ∷ pos 0 ∷ []
unfolding everything
reading_just_above_minus_1_box = refl

reading_1 : decide_readings file_a (take 10 question_a) (readings_in (1 ∷ []) (float 1065353216 ∷ float 0 ∷ []) N) ≡ answered keep 4 4
unfolding question_a everything
reading_1 = refl

reading_1_box : readings_box 1 (readings_in (1 ∷ []) (float 1065353216 ∷ float 0 ∷ []) N) ≡ pos 1 ∷ pos 0 ∷ pos 0 ∷ pos 0 ∷ pos 0 ∷ pos 0 ∷ pos 1 ∷ pos 0 ∷ pos 0 ∷ pos 0 ∷ pos 0 ∷ pos 0 ∷ []
unfolding everything
reading_1_box = refl

reading_just_above_1 : decide_readings file_a (take 10 question_a) (readings_in (1 ∷ []) (float 1065353217 ∷ float 0 ∷ []) N) ≡ answered keep 4 4
unfolding question_a everything
reading_just_above_1 = refl

reading_just_above_1_box : readings_box 1 (readings_in (1 ∷ []) (float 1065353217 ∷ float 0 ∷ []) N) ≡ pos 1 ∷ pos 0 ∷ pos 0 ∷ pos 0 ∷ pos 0 ∷ pos 0 ∷ pos 2 ∷ pos 0 ∷ pos 0 ∷ pos 0 ∷ pos 0 ∷ pos 0 ∷ []
unfolding everything
reading_just_above_1_box = refl

reading_just_below_1000000 : decide_readings file_a (take 10 question_a) (readings_in (1 ∷ []) (float 1232348159 ∷ float 0 ∷ []) N) ≡ answered finest 1 5
unfolding question_a everything
reading_just_below_1000000 = refl

reading_just_below_1000000_box : readings_box 1 (readings_in (1 ∷ []) (float 1232348159 ∷ float 0 ∷ []) N) ≡ pos 999999 ∷ pos 0 ∷ pos 0 ∷ pos 0 ∷ pos 0 ∷ pos 0 ∷ pos 1000000 ∷ pos 0 ∷ pos 0 ∷ pos 0 ∷ pos 0 ∷ pos 0 ∷ []
unfolding everything
reading_just_below_1000000_box = refl

reading_1000000 : decide_readings file_a (take 10 question_a) (readings_in (1 ∷ []) (float 1232348160 ∷ float 0 ∷ []) N) ≡ answered finest 1 5
unfolding question_a everything
reading_1000000 = refl

reading_1000000_box : readings_box 1 (readings_in (1 ∷ []) (float 1232348160 ∷ float 0 ∷ []) N) ≡ pos 1000000 ∷ pos 0 ∷ pos 0 ∷ pos 0 ∷ pos 0 ∷ pos 0 ∷ pos 1000000 ∷ pos 0 ∷ pos 0 ∷ pos 0 ∷ pos 0 ∷ pos 0 ∷ []
unfolding everything
reading_1000000_box = refl

reading_just_above_1000000 : decide_readings file_a (take 10 question_a) (readings_in (1 ∷ []) (float 1232348161 ∷ float 0 ∷ []) N) ≡ refused 19
unfolding question_a everything
reading_just_above_1000000 = refl

reading_just_above_minus_1000000 : decide_readings file_a (take 10 question_a) (readings_in (1 ∷ []) (float 3379831807 ∷ float 0 ∷ []) N) ≡ answered finest 1 20
unfolding question_a everything
reading_just_above_minus_1000000 = refl

reading_just_above_minus_1000000_box : readings_box 1 (readings_in (1 ∷ []) (float 3379831807 ∷ float 0 ∷ []) N) ≡ negsuc 999999 ∷ pos 0 ∷ pos 0 ∷ pos 0 ∷ pos 0 ∷ pos 0 ∷ negsuc 999998 ∷ pos 0 ∷ pos 0 ∷ pos 0 ∷ pos 0 ∷ pos 0 ∷ []
unfolding everything
reading_just_above_minus_1000000_box = refl

reading_minus_1000000 : decide_readings file_a (take 10 question_a) (readings_in (1 ∷ []) (float 3379831808 ∷ float 0 ∷ []) N) ≡ answered finest 1 20
unfolding question_a everything
reading_minus_1000000 = refl

reading_minus_1000000_box : readings_box 1 (readings_in (1 ∷ []) (float 3379831808 ∷ float 0 ∷ []) N) ≡ negsuc 999999 ∷ pos 0 ∷ pos 0 ∷ pos 0 ∷ pos 0 ∷ pos 0 ∷ negsuc 999999 ∷ pos 0 ∷ pos 0 ∷ pos 0 ∷ pos 0 ∷ pos 0 ∷ []
unfolding everything
reading_minus_1000000_box = refl

reading_just_below_minus_1000000 : decide_readings file_a (take 10 question_a) (readings_in (1 ∷ []) (float 3379831809 ∷ float 0 ∷ []) N) ≡ refused 19
unfolding question_a everything
reading_just_below_minus_1000000 = refl

reading_below_all_whole : decide_readings file_a (take 10 question_a) (readings_in (1 ∷ []) (float 1258291199 ∷ float 0 ∷ []) N) ≡ refused 19
unfolding question_a everything
reading_below_all_whole = refl

reading_first_of_all_whole : decide_readings file_a (take 10 question_a) (readings_in (1 ∷ []) (float 1258291200 ∷ float 0 ∷ []) N) ≡ refused 19
unfolding question_a everything
reading_first_of_all_whole = refl

reading_second_of_all_whole : decide_readings file_a (take 10 question_a) (readings_in (1 ∷ []) (float 1258291201 ∷ float 0 ∷ []) N) ≡ refused 19
unfolding question_a everything
reading_second_of_all_whole = refl

reading_largest : decide_readings file_a (take 10 question_a) (readings_in (1 ∷ []) (float 2139095039 ∷ float 0 ∷ []) N) ≡ refused 19
unfolding question_a everything
reading_largest = refl

reading_infinity : decide_readings file_a (take 10 question_a) (readings_in (1 ∷ []) (float 2139095040 ∷ float 0 ∷ []) N) ≡ refused 19
unfolding question_a everything
reading_infinity = refl

reading_minus_infinity : decide_readings file_a (take 10 question_a) (readings_in (1 ∷ []) (float 4286578688 ∷ float 0 ∷ []) N) ≡ refused 19
unfolding question_a everything
reading_minus_infinity = refl

reading_nan : decide_readings file_a (take 10 question_a) (readings_in (1 ∷ []) (float 2143289344 ∷ float 0 ∷ []) N) ≡ refused 19
unfolding question_a everything
reading_nan = refl

reading_nan_of_least_payload : decide_readings file_a (take 10 question_a) (readings_in (1 ∷ []) (float 2139095041 ∷ float 0 ∷ []) N) ≡ refused 19
unfolding question_a everything
reading_nan_of_least_payload = refl

reading_nan_of_greatest_payload : decide_readings file_a (take 10 question_a) (readings_in (1 ∷ []) (float 4294967295 ∷ float 0 ∷ []) N) ≡ refused 19
unfolding question_a everything
reading_nan_of_greatest_payload = refl

reading_tolerance_minus_0 : decide_readings file_a (take 10 question_a) (readings_in (1 ∷ []) (float 1088421888 ∷ float 2147483648 ∷ []) N) ≡ answered keep 4 4
unfolding question_a everything
reading_tolerance_minus_0 = refl

reading_tolerance_minus_0_box : readings_box 1 (readings_in (1 ∷ []) (float 1088421888 ∷ float 2147483648 ∷ []) N) ≡ pos 7 ∷ pos 0 ∷ pos 0 ∷ pos 0 ∷ pos 0 ∷ pos 0 ∷ pos 7 ∷ pos 0 ∷ pos 0 ∷ pos 0 ∷ pos 0 ∷ pos 0 ∷ []
unfolding everything
reading_tolerance_minus_0_box = refl

reading_tolerance_least : decide_readings file_a (take 10 question_a) (readings_in (1 ∷ []) (float 1088421888 ∷ float 1 ∷ []) N) ≡ answered keep 4 4
unfolding question_a everything
reading_tolerance_least = refl

reading_tolerance_least_box : readings_box 1 (readings_in (1 ∷ []) (float 1088421888 ∷ float 1 ∷ []) N) ≡ pos 6 ∷ pos 0 ∷ pos 0 ∷ pos 0 ∷ pos 0 ∷ pos 0 ∷ pos 8 ∷ pos 0 ∷ pos 0 ∷ pos 0 ∷ pos 0 ∷ pos 0 ∷ []
unfolding everything
reading_tolerance_least_box = refl

reading_tolerance_just_below_0 : decide_readings file_a (take 10 question_a) (readings_in (1 ∷ []) (float 1088421888 ∷ float 2147483649 ∷ []) N) ≡ refused 19
unfolding question_a everything
reading_tolerance_just_below_0 = refl

reading_tolerance_minus_half : decide_readings file_a (take 10 question_a) (readings_in (1 ∷ []) (float 1088421888 ∷ float 3204448256 ∷ []) N) ≡ refused 19
unfolding question_a everything
reading_tolerance_minus_half = refl

reading_tolerance_half : decide_readings file_a (take 10 question_a) (readings_in (1 ∷ []) (float 1088421888 ∷ float 1056964608 ∷ []) N) ≡ answered keep 4 4
unfolding question_a everything
reading_tolerance_half = refl

reading_tolerance_half_box : readings_box 1 (readings_in (1 ∷ []) (float 1088421888 ∷ float 1056964608 ∷ []) N) ≡ pos 6 ∷ pos 0 ∷ pos 0 ∷ pos 0 ∷ pos 0 ∷ pos 0 ∷ pos 8 ∷ pos 0 ∷ pos 0 ∷ pos 0 ∷ pos 0 ∷ pos 0 ∷ []
unfolding everything
reading_tolerance_half_box = refl

reading_tolerance_just_above_1 : decide_readings file_a (take 10 question_a) (readings_in (1 ∷ []) (float 1088421888 ∷ float 1065353217 ∷ []) N) ≡ answered keep 4 4
unfolding question_a everything
reading_tolerance_just_above_1 = refl

reading_tolerance_just_above_1_box : readings_box 1 (readings_in (1 ∷ []) (float 1088421888 ∷ float 1065353217 ∷ []) N) ≡ pos 5 ∷ pos 0 ∷ pos 0 ∷ pos 0 ∷ pos 0 ∷ pos 0 ∷ pos 9 ∷ pos 0 ∷ pos 0 ∷ pos 0 ∷ pos 0 ∷ pos 0 ∷ []
unfolding everything
reading_tolerance_just_above_1_box = refl

reading_tolerance_1000 : decide_readings file_a (take 10 question_a) (readings_in (1 ∷ []) (float 1088421888 ∷ float 1148846080 ∷ []) N) ≡ answered finest 1 3
unfolding question_a everything
reading_tolerance_1000 = refl

reading_tolerance_1000_box : readings_box 1 (readings_in (1 ∷ []) (float 1088421888 ∷ float 1148846080 ∷ []) N) ≡ negsuc 992 ∷ pos 0 ∷ pos 0 ∷ pos 0 ∷ pos 0 ∷ pos 0 ∷ pos 1007 ∷ pos 0 ∷ pos 0 ∷ pos 0 ∷ pos 0 ∷ pos 0 ∷ []
unfolding everything
reading_tolerance_1000_box = refl

reading_tolerance_just_above_1000 : decide_readings file_a (take 10 question_a) (readings_in (1 ∷ []) (float 1088421888 ∷ float 1148846081 ∷ []) N) ≡ refused 19
unfolding question_a everything
reading_tolerance_just_above_1000 = refl

reading_tolerance_infinity : decide_readings file_a (take 10 question_a) (readings_in (1 ∷ []) (float 1088421888 ∷ float 2139095040 ∷ []) N) ≡ refused 19
unfolding question_a everything
reading_tolerance_infinity = refl

reading_tolerance_nan : decide_readings file_a (take 10 question_a) (readings_in (1 ∷ []) (float 1088421888 ∷ float 2143289344 ∷ []) N) ≡ refused 19
unfolding question_a everything
reading_tolerance_nan = refl

reading_around_1000000_by_minus_0 : decide_readings file_a (take 10 question_a) (readings_in (1 ∷ []) (float 1232348160 ∷ float 2147483648 ∷ []) N) ≡ answered finest 1 5
unfolding question_a everything
reading_around_1000000_by_minus_0 = refl

reading_around_1000000_by_minus_0_box : readings_box 1 (readings_in (1 ∷ []) (float 1232348160 ∷ float 2147483648 ∷ []) N) ≡ pos 1000000 ∷ pos 0 ∷ pos 0 ∷ pos 0 ∷ pos 0 ∷ pos 0 ∷ pos 1000000 ∷ pos 0 ∷ pos 0 ∷ pos 0 ∷ pos 0 ∷ pos 0 ∷ []
unfolding everything
reading_around_1000000_by_minus_0_box = refl

reading_around_1000000_by_the_least : decide_readings file_a (take 10 question_a) (readings_in (1 ∷ []) (float 1232348160 ∷ float 1 ∷ []) N) ≡ refused 15
unfolding question_a everything
reading_around_1000000_by_the_least = refl

reading_around_1000000_by_the_least_box : readings_box 1 (readings_in (1 ∷ []) (float 1232348160 ∷ float 1 ∷ []) N) ≡ pos 999999 ∷ pos 0 ∷ pos 0 ∷ pos 0 ∷ pos 0 ∷ pos 0 ∷ pos 1000001 ∷ pos 0 ∷ pos 0 ∷ pos 0 ∷ pos 0 ∷ pos 0 ∷ []
unfolding everything
reading_around_1000000_by_the_least_box = refl

reading_around_999999_by_1 : decide_readings file_a (take 10 question_a) (readings_in (1 ∷ []) (float 1232348144 ∷ float 1065353216 ∷ []) N) ≡ answered finest 1 5
unfolding question_a everything
reading_around_999999_by_1 = refl

reading_around_999999_by_1_box : readings_box 1 (readings_in (1 ∷ []) (float 1232348144 ∷ float 1065353216 ∷ []) N) ≡ pos 999998 ∷ pos 0 ∷ pos 0 ∷ pos 0 ∷ pos 0 ∷ pos 0 ∷ pos 1000000 ∷ pos 0 ∷ pos 0 ∷ pos 0 ∷ pos 0 ∷ pos 0 ∷ []
unfolding everything
reading_around_999999_by_1_box = refl

reading_around_999999_and_a_part_by_1 : decide_readings file_a (take 10 question_a) (readings_in (1 ∷ []) (float 1232348145 ∷ float 1065353216 ∷ []) N) ≡ refused 15
unfolding question_a everything
reading_around_999999_and_a_part_by_1 = refl

reading_around_999999_and_a_part_by_1_box : readings_box 1 (readings_in (1 ∷ []) (float 1232348145 ∷ float 1065353216 ∷ []) N) ≡ pos 999998 ∷ pos 0 ∷ pos 0 ∷ pos 0 ∷ pos 0 ∷ pos 0 ∷ pos 1000001 ∷ pos 0 ∷ pos 0 ∷ pos 0 ∷ pos 0 ∷ pos 0 ∷ []
unfolding everything
reading_around_999999_and_a_part_by_1_box = refl

reading_around_minus_1000000_by_1 : decide_readings file_a (take 10 question_a) (readings_in (1 ∷ []) (float 3379831808 ∷ float 1065353216 ∷ []) N) ≡ refused 15
unfolding question_a everything
reading_around_minus_1000000_by_1 = refl

reading_around_minus_1000000_by_1_box : readings_box 1 (readings_in (1 ∷ []) (float 3379831808 ∷ float 1065353216 ∷ []) N) ≡ negsuc 1000000 ∷ pos 0 ∷ pos 0 ∷ pos 0 ∷ pos 0 ∷ pos 0 ∷ negsuc 999998 ∷ pos 0 ∷ pos 0 ∷ pos 0 ∷ pos 0 ∷ pos 0 ∷ []
unfolding everything
reading_around_minus_1000000_by_1_box = refl

reading_around_minus_999000_by_1000 : decide_readings file_a (take 10 question_a) (readings_in (1 ∷ []) (float 3379815808 ∷ float 1148846080 ∷ []) N) ≡ answered finest 1 20
unfolding question_a everything
reading_around_minus_999000_by_1000 = refl

reading_around_minus_999000_by_1000_box : readings_box 1 (readings_in (1 ∷ []) (float 3379815808 ∷ float 1148846080 ∷ []) N) ≡ negsuc 999999 ∷ pos 0 ∷ pos 0 ∷ pos 0 ∷ pos 0 ∷ pos 0 ∷ negsuc 997999 ∷ pos 0 ∷ pos 0 ∷ pos 0 ∷ pos 0 ∷ pos 0 ∷ []
unfolding everything
reading_around_minus_999000_by_1000_box = refl

reading_pair_of_one_value : decide_readings file_a (take 10 question_a) (readings_in (2 ∷ []) (float 1074790400 ∷ float 1074790400 ∷ []) N) ≡ answered keep 4 4
unfolding question_a everything
reading_pair_of_one_value = refl

reading_pair_of_one_value_box : readings_box 1 (readings_in (2 ∷ []) (float 1074790400 ∷ float 1074790400 ∷ []) N) ≡ pos 2 ∷ pos 0 ∷ pos 0 ∷ pos 0 ∷ pos 0 ∷ pos 0 ∷ pos 3 ∷ pos 0 ∷ pos 0 ∷ pos 0 ∷ pos 0 ∷ pos 0 ∷ []
unfolding everything
reading_pair_of_one_value_box = refl

reading_pair_reversed_by_the_least : decide_readings file_a (take 10 question_a) (readings_in (2 ∷ []) (float 1074790400 ∷ float 1074790399 ∷ []) N) ≡ refused 19
unfolding question_a everything
reading_pair_reversed_by_the_least = refl

reading_pair_just_in_order : decide_readings file_a (take 10 question_a) (readings_in (2 ∷ []) (float 1074790399 ∷ float 1074790400 ∷ []) N) ≡ answered keep 4 4
unfolding question_a everything
reading_pair_just_in_order = refl

reading_pair_just_in_order_box : readings_box 1 (readings_in (2 ∷ []) (float 1074790399 ∷ float 1074790400 ∷ []) N) ≡ pos 2 ∷ pos 0 ∷ pos 0 ∷ pos 0 ∷ pos 0 ∷ pos 0 ∷ pos 3 ∷ pos 0 ∷ pos 0 ∷ pos 0 ∷ pos 0 ∷ pos 0 ∷ []
unfolding everything
reading_pair_just_in_order_box = refl

reading_negative_pair : decide_readings file_a (take 10 question_a) (readings_in (2 ∷ []) (float 3222274048 ∷ float 3222274048 ∷ []) N) ≡ answered keep 4 4
unfolding question_a everything
reading_negative_pair = refl

reading_negative_pair_box : readings_box 1 (readings_in (2 ∷ []) (float 3222274048 ∷ float 3222274048 ∷ []) N) ≡ negsuc 2 ∷ pos 0 ∷ pos 0 ∷ pos 0 ∷ pos 0 ∷ pos 0 ∷ negsuc 1 ∷ pos 0 ∷ pos 0 ∷ pos 0 ∷ pos 0 ∷ pos 0 ∷ []
unfolding everything
reading_negative_pair_box = refl

reading_negative_pair_reversed_by_the_least : decide_readings file_a (take 10 question_a) (readings_in (2 ∷ []) (float 3222274048 ∷ float 3222274049 ∷ []) N) ≡ refused 19
unfolding question_a everything
reading_negative_pair_reversed_by_the_least = refl

reading_pair_of_zeros : decide_readings file_a (take 10 question_a) (readings_in (2 ∷ []) (float 2147483648 ∷ float 0 ∷ []) N) ≡ answered keep 4 4
unfolding question_a everything
reading_pair_of_zeros = refl

reading_pair_of_zeros_box : readings_box 1 (readings_in (2 ∷ []) (float 2147483648 ∷ float 0 ∷ []) N) ≡ pos 0 ∷ pos 0 ∷ pos 0 ∷ pos 0 ∷ pos 0 ∷ pos 0 ∷ pos 0 ∷ pos 0 ∷ pos 0 ∷ pos 0 ∷ pos 0 ∷ pos 0 ∷ []
unfolding everything
reading_pair_of_zeros_box = refl

reading_pair_of_zeros_the_other_way : decide_readings file_a (take 10 question_a) (readings_in (2 ∷ []) (float 0 ∷ float 2147483648 ∷ []) N) ≡ answered keep 4 4
unfolding question_a everything
reading_pair_of_zeros_the_other_way = refl

reading_pair_of_zeros_the_other_way_box : readings_box 1 (readings_in (2 ∷ []) (float 0 ∷ float 2147483648 ∷ []) N) ≡ pos 0 ∷ pos 0 ∷ pos 0 ∷ pos 0 ∷ pos 0 ∷ pos 0 ∷ pos 0 ∷ pos 0 ∷ pos 0 ∷ pos 0 ∷ pos 0 ∷ pos 0 ∷ []
unfolding everything
reading_pair_of_zeros_the_other_way_box = refl

reading_pair_from_just_above_0 : decide_readings file_a (take 10 question_a) (readings_in (2 ∷ []) (float 1 ∷ float 0 ∷ []) N) ≡ refused 19
unfolding question_a everything
reading_pair_from_just_above_0 = refl

reading_pair_around_0 : decide_readings file_a (take 10 question_a) (readings_in (2 ∷ []) (float 2147483649 ∷ float 1 ∷ []) N) ≡ answered keep 4 4
unfolding question_a everything
reading_pair_around_0 = refl

reading_pair_around_0_box : readings_box 1 (readings_in (2 ∷ []) (float 2147483649 ∷ float 1 ∷ []) N) ≡ negsuc 0 ∷ pos 0 ∷ pos 0 ∷ pos 0 ∷ pos 0 ∷ pos 0 ∷ pos 1 ∷ pos 0 ∷ pos 0 ∷ pos 0 ∷ pos 0 ∷ pos 0 ∷ []
unfolding everything
reading_pair_around_0_box = refl

reading_pair_of_all : decide_readings file_a (take 10 question_a) (readings_in (2 ∷ []) (float 3379831808 ∷ float 1232348160 ∷ []) N) ≡ answered finest 1 3
unfolding question_a everything
reading_pair_of_all = refl

reading_pair_of_all_box : readings_box 1 (readings_in (2 ∷ []) (float 3379831808 ∷ float 1232348160 ∷ []) N) ≡ negsuc 999999 ∷ pos 0 ∷ pos 0 ∷ pos 0 ∷ pos 0 ∷ pos 0 ∷ pos 1000000 ∷ pos 0 ∷ pos 0 ∷ pos 0 ∷ pos 0 ∷ pos 0 ∷ []
unfolding everything
reading_pair_of_all_box = refl

reading_pair_from_too_far : decide_readings file_a (take 10 question_a) (readings_in (2 ∷ []) (float 3379831809 ∷ float 0 ∷ []) N) ≡ refused 19
unfolding question_a everything
reading_pair_from_too_far = refl

reading_pair_to_too_far : decide_readings file_a (take 10 question_a) (readings_in (2 ∷ []) (float 0 ∷ float 1232348161 ∷ []) N) ≡ refused 19
unfolding question_a everything
reading_pair_to_too_far = refl

reading_pair_from_minus_infinity : decide_readings file_a (take 10 question_a) (readings_in (2 ∷ []) (float 4286578688 ∷ float 0 ∷ []) N) ≡ refused 19
unfolding question_a everything
reading_pair_from_minus_infinity = refl

reading_pair_to_infinity : decide_readings file_a (take 10 question_a) (readings_in (2 ∷ []) (float 0 ∷ float 2139095040 ∷ []) N) ≡ refused 19
unfolding question_a everything
reading_pair_to_infinity = refl

reading_pair_from_nan : decide_readings file_a (take 10 question_a) (readings_in (2 ∷ []) (float 2143289344 ∷ float 0 ∷ []) N) ≡ refused 19
unfolding question_a everything
reading_pair_from_nan = refl

reading_pair_to_nan : decide_readings file_a (take 10 question_a) (readings_in (2 ∷ []) (float 0 ∷ float 2143289344 ∷ []) N) ≡ refused 19
unfolding question_a everything
reading_pair_to_nan = refl

reading_of_kind_0 : decide_readings file_a (take 10 question_a) (readings_in (0 ∷ []) (float 0 ∷ float 0 ∷ []) N) ≡ refused 18
unfolding question_a everything
reading_of_kind_0 = refl

reading_of_kind_3 : decide_readings file_a (take 10 question_a) (readings_in (3 ∷ []) (float 0 ∷ float 0 ∷ []) N) ≡ refused 18
unfolding question_a everything
reading_of_kind_3 = refl

reading_of_kind_255 : decide_readings file_a (take 10 question_a) (readings_in (255 ∷ []) (float 2143289344 ∷ float 0 ∷ []) N) ≡ refused 18
unfolding question_a everything
reading_of_kind_255 = refl

reading_without_a_kind : decide_readings file_a (take 10 question_a) (readings_in ([]) (float 0 ∷ float 0 ∷ []) N) ≡ refused 18
unfolding question_a everything
reading_without_a_kind = refl

reading_without_values : decide_readings file_a (take 10 question_a) (readings_in (1 ∷ []) ([]) N) ≡ refused 18
unfolding question_a everything
reading_without_values = refl

reading_with_half_of_a_pair : decide_readings file_a (take 10 question_a) (readings_in (2 ∷ []) (float 2143289344 ∷ []) N) ≡ refused 18
unfolding question_a everything
reading_with_half_of_a_pair = refl

reading_and_more_of_nothing : decide_readings file_a (take 10 question_a) (readings_in (1 ∷ 0 ∷ []) (float 0 ∷ float 0 ∷ float 2143289344 ∷ []) N) ≡ answered keep 4 4
unfolding question_a everything
reading_and_more_of_nothing = refl

reading_and_more_of_nothing_box : readings_box 1 (readings_in (1 ∷ 0 ∷ []) (float 0 ∷ float 0 ∷ float 2143289344 ∷ []) N) ≡ pos 0 ∷ pos 0 ∷ pos 0 ∷ pos 0 ∷ pos 0 ∷ pos 0 ∷ pos 0 ∷ pos 0 ∷ pos 0 ∷ pos 0 ∷ pos 0 ∷ pos 0 ∷ []
unfolding everything
reading_and_more_of_nothing_box = refl

reading_under_a_span : decide_readings file_a (take 14 span_A) (readings_in (1 ∷ []) (float 0 ∷ float 0 ∷ []) N) ≡ answered keep 4 4
unfolding span_A everything
reading_under_a_span = refl

reading_under_a_span_box : readings_box 1 (readings_in (1 ∷ []) (float 0 ∷ float 0 ∷ []) N) ≡ pos 0 ∷ pos 0 ∷ pos 0 ∷ pos 0 ∷ pos 0 ∷ pos 0 ∷ pos 0 ∷ pos 0 ∷ pos 0 ∷ pos 0 ∷ pos 0 ∷ pos 0 ∷ []
unfolding everything
reading_under_a_span_box = refl

reading_under_a_span_of_one : decide_readings file_a (take 14 (sets span_A 6 (0 ∷ 0 ∷ 0 ∷ 25 ∷ 0 ∷ 0 ∷ 0 ∷ 25 ∷ []))) (readings_in (1 ∷ []) (float 0 ∷ float 0 ∷ []) N) ≡ answered keep 4 4
unfolding span_A everything
reading_under_a_span_of_one = refl

reading_under_a_span_of_one_box : readings_box 1 (readings_in (1 ∷ []) (float 0 ∷ float 0 ∷ []) N) ≡ pos 0 ∷ pos 0 ∷ pos 0 ∷ pos 0 ∷ pos 0 ∷ pos 0 ∷ pos 0 ∷ pos 0 ∷ pos 0 ∷ pos 0 ∷ pos 0 ∷ pos 0 ∷ []
unfolding everything
reading_under_a_span_of_one_box = refl

reading_without_a_head : decide_readings file_a (take 0 question_a) (readings_in (1 ∷ []) (float 0 ∷ float 0 ∷ []) N) ≡ refused 12
unfolding question_a everything
reading_without_a_head = refl

reading_with_a_byte_too_few : decide_readings file_a (take 9 question_a) (readings_in (1 ∷ []) (float 0 ∷ float 0 ∷ []) N) ≡ refused 12
unfolding question_a everything
reading_with_a_byte_too_few = refl

reading_with_a_byte_too_many : decide_readings file_a (take 11 question_a) (readings_in (1 ∷ []) (float 0 ∷ float 0 ∷ []) N) ≡ refused 12
unfolding question_a everything
reading_with_a_byte_too_many = refl

reading_with_pairs_in_the_head : decide_readings file_a question_a (readings_in (1 ∷ []) (float 0 ∷ float 0 ∷ []) N) ≡ refused 12
unfolding question_a everything
reading_with_pairs_in_the_head = refl

reading_with_a_span_too_short : decide_readings file_a (take 10 span_A) (readings_in (1 ∷ []) (float 0 ∷ float 0 ∷ []) N) ≡ refused 12
unfolding span_A everything
reading_with_a_span_too_short = refl

reading_with_a_command_too_long : decide_readings file_a (take 14 question_a) (readings_in (1 ∷ []) (float 0 ∷ float 0 ∷ []) N) ≡ refused 12
unfolding question_a everything
reading_with_a_command_too_long = refl

reading_with_an_unknown_mark : decide_readings file_a (take 10 (sets question_a 1 (84 ∷ []))) (readings_in (1 ∷ []) (float 0 ∷ float 0 ∷ []) N) ≡ refused 12
unfolding question_a everything
reading_with_an_unknown_mark = refl

reading_129 : decide_readings file_a (take 10 (sets question_a 6 (255 ∷ 255 ∷ 255 ∷ 231 ∷ []))) (readings_in (1 ∷ []) (float 1124139008 ∷ float 0 ∷ []) N) ≡ answered keep 4 4
unfolding question_a everything
reading_129 = refl

reading_129_box : readings_box 1 (readings_in (1 ∷ []) (float 1124139008 ∷ float 0 ∷ []) N) ≡ pos 129 ∷ pos 0 ∷ pos 0 ∷ pos 0 ∷ pos 0 ∷ pos 0 ∷ pos 129 ∷ pos 0 ∷ pos 0 ∷ pos 0 ∷ pos 0 ∷ pos 0 ∷ []
unfolding everything
reading_129_box = refl

reading_129_and_a_half : decide_readings file_a (take 10 (sets question_a 6 (255 ∷ 255 ∷ 255 ∷ 231 ∷ []))) (readings_in (1 ∷ []) (float 1124171776 ∷ float 0 ∷ []) N) ≡ answered finest 1 5
unfolding question_a everything
reading_129_and_a_half = refl

reading_129_and_a_half_box : readings_box 1 (readings_in (1 ∷ []) (float 1124171776 ∷ float 0 ∷ []) N) ≡ pos 129 ∷ pos 0 ∷ pos 0 ∷ pos 0 ∷ pos 0 ∷ pos 0 ∷ pos 130 ∷ pos 0 ∷ pos 0 ∷ pos 0 ∷ pos 0 ∷ pos 0 ∷ []
unfolding everything
reading_129_and_a_half_box = refl

reading_128_by_1 : decide_readings file_a (take 10 (sets question_a 6 (255 ∷ 255 ∷ 255 ∷ 231 ∷ []))) (readings_in (1 ∷ []) (float 1124073472 ∷ float 1065353216 ∷ []) N) ≡ answered keep 4 4
unfolding question_a everything
reading_128_by_1 = refl

reading_128_by_1_box : readings_box 1 (readings_in (1 ∷ []) (float 1124073472 ∷ float 1065353216 ∷ []) N) ≡ pos 127 ∷ pos 0 ∷ pos 0 ∷ pos 0 ∷ pos 0 ∷ pos 0 ∷ pos 129 ∷ pos 0 ∷ pos 0 ∷ pos 0 ∷ pos 0 ∷ pos 0 ∷ []
unfolding everything
reading_128_by_1_box = refl

reading_128_by_more_than_1 : decide_readings file_a (take 10 (sets question_a 6 (255 ∷ 255 ∷ 255 ∷ 231 ∷ []))) (readings_in (1 ∷ []) (float 1124073472 ∷ float 1067450368 ∷ []) N) ≡ answered finest 1 5
unfolding question_a everything
reading_128_by_more_than_1 = refl

reading_128_by_more_than_1_box : readings_box 1 (readings_in (1 ∷ []) (float 1124073472 ∷ float 1067450368 ∷ []) N) ≡ pos 126 ∷ pos 0 ∷ pos 0 ∷ pos 0 ∷ pos 0 ∷ pos 0 ∷ pos 130 ∷ pos 0 ∷ pos 0 ∷ pos 0 ∷ pos 0 ∷ pos 0 ∷ []
unfolding everything
reading_128_by_more_than_1_box = refl

reading_pair_to_129 : decide_readings file_a (take 10 (sets question_a 6 (255 ∷ 255 ∷ 255 ∷ 231 ∷ []))) (readings_in (2 ∷ []) (float 1124007936 ∷ float 1124139008 ∷ []) N) ≡ answered keep 4 4
unfolding question_a everything
reading_pair_to_129 = refl

reading_pair_to_129_box : readings_box 1 (readings_in (2 ∷ []) (float 1124007936 ∷ float 1124139008 ∷ []) N) ≡ pos 127 ∷ pos 0 ∷ pos 0 ∷ pos 0 ∷ pos 0 ∷ pos 0 ∷ pos 129 ∷ pos 0 ∷ pos 0 ∷ pos 0 ∷ pos 0 ∷ pos 0 ∷ []
unfolding everything
reading_pair_to_129_box = refl

reading_pair_to_more_than_129 : decide_readings file_a (take 10 (sets question_a 6 (255 ∷ 255 ∷ 255 ∷ 231 ∷ []))) (readings_in (2 ∷ []) (float 1124007936 ∷ float 1124155392 ∷ []) N) ≡ answered finest 1 5
unfolding question_a everything
reading_pair_to_more_than_129 = refl

reading_pair_to_more_than_129_box : readings_box 1 (readings_in (2 ∷ []) (float 1124007936 ∷ float 1124155392 ∷ []) N) ≡ pos 127 ∷ pos 0 ∷ pos 0 ∷ pos 0 ∷ pos 0 ∷ pos 0 ∷ pos 130 ∷ pos 0 ∷ pos 0 ∷ pos 0 ∷ pos 0 ∷ pos 0 ∷ []
unfolding everything
reading_pair_to_more_than_129_box = refl

reading_of_six_variables : decide_readings six_variables (take 10 question_a) (readings_in (1 ∷ 2 ∷ 1 ∷ 2 ∷ 1 ∷ 2 ∷ []) (float 1069547520 ∷ float 1048576000 ∷ float 3223322624 ∷ float 1075838976 ∷ float 1077936128 ∷ float 0 ∷ float 1048576000 ∷ float 1069547520 ∷ float 3217031168 ∷ float 1073741824 ∷ float 3235905536 ∷ float 3234856960 ∷ []) N) ≡ answered keep 4 4
unfolding six_variables question_a everything
reading_of_six_variables = refl

reading_of_six_variables_box : readings_box 6 (readings_in (1 ∷ 2 ∷ 1 ∷ 2 ∷ 1 ∷ 2 ∷ []) (float 1069547520 ∷ float 1048576000 ∷ float 3223322624 ∷ float 1075838976 ∷ float 1077936128 ∷ float 0 ∷ float 1048576000 ∷ float 1069547520 ∷ float 3217031168 ∷ float 1073741824 ∷ float 3235905536 ∷ float 3234856960 ∷ []) N) ≡ pos 0 ∷ negsuc 2 ∷ pos 3 ∷ pos 0 ∷ negsuc 3 ∷ negsuc 6 ∷ pos 3 ∷ pos 3 ∷ pos 3 ∷ pos 2 ∷ pos 1 ∷ negsuc 5 ∷ []
unfolding everything
reading_of_six_variables_box = refl

reading_after_the_sheets_length : decide_readings (take 69 file_a) (take 10 (sets question_a 0 (88 ∷ 88 ∷ []))) (readings_in (0 ∷ []) (float 0 ∷ float 0 ∷ []) N) ≡ refused 5
unfolding question_a everything
reading_after_the_sheets_length = refl

reading_after_the_order : decide_readings (sets three_boxes 62 (0 ∷ 0 ∷ 0 ∷ 129 ∷ [])) (take 10 (sets question_a 0 (88 ∷ 88 ∷ []))) (readings_in (0 ∷ []) (float 0 ∷ float 0 ∷ []) N) ≡ refused 20
unfolding three_boxes question_a everything
reading_after_the_order = refl

reading_after_the_overlap : decide_readings (sets file_a 52 (0 ∷ 0 ∷ 0 ∷ 100 ∷ [])) (take 10 (sets question_a 0 (88 ∷ 88 ∷ []))) (readings_in (0 ∷ []) (float 0 ∷ float 0 ∷ []) N) ≡ refused 22
unfolding question_a everything
reading_after_the_overlap = refl

reading_of_a_bad_cap : decide_readings (sets file_a 20 (0 ∷ 0 ∷ [])) (take 10 question_a) (readings_in (0 ∷ []) (float 0 ∷ float 0 ∷ []) N) ≡ refused 6
unfolding question_a everything
reading_of_a_bad_cap = refl

reading_nan_of_a_bad_row : decide_readings (sets file_a 48 (0 ∷ 0 ∷ [])) (take 10 question_a) (readings_in (1 ∷ []) (float 2143289344 ∷ float 0 ∷ []) N) ≡ refused 10
unfolding question_a everything
reading_nan_of_a_bad_row = refl

reading_missing_after_the_mark : decide_readings file_a (take 10 (sets question_a 0 (88 ∷ 88 ∷ []))) (readings_in (0 ∷ []) (float 0 ∷ float 0 ∷ []) N) ≡ refused 12
unfolding question_a everything
reading_missing_after_the_mark = refl

reading_nan_after_the_mark : decide_readings file_a (take 10 (sets question_a 0 (88 ∷ 88 ∷ []))) (readings_in (1 ∷ []) (float 2143289344 ∷ float 0 ∷ []) N) ≡ refused 12
unfolding question_a everything
reading_nan_after_the_mark = refl

reading_missing_after_allowance : decide_readings file_a (take 10 (sets question_a 2 (0 ∷ 15 ∷ 66 ∷ 65 ∷ []))) (readings_in (0 ∷ []) (float 0 ∷ float 0 ∷ []) N) ≡ refused 13
unfolding question_a everything
reading_missing_after_allowance = refl

reading_nan_after_allowance : decide_readings file_a (take 10 (sets question_a 2 (0 ∷ 15 ∷ 66 ∷ 65 ∷ []))) (readings_in (1 ∷ []) (float 2143289344 ∷ float 0 ∷ []) N) ≡ refused 13
unfolding question_a everything
reading_nan_after_allowance = refl

reading_far_after_allowance : decide_readings file_a (take 10 (sets question_a 2 (0 ∷ 15 ∷ 66 ∷ 65 ∷ []))) (readings_in (1 ∷ []) (float 1232348160 ∷ float 1065353216 ∷ []) N) ≡ refused 13
unfolding question_a everything
reading_far_after_allowance = refl

reading_missing_after_command : decide_readings file_a (take 10 (sets question_a 6 (0 ∷ 0 ∷ 0 ∷ 26 ∷ []))) (readings_in (0 ∷ []) (float 0 ∷ float 0 ∷ []) N) ≡ refused 14
unfolding question_a everything
reading_missing_after_command = refl

reading_nan_after_command : decide_readings file_a (take 10 (sets question_a 6 (0 ∷ 0 ∷ 0 ∷ 26 ∷ []))) (readings_in (1 ∷ []) (float 2143289344 ∷ float 0 ∷ []) N) ≡ refused 14
unfolding question_a everything
reading_nan_after_command = refl

reading_far_after_command : decide_readings file_a (take 10 (sets question_a 6 (0 ∷ 0 ∷ 0 ∷ 26 ∷ []))) (readings_in (1 ∷ []) (float 1232348160 ∷ float 1065353216 ∷ []) N) ≡ refused 14
unfolding question_a everything
reading_far_after_command = refl

reading_missing_then_nan : decide_readings two_boxes (take 10 question_a) (readings_in (0 ∷ 1 ∷ []) (float 0 ∷ float 0 ∷ float 2143289344 ∷ float 0 ∷ []) N) ≡ refused 18
unfolding two_boxes question_a everything
reading_missing_then_nan = refl

reading_nan_then_missing : decide_readings two_boxes (take 10 question_a) (readings_in (1 ∷ 0 ∷ []) (float 2143289344 ∷ float 0 ∷ float 0 ∷ float 0 ∷ []) N) ≡ refused 19
unfolding two_boxes question_a everything
reading_nan_then_missing = refl

reading_far_then_missing : decide_readings two_boxes (take 10 question_a) (readings_in (1 ∷ 0 ∷ []) (float 1232348160 ∷ float 1065353216 ∷ float 0 ∷ float 0 ∷ []) N) ≡ refused 18
unfolding two_boxes question_a everything
reading_far_then_missing = refl

reading_far_then_nan : decide_readings two_boxes (take 10 question_a) (readings_in (1 ∷ 1 ∷ []) (float 1232348160 ∷ float 1065353216 ∷ float 2143289344 ∷ float 0 ∷ []) N) ≡ refused 19
unfolding two_boxes question_a everything
reading_far_then_nan = refl

reading_missing_then_far : decide_readings two_boxes (take 10 question_a) (readings_in (0 ∷ 1 ∷ []) (float 0 ∷ float 0 ∷ float 1232348160 ∷ float 1065353216 ∷ []) N) ≡ refused 18
unfolding two_boxes question_a everything
reading_missing_then_far = refl

reading_nan_then_far : decide_readings two_boxes (take 10 question_a) (readings_in (1 ∷ 1 ∷ []) (float 2143289344 ∷ float 0 ∷ float 1232348160 ∷ float 1065353216 ∷ []) N) ≡ refused 19
unfolding two_boxes question_a everything
reading_nan_then_far = refl

reading_far_then_0 : decide_readings two_boxes (take 10 question_a) (readings_in (1 ∷ 1 ∷ []) (float 1232348160 ∷ float 1065353216 ∷ float 0 ∷ float 0 ∷ []) N) ≡ refused 15
unfolding two_boxes question_a everything
reading_far_then_0 = refl

reading_far_then_0_box : readings_box 2 (readings_in (1 ∷ 1 ∷ []) (float 1232348160 ∷ float 1065353216 ∷ float 0 ∷ float 0 ∷ []) N) ≡ pos 999999 ∷ pos 0 ∷ pos 0 ∷ pos 0 ∷ pos 0 ∷ pos 0 ∷ pos 1000001 ∷ pos 0 ∷ pos 0 ∷ pos 0 ∷ pos 0 ∷ pos 0 ∷ []
unfolding everything
reading_far_then_0_box = refl

reading_0_then_far : decide_readings two_boxes (take 10 question_a) (readings_in (2 ∷ 1 ∷ []) (float 0 ∷ float 0 ∷ float 1232348160 ∷ float 1065353216 ∷ []) N) ≡ refused 15
unfolding two_boxes question_a everything
reading_0_then_far = refl

reading_0_then_far_box : readings_box 2 (readings_in (2 ∷ 1 ∷ []) (float 0 ∷ float 0 ∷ float 1232348160 ∷ float 1065353216 ∷ []) N) ≡ pos 0 ∷ pos 999999 ∷ pos 0 ∷ pos 0 ∷ pos 0 ∷ pos 0 ∷ pos 0 ∷ pos 1000001 ∷ pos 0 ∷ pos 0 ∷ pos 0 ∷ pos 0 ∷ []
unfolding everything
reading_0_then_far_box = refl
