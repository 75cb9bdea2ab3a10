-- Worked examples of reference/examples.txt and limits.txt: what the definitions give, beside what the second guard gives.
-- This file is written by `print_proofs` of reference/, and a test there compares it. Assumes nothing.
use mathlib.Core.Path.{◌≡◌, refl}
use mathlib.Core.List.{List, [], ◌∷◌}
use Prim.Native.Nat.{ℕ}
use lib.IntN.{ℤ, pos, negsuc}
use lib.ListN.{take}
use lib.Seq.{sets}
use Rattle.sheet_spec.specs.SheetA.{file_a}
use Rattle.machine_spec.specs.declared.Law.TheVariants.{Baseline}
use Rattle.machine_spec.specs.Machine.{one_command}
use Rattle.boxes_spec.specs.Reach.{Answer, refused, reach_file}
use Rattle.boxes_spec.proofs.Everything.{everything}

abbrev answered : List ℤ → List ℤ → ℕ → Answer
answered E W c = record { refusal = 0; end = E; swept = W; rounds = c }

-- sheet A is the second guard's
same_A : file_a ≡ 83 ∷ 72 ∷ 1 ∷ 1 ∷ 1 ∷ 0 ∷ 0 ∷ 4 ∷ 0 ∷ 4 ∷ 0 ∷ 4 ∷ 255 ∷ 255 ∷ 255 ∷ 231 ∷ 0 ∷ 0 ∷ 0 ∷ 25 ∷ 0 ∷ 5 ∷ 66 ∷ 68 ∷ 255 ∷ 225 ∷ 123 ∷ 128 ∷ 0 ∷ 0 ∷ 0 ∷ 0 ∷ 0 ∷ 0 ∷ 0 ∷ 0 ∷ 255 ∷ 255 ∷ 0 ∷ 4 ∷ 0 ∷ 0 ∷ 0 ∷ 0 ∷ 0 ∷ 0 ∷ 0 ∷ 0 ∷ 0 ∷ 20 ∷ 78 ∷ 71 ∷ 0 ∷ 0 ∷ 0 ∷ 130 ∷ 0 ∷ 30 ∷ 132 ∷ 128 ∷ 82 ∷ 67 ∷ 255 ∷ 255 ∷ 255 ∷ 156 ∷ 0 ∷ 0 ∷ 0 ∷ 100 ∷ []
unfolding file_a
same_A = refl

unfoldable three_boxes : List ℕ
three_boxes = 83 ∷ 72 ∷ 1 ∷ 1 ∷ 3 ∷ 0 ∷ 0 ∷ 4 ∷ 0 ∷ 4 ∷ 0 ∷ 4 ∷ 255 ∷ 255 ∷ 255 ∷ 231 ∷ 0 ∷ 0 ∷ 0 ∷ 25 ∷ 0 ∷ 5 ∷ 66 ∷ 68 ∷ 255 ∷ 225 ∷ 123 ∷ 128 ∷ 0 ∷ 0 ∷ 0 ∷ 0 ∷ 0 ∷ 0 ∷ 0 ∷ 0 ∷ 255 ∷ 255 ∷ 0 ∷ 4 ∷ 0 ∷ 0 ∷ 0 ∷ 0 ∷ 0 ∷ 0 ∷ 0 ∷ 0 ∷ 0 ∷ 20 ∷ 78 ∷ 71 ∷ 0 ∷ 0 ∷ 0 ∷ 130 ∷ 0 ∷ 30 ∷ 132 ∷ 128 ∷ 78 ∷ 71 ∷ 0 ∷ 0 ∷ 0 ∷ 131 ∷ 0 ∷ 30 ∷ 132 ∷ 128 ∷ 78 ∷ 71 ∷ 0 ∷ 0 ∷ 0 ∷ 132 ∷ 0 ∷ 30 ∷ 132 ∷ 128 ∷ 82 ∷ 67 ∷ 255 ∷ 255 ∷ 255 ∷ 156 ∷ 0 ∷ 0 ∷ 0 ∷ 100 ∷ []

unfoldable two_bands : List ℕ
two_bands = 83 ∷ 72 ∷ 1 ∷ 2 ∷ 1 ∷ 0 ∷ 0 ∷ 4 ∷ 0 ∷ 4 ∷ 0 ∷ 4 ∷ 255 ∷ 255 ∷ 255 ∷ 231 ∷ 0 ∷ 0 ∷ 0 ∷ 25 ∷ 0 ∷ 5 ∷ 66 ∷ 68 ∷ 255 ∷ 225 ∷ 123 ∷ 128 ∷ 0 ∷ 0 ∷ 0 ∷ 0 ∷ 0 ∷ 0 ∷ 0 ∷ 0 ∷ 255 ∷ 255 ∷ 0 ∷ 4 ∷ 0 ∷ 0 ∷ 0 ∷ 0 ∷ 0 ∷ 0 ∷ 0 ∷ 0 ∷ 0 ∷ 20 ∷ 66 ∷ 68 ∷ 0 ∷ 0 ∷ 0 ∷ 0 ∷ 0 ∷ 0 ∷ 0 ∷ 0 ∷ 0 ∷ 0 ∷ 0 ∷ 0 ∷ 255 ∷ 255 ∷ 0 ∷ 4 ∷ 0 ∷ 0 ∷ 0 ∷ 0 ∷ 0 ∷ 0 ∷ 0 ∷ 0 ∷ 0 ∷ 20 ∷ 78 ∷ 71 ∷ 0 ∷ 0 ∷ 0 ∷ 130 ∷ 0 ∷ 30 ∷ 132 ∷ 128 ∷ 82 ∷ 67 ∷ 255 ∷ 255 ∷ 255 ∷ 156 ∷ 0 ∷ 0 ∷ 0 ∷ 100 ∷ []

unfoldable following : List ℕ
following = 83 ∷ 72 ∷ 1 ∷ 1 ∷ 1 ∷ 0 ∷ 0 ∷ 4 ∷ 0 ∷ 4 ∷ 0 ∷ 4 ∷ 255 ∷ 255 ∷ 255 ∷ 231 ∷ 0 ∷ 0 ∷ 0 ∷ 25 ∷ 0 ∷ 5 ∷ 66 ∷ 70 ∷ 255 ∷ 225 ∷ 123 ∷ 128 ∷ 0 ∷ 0 ∷ 0 ∷ 0 ∷ 0 ∷ 0 ∷ 0 ∷ 0 ∷ 255 ∷ 255 ∷ 0 ∷ 0 ∷ 0 ∷ 0 ∷ 0 ∷ 2 ∷ 255 ∷ 255 ∷ 0 ∷ 4 ∷ 0 ∷ 0 ∷ 0 ∷ 0 ∷ 0 ∷ 0 ∷ 0 ∷ 0 ∷ 0 ∷ 20 ∷ 78 ∷ 71 ∷ 0 ∷ 0 ∷ 0 ∷ 130 ∷ 0 ∷ 30 ∷ 132 ∷ 128 ∷ 82 ∷ 67 ∷ 255 ∷ 255 ∷ 255 ∷ 156 ∷ 0 ∷ 0 ∷ 0 ∷ 100 ∷ []

unfoldable largest : List ℕ
largest = 83 ∷ 72 ∷ 6 ∷ 2 ∷ 1 ∷ 0 ∷ 0 ∷ 4 ∷ 0 ∷ 4 ∷ 0 ∷ 4 ∷ 255 ∷ 255 ∷ 216 ∷ 240 ∷ 0 ∷ 0 ∷ 39 ∷ 16 ∷ 3 ∷ 232 ∷ 3 ∷ 232 ∷ 3 ∷ 232 ∷ 3 ∷ 232 ∷ 3 ∷ 232 ∷ 3 ∷ 232 ∷ 66 ∷ 70 ∷ 255 ∷ 225 ∷ 123 ∷ 128 ∷ 255 ∷ 255 ∷ 216 ∷ 240 ∷ 0 ∷ 0 ∷ 39 ∷ 16 ∷ 3 ∷ 232 ∷ 3 ∷ 232 ∷ 3 ∷ 232 ∷ 3 ∷ 232 ∷ 3 ∷ 232 ∷ 3 ∷ 232 ∷ 250 ∷ 10 ∷ 31 ∷ 0 ∷ 16 ∷ 0 ∷ 3 ∷ 232 ∷ 3 ∷ 232 ∷ 3 ∷ 232 ∷ 3 ∷ 232 ∷ 3 ∷ 232 ∷ 3 ∷ 232 ∷ 3 ∷ 232 ∷ 250 ∷ 10 ∷ 31 ∷ 0 ∷ 5 ∷ 245 ∷ 225 ∷ 0 ∷ 16 ∷ 0 ∷ 3 ∷ 232 ∷ 3 ∷ 232 ∷ 3 ∷ 232 ∷ 3 ∷ 232 ∷ 3 ∷ 232 ∷ 3 ∷ 232 ∷ 3 ∷ 232 ∷ 250 ∷ 10 ∷ 31 ∷ 0 ∷ 5 ∷ 245 ∷ 225 ∷ 0 ∷ 16 ∷ 0 ∷ 3 ∷ 232 ∷ 3 ∷ 232 ∷ 3 ∷ 232 ∷ 3 ∷ 232 ∷ 3 ∷ 232 ∷ 3 ∷ 232 ∷ 3 ∷ 232 ∷ 250 ∷ 10 ∷ 31 ∷ 0 ∷ 5 ∷ 245 ∷ 225 ∷ 0 ∷ 16 ∷ 0 ∷ 3 ∷ 232 ∷ 3 ∷ 232 ∷ 3 ∷ 232 ∷ 3 ∷ 232 ∷ 3 ∷ 232 ∷ 3 ∷ 232 ∷ 3 ∷ 232 ∷ 250 ∷ 10 ∷ 31 ∷ 0 ∷ 5 ∷ 245 ∷ 225 ∷ 0 ∷ 16 ∷ 0 ∷ 3 ∷ 232 ∷ 3 ∷ 232 ∷ 3 ∷ 232 ∷ 3 ∷ 232 ∷ 3 ∷ 232 ∷ 3 ∷ 232 ∷ 3 ∷ 232 ∷ 250 ∷ 10 ∷ 31 ∷ 0 ∷ 5 ∷ 245 ∷ 225 ∷ 0 ∷ 16 ∷ 0 ∷ 3 ∷ 232 ∷ 3 ∷ 232 ∷ 3 ∷ 232 ∷ 3 ∷ 232 ∷ 3 ∷ 232 ∷ 3 ∷ 232 ∷ 3 ∷ 232 ∷ 250 ∷ 10 ∷ 31 ∷ 0 ∷ 5 ∷ 245 ∷ 225 ∷ 0 ∷ 16 ∷ 0 ∷ 66 ∷ 70 ∷ 0 ∷ 0 ∷ 0 ∷ 0 ∷ 255 ∷ 255 ∷ 216 ∷ 240 ∷ 0 ∷ 0 ∷ 39 ∷ 16 ∷ 3 ∷ 232 ∷ 3 ∷ 232 ∷ 3 ∷ 232 ∷ 3 ∷ 232 ∷ 3 ∷ 232 ∷ 3 ∷ 232 ∷ 5 ∷ 245 ∷ 225 ∷ 0 ∷ 16 ∷ 0 ∷ 3 ∷ 232 ∷ 3 ∷ 232 ∷ 3 ∷ 232 ∷ 3 ∷ 232 ∷ 3 ∷ 232 ∷ 3 ∷ 232 ∷ 3 ∷ 232 ∷ 5 ∷ 245 ∷ 225 ∷ 0 ∷ 5 ∷ 245 ∷ 225 ∷ 0 ∷ 16 ∷ 0 ∷ 3 ∷ 232 ∷ 3 ∷ 232 ∷ 3 ∷ 232 ∷ 3 ∷ 232 ∷ 3 ∷ 232 ∷ 3 ∷ 232 ∷ 3 ∷ 232 ∷ 5 ∷ 245 ∷ 225 ∷ 0 ∷ 5 ∷ 245 ∷ 225 ∷ 0 ∷ 16 ∷ 0 ∷ 3 ∷ 232 ∷ 3 ∷ 232 ∷ 3 ∷ 232 ∷ 3 ∷ 232 ∷ 3 ∷ 232 ∷ 3 ∷ 232 ∷ 3 ∷ 232 ∷ 5 ∷ 245 ∷ 225 ∷ 0 ∷ 5 ∷ 245 ∷ 225 ∷ 0 ∷ 16 ∷ 0 ∷ 3 ∷ 232 ∷ 3 ∷ 232 ∷ 3 ∷ 232 ∷ 3 ∷ 232 ∷ 3 ∷ 232 ∷ 3 ∷ 232 ∷ 3 ∷ 232 ∷ 5 ∷ 245 ∷ 225 ∷ 0 ∷ 5 ∷ 245 ∷ 225 ∷ 0 ∷ 16 ∷ 0 ∷ 3 ∷ 232 ∷ 3 ∷ 232 ∷ 3 ∷ 232 ∷ 3 ∷ 232 ∷ 3 ∷ 232 ∷ 3 ∷ 232 ∷ 3 ∷ 232 ∷ 5 ∷ 245 ∷ 225 ∷ 0 ∷ 5 ∷ 245 ∷ 225 ∷ 0 ∷ 16 ∷ 0 ∷ 3 ∷ 232 ∷ 3 ∷ 232 ∷ 3 ∷ 232 ∷ 3 ∷ 232 ∷ 3 ∷ 232 ∷ 3 ∷ 232 ∷ 3 ∷ 232 ∷ 5 ∷ 245 ∷ 225 ∷ 0 ∷ 5 ∷ 245 ∷ 225 ∷ 0 ∷ 16 ∷ 0 ∷ 78 ∷ 71 ∷ 0 ∷ 0 ∷ 0 ∷ 130 ∷ 0 ∷ 30 ∷ 132 ∷ 128 ∷ 0 ∷ 0 ∷ 0 ∷ 130 ∷ 0 ∷ 30 ∷ 132 ∷ 128 ∷ 0 ∷ 0 ∷ 0 ∷ 130 ∷ 0 ∷ 30 ∷ 132 ∷ 128 ∷ 0 ∷ 0 ∷ 0 ∷ 130 ∷ 0 ∷ 30 ∷ 132 ∷ 128 ∷ 0 ∷ 0 ∷ 0 ∷ 130 ∷ 0 ∷ 30 ∷ 132 ∷ 128 ∷ 0 ∷ 0 ∷ 0 ∷ 130 ∷ 0 ∷ 30 ∷ 132 ∷ 128 ∷ 82 ∷ 67 ∷ 255 ∷ 255 ∷ 255 ∷ 156 ∷ 0 ∷ 0 ∷ 0 ∷ 100 ∷ 255 ∷ 255 ∷ 255 ∷ 156 ∷ 0 ∷ 0 ∷ 0 ∷ 100 ∷ 255 ∷ 255 ∷ 255 ∷ 156 ∷ 0 ∷ 0 ∷ 0 ∷ 100 ∷ 255 ∷ 255 ∷ 255 ∷ 156 ∷ 0 ∷ 0 ∷ 0 ∷ 100 ∷ 255 ∷ 255 ∷ 255 ∷ 156 ∷ 0 ∷ 0 ∷ 0 ∷ 100 ∷ 255 ∷ 255 ∷ 255 ∷ 156 ∷ 0 ∷ 0 ∷ 0 ∷ 100 ∷ []

unfoldable sheet0 : List ℕ
sheet0 = 83 ∷ 72 ∷ 2 ∷ 3 ∷ 1 ∷ 0 ∷ 0 ∷ 4 ∷ 0 ∷ 8 ∷ 0 ∷ 8 ∷ 255 ∷ 255 ∷ 255 ∷ 236 ∷ 0 ∷ 0 ∷ 0 ∷ 20 ∷ 0 ∷ 8 ∷ 0 ∷ 6 ∷ 66 ∷ 68 ∷ 255 ∷ 225 ∷ 123 ∷ 128 ∷ 0 ∷ 0 ∷ 0 ∷ 0 ∷ 0 ∷ 0 ∷ 0 ∷ 5 ∷ 0 ∷ 0 ∷ 0 ∷ 1 ∷ 0 ∷ 0 ∷ 0 ∷ 0 ∷ 0 ∷ 0 ∷ 0 ∷ 0 ∷ 0 ∷ 1 ∷ 0 ∷ 4 ∷ 255 ∷ 255 ∷ 255 ∷ 250 ∷ 0 ∷ 4 ∷ 0 ∷ 0 ∷ 0 ∷ 0 ∷ 0 ∷ 0 ∷ 0 ∷ 3 ∷ 0 ∷ 16 ∷ 66 ∷ 68 ∷ 0 ∷ 0 ∷ 0 ∷ 0 ∷ 255 ∷ 255 ∷ 255 ∷ 254 ∷ 0 ∷ 0 ∷ 0 ∷ 2 ∷ 0 ∷ 0 ∷ 0 ∷ 1 ∷ 0 ∷ 0 ∷ 0 ∷ 0 ∷ 0 ∷ 0 ∷ 0 ∷ 0 ∷ 0 ∷ 1 ∷ 0 ∷ 4 ∷ 255 ∷ 254 ∷ 255 ∷ 250 ∷ 0 ∷ 4 ∷ 0 ∷ 0 ∷ 0 ∷ 0 ∷ 0 ∷ 0 ∷ 0 ∷ 3 ∷ 0 ∷ 16 ∷ 66 ∷ 68 ∷ 0 ∷ 0 ∷ 0 ∷ 40 ∷ 255 ∷ 255 ∷ 255 ∷ 246 ∷ 255 ∷ 255 ∷ 255 ∷ 251 ∷ 0 ∷ 0 ∷ 0 ∷ 1 ∷ 0 ∷ 0 ∷ 0 ∷ 0 ∷ 0 ∷ 0 ∷ 0 ∷ 0 ∷ 0 ∷ 2 ∷ 0 ∷ 4 ∷ 255 ∷ 254 ∷ 255 ∷ 248 ∷ 0 ∷ 4 ∷ 0 ∷ 0 ∷ 0 ∷ 10 ∷ 0 ∷ 0 ∷ 0 ∷ 5 ∷ 0 ∷ 16 ∷ 78 ∷ 71 ∷ 0 ∷ 0 ∷ 3 ∷ 232 ∷ 0 ∷ 30 ∷ 132 ∷ 128 ∷ 255 ∷ 225 ∷ 123 ∷ 128 ∷ 0 ∷ 30 ∷ 132 ∷ 128 ∷ 82 ∷ 67 ∷ 255 ∷ 255 ∷ 255 ∷ 156 ∷ 0 ∷ 0 ∷ 0 ∷ 100 ∷ 255 ∷ 255 ∷ 255 ∷ 186 ∷ 0 ∷ 0 ∷ 0 ∷ 75 ∷ []

unfoldable sheet1 : List ℕ
sheet1 = 83 ∷ 72 ∷ 4 ∷ 2 ∷ 2 ∷ 3 ∷ 0 ∷ 3 ∷ 0 ∷ 5 ∷ 0 ∷ 4 ∷ 255 ∷ 255 ∷ 255 ∷ 226 ∷ 0 ∷ 0 ∷ 0 ∷ 30 ∷ 0 ∷ 4 ∷ 0 ∷ 4 ∷ 0 ∷ 4 ∷ 0 ∷ 5 ∷ 66 ∷ 68 ∷ 255 ∷ 225 ∷ 123 ∷ 128 ∷ 255 ∷ 255 ∷ 255 ∷ 255 ∷ 0 ∷ 0 ∷ 0 ∷ 1 ∷ 255 ∷ 254 ∷ 0 ∷ 1 ∷ 0 ∷ 0 ∷ 0 ∷ 0 ∷ 0 ∷ 1 ∷ 0 ∷ 0 ∷ 0 ∷ 0 ∷ 0 ∷ 0 ∷ 0 ∷ 0 ∷ 0 ∷ 16 ∷ 0 ∷ 1 ∷ 255 ∷ 253 ∷ 0 ∷ 1 ∷ 0 ∷ 0 ∷ 0 ∷ 0 ∷ 0 ∷ 0 ∷ 0 ∷ 2 ∷ 0 ∷ 0 ∷ 0 ∷ 1 ∷ 0 ∷ 16 ∷ 0 ∷ 0 ∷ 0 ∷ 1 ∷ 255 ∷ 253 ∷ 0 ∷ 1 ∷ 255 ∷ 255 ∷ 0 ∷ 0 ∷ 0 ∷ 0 ∷ 0 ∷ 0 ∷ 0 ∷ 2 ∷ 0 ∷ 16 ∷ 0 ∷ 0 ∷ 0 ∷ 0 ∷ 0 ∷ 1 ∷ 255 ∷ 252 ∷ 0 ∷ 2 ∷ 255 ∷ 255 ∷ 255 ∷ 255 ∷ 0 ∷ 0 ∷ 0 ∷ 3 ∷ 0 ∷ 16 ∷ 66 ∷ 68 ∷ 0 ∷ 0 ∷ 0 ∷ 5 ∷ 255 ∷ 255 ∷ 255 ∷ 253 ∷ 0 ∷ 0 ∷ 0 ∷ 0 ∷ 255 ∷ 254 ∷ 0 ∷ 1 ∷ 0 ∷ 0 ∷ 0 ∷ 0 ∷ 0 ∷ 1 ∷ 0 ∷ 0 ∷ 0 ∷ 0 ∷ 0 ∷ 0 ∷ 0 ∷ 0 ∷ 0 ∷ 16 ∷ 0 ∷ 1 ∷ 255 ∷ 253 ∷ 0 ∷ 1 ∷ 0 ∷ 0 ∷ 0 ∷ 0 ∷ 0 ∷ 0 ∷ 0 ∷ 2 ∷ 0 ∷ 0 ∷ 0 ∷ 1 ∷ 0 ∷ 16 ∷ 0 ∷ 0 ∷ 0 ∷ 1 ∷ 255 ∷ 253 ∷ 0 ∷ 1 ∷ 255 ∷ 255 ∷ 0 ∷ 0 ∷ 0 ∷ 0 ∷ 0 ∷ 0 ∷ 0 ∷ 2 ∷ 0 ∷ 16 ∷ 0 ∷ 0 ∷ 0 ∷ 0 ∷ 0 ∷ 1 ∷ 255 ∷ 250 ∷ 0 ∷ 2 ∷ 255 ∷ 255 ∷ 255 ∷ 255 ∷ 0 ∷ 0 ∷ 0 ∷ 3 ∷ 0 ∷ 16 ∷ 78 ∷ 71 ∷ 255 ∷ 255 ∷ 255 ∷ 156 ∷ 0 ∷ 0 ∷ 0 ∷ 100 ∷ 255 ∷ 255 ∷ 255 ∷ 166 ∷ 255 ∷ 255 ∷ 255 ∷ 196 ∷ 255 ∷ 255 ∷ 255 ∷ 156 ∷ 0 ∷ 0 ∷ 0 ∷ 100 ∷ 255 ∷ 255 ∷ 255 ∷ 156 ∷ 0 ∷ 0 ∷ 0 ∷ 100 ∷ 78 ∷ 71 ∷ 0 ∷ 0 ∷ 0 ∷ 60 ∷ 0 ∷ 0 ∷ 0 ∷ 90 ∷ 255 ∷ 255 ∷ 255 ∷ 156 ∷ 0 ∷ 0 ∷ 0 ∷ 100 ∷ 255 ∷ 255 ∷ 255 ∷ 156 ∷ 0 ∷ 0 ∷ 0 ∷ 100 ∷ 255 ∷ 255 ∷ 255 ∷ 156 ∷ 0 ∷ 0 ∷ 0 ∷ 100 ∷ 82 ∷ 67 ∷ 255 ∷ 255 ∷ 255 ∷ 216 ∷ 0 ∷ 0 ∷ 0 ∷ 40 ∷ 255 ∷ 255 ∷ 255 ∷ 216 ∷ 0 ∷ 0 ∷ 0 ∷ 40 ∷ 255 ∷ 255 ∷ 255 ∷ 216 ∷ 0 ∷ 0 ∷ 0 ∷ 40 ∷ 255 ∷ 255 ∷ 255 ∷ 216 ∷ 0 ∷ 0 ∷ 0 ∷ 40 ∷ []

unfoldable sheet2 : List ℕ
sheet2 = 83 ∷ 72 ∷ 2 ∷ 2 ∷ 1 ∷ 1 ∷ 0 ∷ 8 ∷ 0 ∷ 1 ∷ 0 ∷ 4 ∷ 255 ∷ 255 ∷ 255 ∷ 247 ∷ 0 ∷ 0 ∷ 0 ∷ 9 ∷ 3 ∷ 232 ∷ 0 ∷ 3 ∷ 66 ∷ 68 ∷ 255 ∷ 225 ∷ 123 ∷ 128 ∷ 0 ∷ 0 ∷ 0 ∷ 0 ∷ 0 ∷ 0 ∷ 0 ∷ 0 ∷ 0 ∷ 1 ∷ 0 ∷ 0 ∷ 0 ∷ 0 ∷ 0 ∷ 0 ∷ 0 ∷ 0 ∷ 0 ∷ 0 ∷ 0 ∷ 0 ∷ 0 ∷ 4 ∷ 0 ∷ 0 ∷ 255 ∷ 255 ∷ 0 ∷ 1 ∷ 0 ∷ 0 ∷ 0 ∷ 0 ∷ 0 ∷ 0 ∷ 0 ∷ 0 ∷ 0 ∷ 4 ∷ 66 ∷ 68 ∷ 0 ∷ 0 ∷ 0 ∷ 50 ∷ 0 ∷ 0 ∷ 0 ∷ 0 ∷ 0 ∷ 0 ∷ 0 ∷ 0 ∷ 0 ∷ 1 ∷ 0 ∷ 0 ∷ 0 ∷ 0 ∷ 0 ∷ 0 ∷ 0 ∷ 0 ∷ 0 ∷ 0 ∷ 0 ∷ 0 ∷ 0 ∷ 4 ∷ 0 ∷ 0 ∷ 255 ∷ 255 ∷ 0 ∷ 1 ∷ 0 ∷ 0 ∷ 0 ∷ 0 ∷ 0 ∷ 0 ∷ 0 ∷ 0 ∷ 0 ∷ 2 ∷ 78 ∷ 71 ∷ 255 ∷ 225 ∷ 123 ∷ 128 ∷ 255 ∷ 255 ∷ 236 ∷ 120 ∷ 255 ∷ 225 ∷ 123 ∷ 128 ∷ 0 ∷ 30 ∷ 132 ∷ 128 ∷ 82 ∷ 67 ∷ 0 ∷ 0 ∷ 0 ∷ 0 ∷ 0 ∷ 0 ∷ 11 ∷ 184 ∷ 255 ∷ 255 ∷ 255 ∷ 196 ∷ 0 ∷ 0 ∷ 0 ∷ 60 ∷ []

unfoldable sheet3 : List ℕ
sheet3 = 83 ∷ 72 ∷ 3 ∷ 1 ∷ 1 ∷ 2 ∷ 0 ∷ 2 ∷ 0 ∷ 6 ∷ 0 ∷ 6 ∷ 255 ∷ 255 ∷ 255 ∷ 251 ∷ 0 ∷ 0 ∷ 0 ∷ 5 ∷ 3 ∷ 132 ∷ 3 ∷ 132 ∷ 3 ∷ 132 ∷ 66 ∷ 68 ∷ 255 ∷ 225 ∷ 123 ∷ 128 ∷ 255 ∷ 255 ∷ 255 ∷ 255 ∷ 0 ∷ 0 ∷ 0 ∷ 1 ∷ 255 ∷ 251 ∷ 0 ∷ 1 ∷ 0 ∷ 0 ∷ 0 ∷ 3 ∷ 0 ∷ 0 ∷ 0 ∷ 0 ∷ 0 ∷ 0 ∷ 0 ∷ 0 ∷ 0 ∷ 32 ∷ 0 ∷ 0 ∷ 255 ∷ 251 ∷ 255 ∷ 255 ∷ 0 ∷ 2 ∷ 0 ∷ 0 ∷ 0 ∷ 0 ∷ 0 ∷ 0 ∷ 0 ∷ 4 ∷ 0 ∷ 32 ∷ 0 ∷ 1 ∷ 0 ∷ 0 ∷ 255 ∷ 251 ∷ 255 ∷ 255 ∷ 0 ∷ 0 ∷ 0 ∷ 5 ∷ 0 ∷ 0 ∷ 0 ∷ 0 ∷ 0 ∷ 32 ∷ 78 ∷ 71 ∷ 0 ∷ 0 ∷ 1 ∷ 244 ∷ 0 ∷ 0 ∷ 2 ∷ 88 ∷ 0 ∷ 0 ∷ 1 ∷ 244 ∷ 0 ∷ 0 ∷ 2 ∷ 88 ∷ 0 ∷ 0 ∷ 1 ∷ 244 ∷ 0 ∷ 0 ∷ 2 ∷ 88 ∷ 82 ∷ 67 ∷ 255 ∷ 255 ∷ 255 ∷ 166 ∷ 0 ∷ 0 ∷ 0 ∷ 90 ∷ 255 ∷ 255 ∷ 255 ∷ 166 ∷ 0 ∷ 0 ∷ 0 ∷ 90 ∷ 255 ∷ 255 ∷ 255 ∷ 166 ∷ 0 ∷ 0 ∷ 0 ∷ 90 ∷ []

unfoldable sheet4 : List ℕ
sheet4 = 83 ∷ 72 ∷ 2 ∷ 3 ∷ 1 ∷ 1 ∷ 0 ∷ 2 ∷ 0 ∷ 2 ∷ 0 ∷ 2 ∷ 255 ∷ 255 ∷ 255 ∷ 253 ∷ 0 ∷ 0 ∷ 0 ∷ 3 ∷ 0 ∷ 12 ∷ 0 ∷ 5 ∷ 66 ∷ 68 ∷ 255 ∷ 225 ∷ 123 ∷ 128 ∷ 0 ∷ 0 ∷ 0 ∷ 0 ∷ 0 ∷ 0 ∷ 0 ∷ 0 ∷ 0 ∷ 0 ∷ 0 ∷ 3 ∷ 0 ∷ 0 ∷ 0 ∷ 0 ∷ 0 ∷ 0 ∷ 0 ∷ 0 ∷ 0 ∷ 0 ∷ 0 ∷ 2 ∷ 0 ∷ 0 ∷ 255 ∷ 255 ∷ 0 ∷ 1 ∷ 0 ∷ 0 ∷ 0 ∷ 0 ∷ 0 ∷ 0 ∷ 0 ∷ 0 ∷ 0 ∷ 2 ∷ 66 ∷ 68 ∷ 0 ∷ 0 ∷ 0 ∷ 7 ∷ 255 ∷ 255 ∷ 255 ∷ 255 ∷ 0 ∷ 0 ∷ 0 ∷ 1 ∷ 0 ∷ 0 ∷ 0 ∷ 1 ∷ 0 ∷ 0 ∷ 255 ∷ 255 ∷ 255 ∷ 229 ∷ 0 ∷ 0 ∷ 0 ∷ 0 ∷ 0 ∷ 4 ∷ 0 ∷ 0 ∷ 255 ∷ 255 ∷ 0 ∷ 1 ∷ 0 ∷ 0 ∷ 0 ∷ 20 ∷ 0 ∷ 0 ∷ 0 ∷ 0 ∷ 0 ∷ 4 ∷ 66 ∷ 68 ∷ 0 ∷ 0 ∷ 0 ∷ 34 ∷ 0 ∷ 0 ∷ 0 ∷ 0 ∷ 0 ∷ 0 ∷ 0 ∷ 0 ∷ 0 ∷ 0 ∷ 255 ∷ 254 ∷ 0 ∷ 0 ∷ 0 ∷ 0 ∷ 0 ∷ 82 ∷ 0 ∷ 0 ∷ 0 ∷ 0 ∷ 0 ∷ 2 ∷ 0 ∷ 0 ∷ 0 ∷ 1 ∷ 0 ∷ 1 ∷ 255 ∷ 255 ∷ 255 ∷ 218 ∷ 0 ∷ 0 ∷ 0 ∷ 0 ∷ 0 ∷ 2 ∷ 78 ∷ 71 ∷ 0 ∷ 0 ∷ 1 ∷ 244 ∷ 0 ∷ 0 ∷ 2 ∷ 88 ∷ 0 ∷ 0 ∷ 1 ∷ 244 ∷ 0 ∷ 0 ∷ 2 ∷ 88 ∷ 82 ∷ 67 ∷ 255 ∷ 255 ∷ 255 ∷ 156 ∷ 0 ∷ 0 ∷ 0 ∷ 100 ∷ 255 ∷ 255 ∷ 255 ∷ 156 ∷ 0 ∷ 0 ∷ 0 ∷ 100 ∷ []

unfoldable sheet5 : List ℕ
sheet5 = 83 ∷ 72 ∷ 1 ∷ 3 ∷ 1 ∷ 0 ∷ 0 ∷ 1 ∷ 0 ∷ 1 ∷ 0 ∷ 1 ∷ 0 ∷ 0 ∷ 0 ∷ 0 ∷ 0 ∷ 0 ∷ 0 ∷ 0 ∷ 0 ∷ 5 ∷ 66 ∷ 68 ∷ 255 ∷ 225 ∷ 123 ∷ 128 ∷ 0 ∷ 0 ∷ 0 ∷ 0 ∷ 0 ∷ 0 ∷ 0 ∷ 0 ∷ 0 ∷ 0 ∷ 0 ∷ 0 ∷ 0 ∷ 0 ∷ 0 ∷ 0 ∷ 0 ∷ 0 ∷ 0 ∷ 0 ∷ 0 ∷ 1 ∷ 66 ∷ 68 ∷ 0 ∷ 0 ∷ 0 ∷ 10 ∷ 0 ∷ 0 ∷ 0 ∷ 0 ∷ 0 ∷ 0 ∷ 0 ∷ 0 ∷ 0 ∷ 1 ∷ 0 ∷ 0 ∷ 255 ∷ 255 ∷ 255 ∷ 236 ∷ 0 ∷ 0 ∷ 0 ∷ 0 ∷ 0 ∷ 5 ∷ 66 ∷ 68 ∷ 0 ∷ 0 ∷ 0 ∷ 31 ∷ 0 ∷ 0 ∷ 0 ∷ 0 ∷ 0 ∷ 0 ∷ 0 ∷ 0 ∷ 0 ∷ 0 ∷ 0 ∷ 0 ∷ 0 ∷ 0 ∷ 0 ∷ 0 ∷ 0 ∷ 0 ∷ 0 ∷ 0 ∷ 0 ∷ 1 ∷ 78 ∷ 71 ∷ 0 ∷ 0 ∷ 0 ∷ 100 ∷ 0 ∷ 0 ∷ 0 ∷ 200 ∷ 82 ∷ 67 ∷ 0 ∷ 0 ∷ 0 ∷ 0 ∷ 0 ∷ 0 ∷ 0 ∷ 40 ∷ []

unfoldable sheet6 : List ℕ
sheet6 = 83 ∷ 72 ∷ 1 ∷ 3 ∷ 1 ∷ 0 ∷ 0 ∷ 1 ∷ 0 ∷ 1 ∷ 0 ∷ 1 ∷ 0 ∷ 0 ∷ 0 ∷ 0 ∷ 0 ∷ 0 ∷ 0 ∷ 0 ∷ 0 ∷ 5 ∷ 66 ∷ 68 ∷ 255 ∷ 225 ∷ 123 ∷ 128 ∷ 0 ∷ 0 ∷ 0 ∷ 0 ∷ 0 ∷ 0 ∷ 0 ∷ 0 ∷ 0 ∷ 0 ∷ 0 ∷ 0 ∷ 0 ∷ 0 ∷ 0 ∷ 0 ∷ 0 ∷ 0 ∷ 0 ∷ 0 ∷ 0 ∷ 1 ∷ 66 ∷ 68 ∷ 0 ∷ 0 ∷ 0 ∷ 11 ∷ 0 ∷ 0 ∷ 0 ∷ 0 ∷ 0 ∷ 0 ∷ 0 ∷ 0 ∷ 0 ∷ 1 ∷ 0 ∷ 0 ∷ 255 ∷ 255 ∷ 255 ∷ 236 ∷ 0 ∷ 0 ∷ 0 ∷ 0 ∷ 0 ∷ 5 ∷ 66 ∷ 68 ∷ 0 ∷ 0 ∷ 0 ∷ 30 ∷ 0 ∷ 0 ∷ 0 ∷ 0 ∷ 0 ∷ 0 ∷ 0 ∷ 0 ∷ 0 ∷ 0 ∷ 0 ∷ 0 ∷ 0 ∷ 0 ∷ 0 ∷ 0 ∷ 0 ∷ 0 ∷ 0 ∷ 0 ∷ 0 ∷ 1 ∷ 78 ∷ 71 ∷ 0 ∷ 0 ∷ 0 ∷ 100 ∷ 0 ∷ 0 ∷ 0 ∷ 200 ∷ 82 ∷ 67 ∷ 0 ∷ 0 ∷ 0 ∷ 0 ∷ 0 ∷ 0 ∷ 0 ∷ 40 ∷ []

unfoldable sheet7 : List ℕ
sheet7 = 83 ∷ 72 ∷ 4 ∷ 1 ∷ 1 ∷ 0 ∷ 0 ∷ 1 ∷ 0 ∷ 1 ∷ 0 ∷ 1 ∷ 255 ∷ 255 ∷ 255 ∷ 251 ∷ 0 ∷ 0 ∷ 0 ∷ 5 ∷ 0 ∷ 5 ∷ 0 ∷ 5 ∷ 0 ∷ 5 ∷ 0 ∷ 5 ∷ 66 ∷ 68 ∷ 255 ∷ 225 ∷ 123 ∷ 128 ∷ 255 ∷ 255 ∷ 255 ∷ 251 ∷ 0 ∷ 0 ∷ 0 ∷ 5 ∷ 0 ∷ 1 ∷ 0 ∷ 0 ∷ 0 ∷ 0 ∷ 0 ∷ 0 ∷ 0 ∷ 0 ∷ 0 ∷ 0 ∷ 0 ∷ 0 ∷ 0 ∷ 0 ∷ 0 ∷ 0 ∷ 0 ∷ 7 ∷ 0 ∷ 0 ∷ 0 ∷ 1 ∷ 0 ∷ 0 ∷ 0 ∷ 0 ∷ 0 ∷ 0 ∷ 0 ∷ 0 ∷ 0 ∷ 0 ∷ 0 ∷ 0 ∷ 0 ∷ 3 ∷ 0 ∷ 7 ∷ 0 ∷ 0 ∷ 0 ∷ 0 ∷ 255 ∷ 255 ∷ 0 ∷ 0 ∷ 0 ∷ 0 ∷ 0 ∷ 0 ∷ 0 ∷ 4 ∷ 0 ∷ 0 ∷ 0 ∷ 0 ∷ 0 ∷ 7 ∷ 0 ∷ 0 ∷ 0 ∷ 0 ∷ 0 ∷ 0 ∷ 0 ∷ 0 ∷ 0 ∷ 7 ∷ 0 ∷ 0 ∷ 0 ∷ 0 ∷ 0 ∷ 0 ∷ 0 ∷ 0 ∷ 0 ∷ 7 ∷ 78 ∷ 71 ∷ 0 ∷ 0 ∷ 1 ∷ 244 ∷ 0 ∷ 0 ∷ 1 ∷ 244 ∷ 0 ∷ 0 ∷ 1 ∷ 244 ∷ 0 ∷ 0 ∷ 1 ∷ 244 ∷ 0 ∷ 0 ∷ 1 ∷ 244 ∷ 0 ∷ 0 ∷ 1 ∷ 244 ∷ 0 ∷ 0 ∷ 1 ∷ 244 ∷ 0 ∷ 0 ∷ 1 ∷ 244 ∷ 82 ∷ 67 ∷ 255 ∷ 255 ∷ 255 ∷ 156 ∷ 0 ∷ 0 ∷ 0 ∷ 100 ∷ 255 ∷ 255 ∷ 255 ∷ 156 ∷ 0 ∷ 0 ∷ 0 ∷ 100 ∷ 255 ∷ 255 ∷ 255 ∷ 156 ∷ 0 ∷ 0 ∷ 0 ∷ 100 ∷ 255 ∷ 255 ∷ 255 ∷ 156 ∷ 0 ∷ 0 ∷ 0 ∷ 100 ∷ []

unfoldable sheet8 : List ℕ
sheet8 = 83 ∷ 72 ∷ 2 ∷ 3 ∷ 1 ∷ 1 ∷ 0 ∷ 1 ∷ 0 ∷ 1 ∷ 0 ∷ 1 ∷ 0 ∷ 0 ∷ 0 ∷ 0 ∷ 0 ∷ 0 ∷ 0 ∷ 0 ∷ 0 ∷ 5 ∷ 0 ∷ 5 ∷ 66 ∷ 68 ∷ 255 ∷ 225 ∷ 123 ∷ 128 ∷ 0 ∷ 0 ∷ 0 ∷ 0 ∷ 0 ∷ 0 ∷ 0 ∷ 0 ∷ 0 ∷ 0 ∷ 0 ∷ 0 ∷ 0 ∷ 0 ∷ 255 ∷ 255 ∷ 255 ∷ 222 ∷ 0 ∷ 0 ∷ 0 ∷ 0 ∷ 0 ∷ 7 ∷ 0 ∷ 0 ∷ 0 ∷ 0 ∷ 0 ∷ 0 ∷ 0 ∷ 0 ∷ 0 ∷ 0 ∷ 0 ∷ 0 ∷ 0 ∷ 0 ∷ 0 ∷ 1 ∷ 66 ∷ 68 ∷ 0 ∷ 0 ∷ 0 ∷ 4 ∷ 0 ∷ 0 ∷ 0 ∷ 0 ∷ 0 ∷ 0 ∷ 0 ∷ 0 ∷ 0 ∷ 0 ∷ 0 ∷ 0 ∷ 0 ∷ 0 ∷ 0 ∷ 0 ∷ 0 ∷ 4 ∷ 0 ∷ 0 ∷ 0 ∷ 0 ∷ 0 ∷ 1 ∷ 0 ∷ 0 ∷ 0 ∷ 0 ∷ 0 ∷ 0 ∷ 0 ∷ 0 ∷ 0 ∷ 0 ∷ 0 ∷ 0 ∷ 0 ∷ 0 ∷ 0 ∷ 1 ∷ 66 ∷ 68 ∷ 0 ∷ 0 ∷ 0 ∷ 8 ∷ 0 ∷ 0 ∷ 0 ∷ 0 ∷ 0 ∷ 0 ∷ 0 ∷ 0 ∷ 0 ∷ 0 ∷ 0 ∷ 0 ∷ 0 ∷ 0 ∷ 0 ∷ 0 ∷ 79 ∷ 255 ∷ 0 ∷ 0 ∷ 0 ∷ 0 ∷ 16 ∷ 0 ∷ 0 ∷ 0 ∷ 0 ∷ 0 ∷ 0 ∷ 0 ∷ 0 ∷ 0 ∷ 0 ∷ 0 ∷ 0 ∷ 0 ∷ 0 ∷ 0 ∷ 0 ∷ 1 ∷ 78 ∷ 71 ∷ 0 ∷ 0 ∷ 1 ∷ 244 ∷ 0 ∷ 0 ∷ 2 ∷ 88 ∷ 0 ∷ 0 ∷ 1 ∷ 244 ∷ 0 ∷ 0 ∷ 2 ∷ 88 ∷ 82 ∷ 67 ∷ 255 ∷ 255 ∷ 255 ∷ 156 ∷ 0 ∷ 0 ∷ 0 ∷ 100 ∷ 255 ∷ 255 ∷ 255 ∷ 156 ∷ 0 ∷ 0 ∷ 0 ∷ 100 ∷ []

unfoldable sheet9 : List ℕ
sheet9 = 83 ∷ 72 ∷ 2 ∷ 3 ∷ 1 ∷ 1 ∷ 0 ∷ 1 ∷ 0 ∷ 1 ∷ 0 ∷ 1 ∷ 0 ∷ 0 ∷ 0 ∷ 0 ∷ 0 ∷ 0 ∷ 0 ∷ 0 ∷ 0 ∷ 5 ∷ 0 ∷ 5 ∷ 66 ∷ 68 ∷ 255 ∷ 225 ∷ 123 ∷ 128 ∷ 0 ∷ 0 ∷ 0 ∷ 0 ∷ 0 ∷ 0 ∷ 0 ∷ 0 ∷ 0 ∷ 0 ∷ 0 ∷ 7 ∷ 0 ∷ 0 ∷ 255 ∷ 255 ∷ 255 ∷ 253 ∷ 0 ∷ 0 ∷ 0 ∷ 4 ∷ 0 ∷ 7 ∷ 0 ∷ 0 ∷ 0 ∷ 0 ∷ 0 ∷ 0 ∷ 0 ∷ 0 ∷ 0 ∷ 2 ∷ 0 ∷ 0 ∷ 0 ∷ 0 ∷ 0 ∷ 2 ∷ 66 ∷ 68 ∷ 255 ∷ 255 ∷ 255 ∷ 254 ∷ 0 ∷ 0 ∷ 0 ∷ 0 ∷ 0 ∷ 0 ∷ 0 ∷ 0 ∷ 0 ∷ 0 ∷ 0 ∷ 3 ∷ 0 ∷ 0 ∷ 0 ∷ 0 ∷ 0 ∷ 0 ∷ 0 ∷ 0 ∷ 0 ∷ 0 ∷ 0 ∷ 3 ∷ 0 ∷ 0 ∷ 0 ∷ 0 ∷ 0 ∷ 0 ∷ 0 ∷ 0 ∷ 0 ∷ 2 ∷ 0 ∷ 0 ∷ 0 ∷ 0 ∷ 0 ∷ 2 ∷ 66 ∷ 68 ∷ 0 ∷ 0 ∷ 0 ∷ 3 ∷ 0 ∷ 0 ∷ 0 ∷ 0 ∷ 0 ∷ 0 ∷ 0 ∷ 0 ∷ 0 ∷ 0 ∷ 0 ∷ 9 ∷ 0 ∷ 0 ∷ 255 ∷ 255 ∷ 255 ∷ 251 ∷ 0 ∷ 0 ∷ 0 ∷ 5 ∷ 0 ∷ 9 ∷ 0 ∷ 0 ∷ 0 ∷ 0 ∷ 0 ∷ 0 ∷ 0 ∷ 0 ∷ 0 ∷ 2 ∷ 0 ∷ 0 ∷ 0 ∷ 0 ∷ 0 ∷ 2 ∷ 78 ∷ 71 ∷ 0 ∷ 0 ∷ 1 ∷ 244 ∷ 0 ∷ 0 ∷ 2 ∷ 88 ∷ 0 ∷ 0 ∷ 1 ∷ 244 ∷ 0 ∷ 0 ∷ 2 ∷ 88 ∷ 82 ∷ 67 ∷ 255 ∷ 255 ∷ 255 ∷ 156 ∷ 0 ∷ 0 ∷ 0 ∷ 100 ∷ 255 ∷ 255 ∷ 255 ∷ 156 ∷ 0 ∷ 0 ∷ 0 ∷ 100 ∷ []

unfoldable sheet10 : List ℕ
sheet10 = 83 ∷ 72 ∷ 6 ∷ 3 ∷ 1 ∷ 2 ∷ 0 ∷ 1 ∷ 0 ∷ 1 ∷ 0 ∷ 1 ∷ 255 ∷ 255 ∷ 255 ∷ 236 ∷ 0 ∷ 0 ∷ 0 ∷ 20 ∷ 0 ∷ 4 ∷ 0 ∷ 4 ∷ 0 ∷ 4 ∷ 0 ∷ 4 ∷ 0 ∷ 4 ∷ 0 ∷ 4 ∷ 66 ∷ 70 ∷ 255 ∷ 225 ∷ 123 ∷ 128 ∷ 255 ∷ 255 ∷ 255 ∷ 250 ∷ 0 ∷ 0 ∷ 0 ∷ 6 ∷ 255 ∷ 254 ∷ 0 ∷ 0 ∷ 255 ∷ 255 ∷ 0 ∷ 0 ∷ 0 ∷ 0 ∷ 0 ∷ 1 ∷ 0 ∷ 0 ∷ 0 ∷ 5 ∷ 0 ∷ 3 ∷ 255 ∷ 253 ∷ 0 ∷ 1 ∷ 0 ∷ 0 ∷ 0 ∷ 0 ∷ 0 ∷ 0 ∷ 0 ∷ 0 ∷ 0 ∷ 5 ∷ 0 ∷ 0 ∷ 0 ∷ 0 ∷ 0 ∷ 0 ∷ 0 ∷ 1 ∷ 0 ∷ 16 ∷ 0 ∷ 1 ∷ 255 ∷ 252 ∷ 0 ∷ 0 ∷ 0 ∷ 0 ∷ 0 ∷ 0 ∷ 0 ∷ 0 ∷ 255 ∷ 253 ∷ 0 ∷ 0 ∷ 0 ∷ 2 ∷ 0 ∷ 0 ∷ 0 ∷ 0 ∷ 0 ∷ 16 ∷ 0 ∷ 0 ∷ 0 ∷ 0 ∷ 255 ∷ 253 ∷ 0 ∷ 1 ∷ 0 ∷ 0 ∷ 0 ∷ 0 ∷ 0 ∷ 1 ∷ 0 ∷ 0 ∷ 0 ∷ 0 ∷ 0 ∷ 0 ∷ 0 ∷ 2 ∷ 0 ∷ 16 ∷ 0 ∷ 0 ∷ 0 ∷ 0 ∷ 0 ∷ 0 ∷ 255 ∷ 253 ∷ 0 ∷ 1 ∷ 0 ∷ 0 ∷ 0 ∷ 2 ∷ 255 ∷ 255 ∷ 255 ∷ 255 ∷ 0 ∷ 0 ∷ 0 ∷ 0 ∷ 0 ∷ 16 ∷ 0 ∷ 0 ∷ 0 ∷ 0 ∷ 0 ∷ 0 ∷ 0 ∷ 1 ∷ 255 ∷ 252 ∷ 0 ∷ 0 ∷ 255 ∷ 250 ∷ 0 ∷ 0 ∷ 0 ∷ 0 ∷ 0 ∷ 0 ∷ 0 ∷ 1 ∷ 0 ∷ 16 ∷ 0 ∷ 0 ∷ 0 ∷ 1 ∷ 0 ∷ 0 ∷ 0 ∷ 0 ∷ 0 ∷ 0 ∷ 255 ∷ 252 ∷ 0 ∷ 0 ∷ 0 ∷ 0 ∷ 0 ∷ 0 ∷ 0 ∷ 0 ∷ 0 ∷ 0 ∷ 0 ∷ 16 ∷ 66 ∷ 70 ∷ 255 ∷ 255 ∷ 255 ∷ 250 ∷ 255 ∷ 255 ∷ 255 ∷ 253 ∷ 0 ∷ 0 ∷ 0 ∷ 4 ∷ 255 ∷ 255 ∷ 0 ∷ 1 ∷ 0 ∷ 0 ∷ 255 ∷ 254 ∷ 0 ∷ 0 ∷ 0 ∷ 1 ∷ 255 ∷ 255 ∷ 255 ∷ 252 ∷ 0 ∷ 4 ∷ 255 ∷ 253 ∷ 0 ∷ 1 ∷ 0 ∷ 0 ∷ 0 ∷ 0 ∷ 0 ∷ 0 ∷ 0 ∷ 0 ∷ 0 ∷ 5 ∷ 0 ∷ 0 ∷ 0 ∷ 0 ∷ 0 ∷ 0 ∷ 0 ∷ 1 ∷ 0 ∷ 16 ∷ 0 ∷ 1 ∷ 255 ∷ 252 ∷ 0 ∷ 0 ∷ 0 ∷ 0 ∷ 0 ∷ 0 ∷ 0 ∷ 0 ∷ 255 ∷ 253 ∷ 0 ∷ 0 ∷ 0 ∷ 2 ∷ 0 ∷ 0 ∷ 0 ∷ 0 ∷ 0 ∷ 16 ∷ 0 ∷ 0 ∷ 0 ∷ 0 ∷ 255 ∷ 252 ∷ 0 ∷ 1 ∷ 0 ∷ 0 ∷ 0 ∷ 0 ∷ 0 ∷ 1 ∷ 0 ∷ 0 ∷ 0 ∷ 0 ∷ 0 ∷ 0 ∷ 0 ∷ 2 ∷ 0 ∷ 16 ∷ 0 ∷ 0 ∷ 0 ∷ 0 ∷ 0 ∷ 0 ∷ 255 ∷ 253 ∷ 0 ∷ 1 ∷ 0 ∷ 0 ∷ 0 ∷ 2 ∷ 255 ∷ 255 ∷ 255 ∷ 255 ∷ 0 ∷ 0 ∷ 0 ∷ 0 ∷ 0 ∷ 16 ∷ 0 ∷ 0 ∷ 0 ∷ 0 ∷ 0 ∷ 0 ∷ 0 ∷ 1 ∷ 255 ∷ 252 ∷ 0 ∷ 0 ∷ 255 ∷ 250 ∷ 0 ∷ 0 ∷ 0 ∷ 0 ∷ 0 ∷ 0 ∷ 0 ∷ 1 ∷ 0 ∷ 16 ∷ 0 ∷ 0 ∷ 0 ∷ 1 ∷ 0 ∷ 0 ∷ 0 ∷ 0 ∷ 0 ∷ 0 ∷ 255 ∷ 252 ∷ 0 ∷ 0 ∷ 0 ∷ 0 ∷ 0 ∷ 0 ∷ 0 ∷ 0 ∷ 0 ∷ 0 ∷ 0 ∷ 16 ∷ 66 ∷ 70 ∷ 0 ∷ 0 ∷ 0 ∷ 9 ∷ 255 ∷ 255 ∷ 255 ∷ 254 ∷ 255 ∷ 255 ∷ 255 ∷ 255 ∷ 0 ∷ 0 ∷ 255 ∷ 253 ∷ 255 ∷ 255 ∷ 0 ∷ 0 ∷ 0 ∷ 2 ∷ 0 ∷ 0 ∷ 0 ∷ 0 ∷ 0 ∷ 1 ∷ 0 ∷ 2 ∷ 255 ∷ 253 ∷ 0 ∷ 1 ∷ 0 ∷ 0 ∷ 0 ∷ 0 ∷ 0 ∷ 0 ∷ 0 ∷ 0 ∷ 0 ∷ 5 ∷ 0 ∷ 0 ∷ 0 ∷ 0 ∷ 0 ∷ 0 ∷ 0 ∷ 1 ∷ 0 ∷ 16 ∷ 0 ∷ 1 ∷ 255 ∷ 252 ∷ 0 ∷ 0 ∷ 0 ∷ 0 ∷ 0 ∷ 0 ∷ 0 ∷ 0 ∷ 255 ∷ 253 ∷ 0 ∷ 0 ∷ 0 ∷ 2 ∷ 0 ∷ 0 ∷ 0 ∷ 0 ∷ 0 ∷ 16 ∷ 0 ∷ 0 ∷ 0 ∷ 0 ∷ 255 ∷ 251 ∷ 0 ∷ 1 ∷ 0 ∷ 0 ∷ 0 ∷ 0 ∷ 0 ∷ 1 ∷ 0 ∷ 0 ∷ 0 ∷ 0 ∷ 0 ∷ 0 ∷ 0 ∷ 2 ∷ 0 ∷ 16 ∷ 0 ∷ 0 ∷ 0 ∷ 0 ∷ 0 ∷ 0 ∷ 255 ∷ 253 ∷ 0 ∷ 1 ∷ 0 ∷ 0 ∷ 0 ∷ 2 ∷ 255 ∷ 255 ∷ 255 ∷ 255 ∷ 0 ∷ 0 ∷ 0 ∷ 0 ∷ 0 ∷ 16 ∷ 0 ∷ 0 ∷ 0 ∷ 0 ∷ 0 ∷ 0 ∷ 0 ∷ 1 ∷ 255 ∷ 252 ∷ 0 ∷ 0 ∷ 255 ∷ 250 ∷ 0 ∷ 0 ∷ 0 ∷ 0 ∷ 0 ∷ 0 ∷ 0 ∷ 1 ∷ 0 ∷ 16 ∷ 0 ∷ 0 ∷ 0 ∷ 1 ∷ 0 ∷ 0 ∷ 0 ∷ 0 ∷ 0 ∷ 0 ∷ 255 ∷ 252 ∷ 0 ∷ 0 ∷ 0 ∷ 0 ∷ 0 ∷ 0 ∷ 0 ∷ 0 ∷ 0 ∷ 0 ∷ 0 ∷ 16 ∷ 78 ∷ 71 ∷ 0 ∷ 0 ∷ 0 ∷ 100 ∷ 0 ∷ 0 ∷ 0 ∷ 200 ∷ 0 ∷ 0 ∷ 0 ∷ 100 ∷ 0 ∷ 0 ∷ 0 ∷ 200 ∷ 0 ∷ 0 ∷ 0 ∷ 100 ∷ 0 ∷ 0 ∷ 0 ∷ 200 ∷ 0 ∷ 0 ∷ 0 ∷ 100 ∷ 0 ∷ 0 ∷ 0 ∷ 200 ∷ 0 ∷ 0 ∷ 0 ∷ 100 ∷ 0 ∷ 0 ∷ 0 ∷ 200 ∷ 0 ∷ 0 ∷ 0 ∷ 100 ∷ 0 ∷ 0 ∷ 0 ∷ 200 ∷ 82 ∷ 67 ∷ 255 ∷ 255 ∷ 255 ∷ 226 ∷ 0 ∷ 0 ∷ 0 ∷ 30 ∷ 255 ∷ 255 ∷ 255 ∷ 226 ∷ 0 ∷ 0 ∷ 0 ∷ 30 ∷ 255 ∷ 255 ∷ 255 ∷ 226 ∷ 0 ∷ 0 ∷ 0 ∷ 30 ∷ 255 ∷ 255 ∷ 255 ∷ 226 ∷ 0 ∷ 0 ∷ 0 ∷ 30 ∷ 255 ∷ 255 ∷ 255 ∷ 226 ∷ 0 ∷ 0 ∷ 0 ∷ 30 ∷ 255 ∷ 255 ∷ 255 ∷ 226 ∷ 0 ∷ 0 ∷ 0 ∷ 30 ∷ []

reach_under_command : reach_file sheet0 9 4 (one_command (negsuc 6)) (pos 36 ∷ negsuc 2 ∷ pos 0 ∷ pos 0 ∷ pos 0 ∷ pos 0 ∷ pos 41 ∷ pos 5 ∷ pos 0 ∷ pos 0 ∷ pos 0 ∷ pos 0 ∷ []) ≡ answered (negsuc 27 ∷ negsuc 45 ∷ pos 0 ∷ pos 0 ∷ pos 0 ∷ pos 0 ∷ pos 105 ∷ pos 27 ∷ pos 0 ∷ pos 0 ∷ pos 0 ∷ pos 0 ∷ []) (negsuc 27 ∷ negsuc 50 ∷ pos 0 ∷ pos 0 ∷ pos 0 ∷ pos 0 ∷ pos 105 ∷ pos 33 ∷ pos 0 ∷ pos 0 ∷ pos 0 ∷ pos 0 ∷ []) 9
unfolding sheet0 everything
reach_under_command = refl

reach_under_baseline : reach_file sheet1 6 3 Baseline (negsuc 19 ∷ negsuc 8 ∷ pos 0 ∷ pos 2 ∷ pos 0 ∷ pos 0 ∷ pos 20 ∷ pos 7 ∷ pos 0 ∷ pos 5 ∷ pos 0 ∷ pos 0 ∷ []) ≡ answered (negsuc 25 ∷ negsuc 26 ∷ negsuc 23 ∷ negsuc 27 ∷ pos 0 ∷ pos 0 ∷ pos 26 ∷ pos 28 ∷ pos 24 ∷ pos 23 ∷ pos 0 ∷ pos 0 ∷ []) (negsuc 25 ∷ negsuc 26 ∷ negsuc 23 ∷ negsuc 27 ∷ pos 0 ∷ pos 0 ∷ pos 26 ∷ pos 28 ∷ pos 24 ∷ pos 23 ∷ pos 0 ∷ pos 0 ∷ []) 11
unfolding sheet1 everything
reach_under_baseline = refl

reach_with_two_halvings : reach_file sheet2 9 8 (one_command (pos 3)) (negsuc 19 ∷ pos 46 ∷ pos 0 ∷ pos 0 ∷ pos 0 ∷ pos 0 ∷ pos 20 ∷ pos 51 ∷ pos 0 ∷ pos 0 ∷ pos 0 ∷ pos 0 ∷ []) ≡ answered (negsuc 238 ∷ pos 19 ∷ pos 0 ∷ pos 0 ∷ pos 0 ∷ pos 0 ∷ pos 239 ∷ pos 24 ∷ pos 0 ∷ pos 0 ∷ pos 0 ∷ pos 0 ∷ []) (negsuc 238 ∷ pos 19 ∷ pos 0 ∷ pos 0 ∷ pos 0 ∷ pos 0 ∷ pos 239 ∷ pos 51 ∷ pos 0 ∷ pos 0 ∷ pos 0 ∷ pos 0 ∷ []) 51
unfolding sheet2 everything
reach_with_two_halvings = refl

reach_of_no_ticks : reach_file sheet3 0 1000 (one_command (pos 5)) (negsuc 0 ∷ negsuc 2 ∷ negsuc 4 ∷ pos 0 ∷ pos 0 ∷ pos 0 ∷ pos 2 ∷ pos 4 ∷ pos 6 ∷ pos 0 ∷ pos 0 ∷ pos 0 ∷ []) ≡ answered (negsuc 0 ∷ negsuc 2 ∷ negsuc 4 ∷ pos 0 ∷ pos 0 ∷ pos 0 ∷ pos 2 ∷ pos 4 ∷ pos 6 ∷ pos 0 ∷ pos 0 ∷ pos 0 ∷ []) (negsuc 0 ∷ negsuc 2 ∷ negsuc 4 ∷ pos 0 ∷ pos 0 ∷ pos 0 ∷ pos 2 ∷ pos 4 ∷ pos 6 ∷ pos 0 ∷ pos 0 ∷ pos 0 ∷ []) 0
unfolding sheet3 everything
reach_of_no_ticks = refl

reach_over_three_parts : reach_file sheet4 1 1 Baseline (pos 50 ∷ pos 0 ∷ pos 0 ∷ pos 0 ∷ pos 0 ∷ pos 0 ∷ pos 50 ∷ pos 40 ∷ pos 0 ∷ pos 0 ∷ pos 0 ∷ pos 0 ∷ []) ≡ answered (pos 45 ∷ negsuc 2 ∷ pos 0 ∷ pos 0 ∷ pos 0 ∷ pos 0 ∷ pos 59 ∷ pos 41 ∷ pos 0 ∷ pos 0 ∷ pos 0 ∷ pos 0 ∷ []) (pos 45 ∷ negsuc 2 ∷ pos 0 ∷ pos 0 ∷ pos 0 ∷ pos 0 ∷ pos 59 ∷ pos 41 ∷ pos 0 ∷ pos 0 ∷ pos 0 ∷ pos 0 ∷ []) 1
unfolding sheet4 everything
reach_over_three_parts = refl

reach_over_parts_in_longer_steps : reach_file sheet4 5 2 (one_command (negsuc 2)) (pos 50 ∷ pos 4 ∷ pos 0 ∷ pos 0 ∷ pos 0 ∷ pos 0 ∷ pos 50 ∷ pos 40 ∷ pos 0 ∷ pos 0 ∷ pos 0 ∷ pos 0 ∷ []) ≡ answered (pos 4 ∷ negsuc 14 ∷ pos 0 ∷ pos 0 ∷ pos 0 ∷ pos 0 ∷ pos 95 ∷ pos 40 ∷ pos 0 ∷ pos 0 ∷ pos 0 ∷ pos 0 ∷ []) (pos 4 ∷ negsuc 15 ∷ pos 0 ∷ pos 0 ∷ pos 0 ∷ pos 0 ∷ pos 95 ∷ pos 40 ∷ pos 0 ∷ pos 0 ∷ pos 0 ∷ pos 0 ∷ []) 6
unfolding sheet4 everything
reach_over_parts_in_longer_steps = refl

reach_up_to_an_edge : reach_file sheet4 1 1 Baseline (pos 50 ∷ pos 20 ∷ pos 0 ∷ pos 0 ∷ pos 0 ∷ pos 0 ∷ pos 50 ∷ pos 34 ∷ pos 0 ∷ pos 0 ∷ pos 0 ∷ pos 0 ∷ []) ≡ answered (pos 48 ∷ pos 17 ∷ pos 0 ∷ pos 0 ∷ pos 0 ∷ pos 0 ∷ pos 57 ∷ pos 34 ∷ pos 0 ∷ pos 0 ∷ pos 0 ∷ pos 0 ∷ []) (pos 48 ∷ pos 17 ∷ pos 0 ∷ pos 0 ∷ pos 0 ∷ pos 0 ∷ pos 57 ∷ pos 34 ∷ pos 0 ∷ pos 0 ∷ pos 0 ∷ pos 0 ∷ []) 1
unfolding sheet4 everything
reach_up_to_an_edge = refl

reach_up_to_just_below_an_edge : reach_file sheet4 1 1 Baseline (pos 50 ∷ pos 20 ∷ pos 0 ∷ pos 0 ∷ pos 0 ∷ pos 0 ∷ pos 50 ∷ pos 33 ∷ pos 0 ∷ pos 0 ∷ pos 0 ∷ pos 0 ∷ []) ≡ answered (pos 48 ∷ pos 17 ∷ pos 0 ∷ pos 0 ∷ pos 0 ∷ pos 0 ∷ pos 52 ∷ pos 33 ∷ pos 0 ∷ pos 0 ∷ pos 0 ∷ pos 0 ∷ []) (pos 48 ∷ pos 17 ∷ pos 0 ∷ pos 0 ∷ pos 0 ∷ pos 0 ∷ pos 52 ∷ pos 33 ∷ pos 0 ∷ pos 0 ∷ pos 0 ∷ pos 0 ∷ []) 1
unfolding sheet4 everything
reach_up_to_just_below_an_edge = refl

reach_with_edges_at_its_depths : reach_file sheet5 1 1 Baseline (pos 0 ∷ pos 0 ∷ pos 0 ∷ pos 0 ∷ pos 0 ∷ pos 0 ∷ pos 40 ∷ pos 0 ∷ pos 0 ∷ pos 0 ∷ pos 0 ∷ pos 0 ∷ []) ≡ answered (negsuc 1 ∷ pos 0 ∷ pos 0 ∷ pos 0 ∷ pos 0 ∷ pos 0 ∷ pos 42 ∷ pos 0 ∷ pos 0 ∷ pos 0 ∷ pos 0 ∷ pos 0 ∷ []) (negsuc 1 ∷ pos 0 ∷ pos 0 ∷ pos 0 ∷ pos 0 ∷ pos 0 ∷ pos 42 ∷ pos 0 ∷ pos 0 ∷ pos 0 ∷ pos 0 ∷ pos 0 ∷ []) 1
unfolding sheet5 everything
reach_with_edges_at_its_depths = refl

reach_with_edges_beyond_its_depths : reach_file sheet6 1 1 Baseline (pos 0 ∷ pos 0 ∷ pos 0 ∷ pos 0 ∷ pos 0 ∷ pos 0 ∷ pos 40 ∷ pos 0 ∷ pos 0 ∷ pos 0 ∷ pos 0 ∷ pos 0 ∷ []) ≡ answered (pos 0 ∷ pos 0 ∷ pos 0 ∷ pos 0 ∷ pos 0 ∷ pos 0 ∷ pos 40 ∷ pos 0 ∷ pos 0 ∷ pos 0 ∷ pos 0 ∷ pos 0 ∷ []) (pos 0 ∷ pos 0 ∷ pos 0 ∷ pos 0 ∷ pos 0 ∷ pos 0 ∷ pos 40 ∷ pos 0 ∷ pos 0 ∷ pos 0 ∷ pos 0 ∷ pos 0 ∷ []) 1
unfolding sheet6 everything
reach_with_edges_beyond_its_depths = refl

refused_reach : reach_file sheet3 1001 1 (one_command (pos 6)) (pos 0 ∷ pos 0 ∷ pos 0 ∷ pos 0 ∷ pos 0 ∷ pos 0 ∷ pos 0 ∷ pos 0 ∷ pos 0 ∷ pos 0 ∷ pos 0 ∷ pos 0 ∷ []) ≡ refused 16
unfolding sheet3 everything
refused_reach = refl

reach_at_its_caps : reach_file sheet7 1 1 Baseline (negsuc 34 ∷ negsuc 31 ∷ pos 29 ∷ pos 0 ∷ pos 0 ∷ pos 0 ∷ pos 35 ∷ pos 32 ∷ pos 39 ∷ pos 0 ∷ pos 0 ∷ pos 0 ∷ []) ≡ answered (negsuc 39 ∷ negsuc 36 ∷ pos 24 ∷ negsuc 4 ∷ pos 0 ∷ pos 0 ∷ pos 40 ∷ pos 37 ∷ pos 36 ∷ pos 5 ∷ pos 0 ∷ pos 0 ∷ []) (negsuc 39 ∷ negsuc 36 ∷ pos 24 ∷ negsuc 4 ∷ pos 0 ∷ pos 0 ∷ pos 40 ∷ pos 37 ∷ pos 39 ∷ pos 5 ∷ pos 0 ∷ pos 0 ∷ []) 1
unfolding sheet7 everything
reach_at_its_caps = refl

reach_just_within_its_caps : reach_file sheet7 1 1 (one_command (pos 1)) (negsuc 33 ∷ negsuc 30 ∷ pos 38 ∷ pos 0 ∷ pos 0 ∷ pos 0 ∷ pos 34 ∷ pos 31 ∷ pos 38 ∷ pos 0 ∷ pos 0 ∷ pos 0 ∷ []) ≡ answered (negsuc 38 ∷ negsuc 35 ∷ pos 33 ∷ pos 1 ∷ pos 0 ∷ pos 0 ∷ pos 39 ∷ pos 36 ∷ pos 34 ∷ pos 1 ∷ pos 0 ∷ pos 0 ∷ []) (negsuc 38 ∷ negsuc 35 ∷ pos 33 ∷ pos 0 ∷ pos 0 ∷ pos 0 ∷ pos 39 ∷ pos 36 ∷ pos 38 ∷ pos 1 ∷ pos 0 ∷ pos 0 ∷ []) 1
unfolding sheet7 everything
reach_just_within_its_caps = refl

reach_beyond_its_caps : reach_file sheet7 1 1 (one_command (pos 5)) (pos 34 ∷ pos 38 ∷ negsuc 30 ∷ pos 9 ∷ pos 0 ∷ pos 0 ∷ pos 35 ∷ pos 39 ∷ negsuc 30 ∷ pos 9 ∷ pos 0 ∷ pos 0 ∷ []) ≡ answered (pos 38 ∷ pos 43 ∷ negsuc 25 ∷ pos 14 ∷ pos 0 ∷ pos 0 ∷ pos 40 ∷ pos 44 ∷ negsuc 25 ∷ pos 14 ∷ pos 0 ∷ pos 0 ∷ []) (pos 34 ∷ pos 38 ∷ negsuc 30 ∷ pos 9 ∷ pos 0 ∷ pos 0 ∷ pos 40 ∷ pos 44 ∷ negsuc 25 ∷ pos 14 ∷ pos 0 ∷ pos 0 ∷ []) 1
unfolding sheet7 everything
reach_beyond_its_caps = refl

reach_at_its_other_caps : reach_file sheet7 1 1 (one_command (negsuc 4)) (negsuc 35 ∷ negsuc 37 ∷ pos 38 ∷ pos 9 ∷ pos 0 ∷ pos 0 ∷ negsuc 34 ∷ negsuc 37 ∷ pos 39 ∷ pos 9 ∷ pos 0 ∷ pos 0 ∷ []) ≡ answered (negsuc 40 ∷ negsuc 42 ∷ pos 33 ∷ pos 4 ∷ pos 0 ∷ pos 0 ∷ negsuc 39 ∷ negsuc 42 ∷ pos 35 ∷ pos 4 ∷ pos 0 ∷ pos 0 ∷ []) (negsuc 40 ∷ negsuc 42 ∷ pos 33 ∷ pos 4 ∷ pos 0 ∷ pos 0 ∷ negsuc 34 ∷ negsuc 37 ∷ pos 39 ∷ pos 9 ∷ pos 0 ∷ pos 0 ∷ []) 1
unfolding sheet7 everything
reach_at_its_other_caps = refl

reach_around_zero : reach_file sheet7 1 1 (one_command (pos 0)) (negsuc 0 ∷ pos 3 ∷ pos 4 ∷ pos 9 ∷ pos 0 ∷ pos 0 ∷ pos 1 ∷ pos 4 ∷ pos 4 ∷ pos 9 ∷ pos 0 ∷ pos 0 ∷ []) ≡ answered (negsuc 1 ∷ pos 3 ∷ pos 4 ∷ pos 9 ∷ pos 0 ∷ pos 0 ∷ pos 2 ∷ pos 5 ∷ pos 4 ∷ pos 9 ∷ pos 0 ∷ pos 0 ∷ []) (negsuc 1 ∷ pos 3 ∷ pos 4 ∷ pos 9 ∷ pos 0 ∷ pos 0 ∷ pos 2 ∷ pos 5 ∷ pos 4 ∷ pos 9 ∷ pos 0 ∷ pos 0 ∷ []) 1
unfolding sheet7 everything
reach_around_zero = refl

reach_just_off_zero : reach_file sheet7 1 1 (one_command (negsuc 0)) (pos 1 ∷ negsuc 3 ∷ pos 5 ∷ pos 9 ∷ pos 0 ∷ pos 0 ∷ pos 1 ∷ negsuc 3 ∷ pos 5 ∷ pos 9 ∷ pos 0 ∷ pos 0 ∷ []) ≡ answered (pos 1 ∷ negsuc 4 ∷ pos 4 ∷ pos 8 ∷ pos 0 ∷ pos 0 ∷ pos 2 ∷ negsuc 3 ∷ pos 5 ∷ pos 8 ∷ pos 0 ∷ pos 0 ∷ []) (pos 1 ∷ negsuc 4 ∷ pos 4 ∷ pos 8 ∷ pos 0 ∷ pos 0 ∷ pos 2 ∷ negsuc 3 ∷ pos 5 ∷ pos 9 ∷ pos 0 ∷ pos 0 ∷ []) 1
unfolding sheet7 everything
reach_just_off_zero = refl

reach_within_caps_of_three_bands : reach_file sheet8 1 1 Baseline (pos 50 ∷ pos 0 ∷ pos 0 ∷ pos 0 ∷ pos 0 ∷ pos 0 ∷ pos 50 ∷ pos 10 ∷ pos 0 ∷ pos 0 ∷ pos 0 ∷ pos 0 ∷ []) ≡ answered (pos 45 ∷ pos 0 ∷ pos 0 ∷ pos 0 ∷ pos 0 ∷ pos 0 ∷ pos 55 ∷ pos 10 ∷ pos 0 ∷ pos 0 ∷ pos 0 ∷ pos 0 ∷ []) (pos 45 ∷ pos 0 ∷ pos 0 ∷ pos 0 ∷ pos 0 ∷ pos 0 ∷ pos 55 ∷ pos 10 ∷ pos 0 ∷ pos 0 ∷ pos 0 ∷ pos 0 ∷ []) 1
unfolding sheet8 everything
reach_within_caps_of_three_bands = refl

reach_within_caps_of_two_bands : reach_file sheet8 1 1 Baseline (pos 50 ∷ pos 4 ∷ pos 0 ∷ pos 0 ∷ pos 0 ∷ pos 0 ∷ pos 50 ∷ pos 10 ∷ pos 0 ∷ pos 0 ∷ pos 0 ∷ pos 0 ∷ []) ≡ answered (pos 54 ∷ pos 4 ∷ pos 0 ∷ pos 0 ∷ pos 0 ∷ pos 0 ∷ pos 55 ∷ pos 10 ∷ pos 0 ∷ pos 0 ∷ pos 0 ∷ pos 0 ∷ []) (pos 50 ∷ pos 4 ∷ pos 0 ∷ pos 0 ∷ pos 0 ∷ pos 0 ∷ pos 55 ∷ pos 10 ∷ pos 0 ∷ pos 0 ∷ pos 0 ∷ pos 0 ∷ []) 1
unfolding sheet8 everything
reach_within_caps_of_two_bands = refl

reach_from_cap_to_cap : reach_file sheet9 13 2 Baseline (pos 0 ∷ negsuc 5 ∷ pos 0 ∷ pos 0 ∷ pos 0 ∷ pos 0 ∷ pos 0 ∷ negsuc 4 ∷ pos 0 ∷ pos 0 ∷ pos 0 ∷ pos 0 ∷ []) ≡ answered (negsuc 13 ∷ pos 7 ∷ pos 0 ∷ pos 0 ∷ pos 0 ∷ pos 0 ∷ pos 17 ∷ pos 8 ∷ pos 0 ∷ pos 0 ∷ pos 0 ∷ pos 0 ∷ []) (negsuc 23 ∷ negsuc 5 ∷ pos 0 ∷ pos 0 ∷ pos 0 ∷ pos 0 ∷ pos 17 ∷ pos 8 ∷ pos 0 ∷ pos 0 ∷ pos 0 ∷ pos 0 ∷ []) 15
unfolding sheet9 everything
reach_from_cap_to_cap = refl

column_with_free_laws : reach_file sheet10 1 1 Baseline (pos 0 ∷ negsuc 0 ∷ pos 0 ∷ negsuc 1 ∷ pos 1 ∷ negsuc 2 ∷ pos 2 ∷ pos 1 ∷ pos 3 ∷ pos 0 ∷ pos 2 ∷ negsuc 2 ∷ []) ≡ answered (negsuc 1 ∷ negsuc 1 ∷ negsuc 1 ∷ negsuc 2 ∷ pos 0 ∷ negsuc 2 ∷ pos 3 ∷ pos 3 ∷ pos 4 ∷ pos 1 ∷ pos 3 ∷ negsuc 1 ∷ []) (negsuc 1 ∷ negsuc 1 ∷ negsuc 1 ∷ negsuc 2 ∷ pos 0 ∷ negsuc 2 ∷ pos 3 ∷ pos 3 ∷ pos 4 ∷ pos 1 ∷ pos 3 ∷ negsuc 1 ∷ []) 1
unfolding sheet10 everything
column_with_free_laws = refl

column_at_its_least : reach_file sheet10 1 1 Baseline (pos 20 ∷ pos 0 ∷ pos 0 ∷ pos 2 ∷ pos 0 ∷ pos 1 ∷ pos 30 ∷ pos 3 ∷ pos 4 ∷ pos 3 ∷ pos 0 ∷ pos 2 ∷ []) ≡ answered (pos 16 ∷ pos 1 ∷ negsuc 1 ∷ pos 1 ∷ pos 1 ∷ pos 0 ∷ pos 26 ∷ pos 6 ∷ pos 5 ∷ pos 3 ∷ pos 2 ∷ pos 2 ∷ []) (pos 16 ∷ pos 0 ∷ negsuc 1 ∷ pos 1 ∷ pos 0 ∷ pos 0 ∷ pos 30 ∷ pos 6 ∷ pos 5 ∷ pos 3 ∷ pos 2 ∷ pos 2 ∷ []) 1
unfolding sheet10 everything
column_at_its_least = refl

column_at_its_greatest : reach_file sheet10 1 1 Baseline (negsuc 29 ∷ pos 4 ∷ negsuc 8 ∷ pos 0 ∷ negsuc 4 ∷ pos 7 ∷ negsuc 19 ∷ pos 9 ∷ negsuc 1 ∷ pos 6 ∷ pos 5 ∷ pos 8 ∷ []) ≡ answered (negsuc 25 ∷ pos 0 ∷ negsuc 8 ∷ negsuc 1 ∷ negsuc 8 ∷ pos 5 ∷ negsuc 15 ∷ pos 7 ∷ pos 1 ∷ pos 7 ∷ pos 6 ∷ pos 7 ∷ []) (negsuc 29 ∷ pos 0 ∷ negsuc 8 ∷ negsuc 1 ∷ negsuc 8 ∷ pos 5 ∷ negsuc 15 ∷ pos 9 ∷ pos 1 ∷ pos 7 ∷ pos 6 ∷ pos 8 ∷ []) 1
unfolding sheet10 everything
column_at_its_greatest = refl

column_over_three_bands : reach_file sheet10 2 2 Baseline (negsuc 1 ∷ negsuc 2 ∷ negsuc 7 ∷ negsuc 0 ∷ pos 0 ∷ negsuc 1 ∷ pos 2 ∷ pos 3 ∷ pos 10 ∷ pos 2 ∷ pos 1 ∷ pos 2 ∷ []) ≡ answered (negsuc 7 ∷ negsuc 8 ∷ negsuc 11 ∷ negsuc 4 ∷ negsuc 7 ∷ negsuc 5 ∷ pos 10 ∷ pos 9 ∷ pos 14 ∷ pos 6 ∷ pos 7 ∷ pos 6 ∷ []) (negsuc 7 ∷ negsuc 8 ∷ negsuc 11 ∷ negsuc 4 ∷ negsuc 7 ∷ negsuc 5 ∷ pos 10 ∷ pos 9 ∷ pos 14 ∷ pos 6 ∷ pos 7 ∷ pos 6 ∷ []) 4
unfolding sheet10 everything
column_over_three_bands = refl

column_commanded : reach_file sheet10 1 1 (one_command (pos 7)) (negsuc 1 ∷ negsuc 2 ∷ negsuc 7 ∷ negsuc 0 ∷ pos 0 ∷ negsuc 1 ∷ pos 2 ∷ pos 3 ∷ pos 10 ∷ pos 2 ∷ pos 1 ∷ pos 2 ∷ []) ≡ answered (negsuc 0 ∷ negsuc 5 ∷ negsuc 7 ∷ negsuc 0 ∷ negsuc 2 ∷ negsuc 2 ∷ pos 5 ∷ pos 3 ∷ pos 11 ∷ pos 4 ∷ negsuc 0 ∷ pos 3 ∷ []) (negsuc 1 ∷ negsuc 5 ∷ negsuc 7 ∷ negsuc 0 ∷ negsuc 2 ∷ negsuc 2 ∷ pos 5 ∷ pos 3 ∷ pos 11 ∷ pos 4 ∷ pos 1 ∷ pos 3 ∷ []) 1
unfolding sheet10 everything
column_commanded = refl

ticks_0 : reach_file file_a 0 1 Baseline (pos 95 ∷ pos 0 ∷ pos 0 ∷ pos 0 ∷ pos 0 ∷ pos 0 ∷ pos 100 ∷ pos 0 ∷ pos 0 ∷ pos 0 ∷ pos 0 ∷ pos 0 ∷ []) ≡ answered (pos 95 ∷ pos 0 ∷ pos 0 ∷ pos 0 ∷ pos 0 ∷ pos 0 ∷ pos 100 ∷ pos 0 ∷ pos 0 ∷ pos 0 ∷ pos 0 ∷ pos 0 ∷ []) (pos 95 ∷ pos 0 ∷ pos 0 ∷ pos 0 ∷ pos 0 ∷ pos 0 ∷ pos 100 ∷ pos 0 ∷ pos 0 ∷ pos 0 ∷ pos 0 ∷ pos 0 ∷ []) 0
unfolding everything
ticks_0 = refl

ticks_1 : reach_file file_a 1 1 Baseline (pos 95 ∷ pos 0 ∷ pos 0 ∷ pos 0 ∷ pos 0 ∷ pos 0 ∷ pos 100 ∷ pos 0 ∷ pos 0 ∷ pos 0 ∷ pos 0 ∷ pos 0 ∷ []) ≡ answered (pos 90 ∷ pos 0 ∷ pos 0 ∷ pos 0 ∷ pos 0 ∷ pos 0 ∷ pos 96 ∷ pos 0 ∷ pos 0 ∷ pos 0 ∷ pos 0 ∷ pos 0 ∷ []) (pos 90 ∷ pos 0 ∷ pos 0 ∷ pos 0 ∷ pos 0 ∷ pos 0 ∷ pos 100 ∷ pos 0 ∷ pos 0 ∷ pos 0 ∷ pos 0 ∷ pos 0 ∷ []) 1
unfolding everything
ticks_1 = refl

ticks_1000 : reach_file file_a 1000 1000 Baseline (pos 95 ∷ pos 0 ∷ pos 0 ∷ pos 0 ∷ pos 0 ∷ pos 0 ∷ pos 100 ∷ pos 0 ∷ pos 0 ∷ pos 0 ∷ pos 0 ∷ pos 0 ∷ []) ≡ answered (negsuc 4904 ∷ pos 0 ∷ pos 0 ∷ pos 0 ∷ pos 0 ∷ pos 0 ∷ pos 5100 ∷ pos 0 ∷ pos 0 ∷ pos 0 ∷ pos 0 ∷ pos 0 ∷ []) (negsuc 4904 ∷ pos 0 ∷ pos 0 ∷ pos 0 ∷ pos 0 ∷ pos 0 ∷ pos 5100 ∷ pos 0 ∷ pos 0 ∷ pos 0 ∷ pos 0 ∷ pos 0 ∷ []) 3
unfolding everything
ticks_1000 = refl

ticks_1001 : reach_file file_a 1001 1000 Baseline (pos 95 ∷ pos 0 ∷ pos 0 ∷ pos 0 ∷ pos 0 ∷ pos 0 ∷ pos 100 ∷ pos 0 ∷ pos 0 ∷ pos 0 ∷ pos 0 ∷ pos 0 ∷ []) ≡ refused 16
unfolding everything
ticks_1001 = refl

width_0 : reach_file file_a 1 0 Baseline (pos 95 ∷ pos 0 ∷ pos 0 ∷ pos 0 ∷ pos 0 ∷ pos 0 ∷ pos 100 ∷ pos 0 ∷ pos 0 ∷ pos 0 ∷ pos 0 ∷ pos 0 ∷ []) ≡ refused 16
unfolding everything
width_0 = refl

width_1 : reach_file file_a 2 1 Baseline (pos 95 ∷ pos 0 ∷ pos 0 ∷ pos 0 ∷ pos 0 ∷ pos 0 ∷ pos 100 ∷ pos 0 ∷ pos 0 ∷ pos 0 ∷ pos 0 ∷ pos 0 ∷ []) ≡ answered (pos 85 ∷ pos 0 ∷ pos 0 ∷ pos 0 ∷ pos 0 ∷ pos 0 ∷ pos 92 ∷ pos 0 ∷ pos 0 ∷ pos 0 ∷ pos 0 ∷ pos 0 ∷ []) (pos 85 ∷ pos 0 ∷ pos 0 ∷ pos 0 ∷ pos 0 ∷ pos 0 ∷ pos 100 ∷ pos 0 ∷ pos 0 ∷ pos 0 ∷ pos 0 ∷ pos 0 ∷ []) 2
unfolding everything
width_1 = refl

width_1000 : reach_file file_a 2 1000 Baseline (pos 95 ∷ pos 0 ∷ pos 0 ∷ pos 0 ∷ pos 0 ∷ pos 0 ∷ pos 100 ∷ pos 0 ∷ pos 0 ∷ pos 0 ∷ pos 0 ∷ pos 0 ∷ []) ≡ answered (pos 85 ∷ pos 0 ∷ pos 0 ∷ pos 0 ∷ pos 0 ∷ pos 0 ∷ pos 92 ∷ pos 0 ∷ pos 0 ∷ pos 0 ∷ pos 0 ∷ pos 0 ∷ []) (pos 85 ∷ pos 0 ∷ pos 0 ∷ pos 0 ∷ pos 0 ∷ pos 0 ∷ pos 100 ∷ pos 0 ∷ pos 0 ∷ pos 0 ∷ pos 0 ∷ pos 0 ∷ []) 2
unfolding everything
width_1000 = refl

width_1001 : reach_file file_a 2 1001 Baseline (pos 95 ∷ pos 0 ∷ pos 0 ∷ pos 0 ∷ pos 0 ∷ pos 0 ∷ pos 100 ∷ pos 0 ∷ pos 0 ∷ pos 0 ∷ pos 0 ∷ pos 0 ∷ []) ≡ refused 16
unfolding everything
width_1001 = refl

command_minus_25 : reach_file file_a 1 1 (one_command (negsuc 24)) (pos 95 ∷ pos 0 ∷ pos 0 ∷ pos 0 ∷ pos 0 ∷ pos 0 ∷ pos 100 ∷ pos 0 ∷ pos 0 ∷ pos 0 ∷ pos 0 ∷ pos 0 ∷ []) ≡ answered (pos 90 ∷ pos 0 ∷ pos 0 ∷ pos 0 ∷ pos 0 ∷ pos 0 ∷ pos 95 ∷ pos 0 ∷ pos 0 ∷ pos 0 ∷ pos 0 ∷ pos 0 ∷ []) (pos 90 ∷ pos 0 ∷ pos 0 ∷ pos 0 ∷ pos 0 ∷ pos 0 ∷ pos 100 ∷ pos 0 ∷ pos 0 ∷ pos 0 ∷ pos 0 ∷ pos 0 ∷ []) 1
unfolding everything
command_minus_25 = refl

command_minus_26 : reach_file file_a 1 1 (one_command (negsuc 25)) (pos 95 ∷ pos 0 ∷ pos 0 ∷ pos 0 ∷ pos 0 ∷ pos 0 ∷ pos 100 ∷ pos 0 ∷ pos 0 ∷ pos 0 ∷ pos 0 ∷ pos 0 ∷ []) ≡ refused 14
unfolding everything
command_minus_26 = refl

command_25 : reach_file file_a 1 1 (one_command (pos 25)) (pos 95 ∷ pos 0 ∷ pos 0 ∷ pos 0 ∷ pos 0 ∷ pos 0 ∷ pos 100 ∷ pos 0 ∷ pos 0 ∷ pos 0 ∷ pos 0 ∷ pos 0 ∷ []) ≡ answered (pos 95 ∷ pos 0 ∷ pos 0 ∷ pos 0 ∷ pos 0 ∷ pos 0 ∷ pos 101 ∷ pos 0 ∷ pos 0 ∷ pos 0 ∷ pos 0 ∷ pos 0 ∷ []) (pos 95 ∷ pos 0 ∷ pos 0 ∷ pos 0 ∷ pos 0 ∷ pos 0 ∷ pos 101 ∷ pos 0 ∷ pos 0 ∷ pos 0 ∷ pos 0 ∷ pos 0 ∷ []) 1
unfolding everything
command_25 = refl

command_26 : reach_file file_a 1 1 (one_command (pos 26)) (pos 95 ∷ pos 0 ∷ pos 0 ∷ pos 0 ∷ pos 0 ∷ pos 0 ∷ pos 100 ∷ pos 0 ∷ pos 0 ∷ pos 0 ∷ pos 0 ∷ pos 0 ∷ []) ≡ refused 14
unfolding everything
command_26 = refl

start_lower_minus_1000000 : reach_file file_a 1 1 Baseline (negsuc 999999 ∷ pos 0 ∷ pos 0 ∷ pos 0 ∷ pos 0 ∷ pos 0 ∷ pos 0 ∷ pos 0 ∷ pos 0 ∷ pos 0 ∷ pos 0 ∷ pos 0 ∷ []) ≡ answered (negsuc 999994 ∷ pos 0 ∷ pos 0 ∷ pos 0 ∷ pos 0 ∷ pos 0 ∷ pos 1 ∷ pos 0 ∷ pos 0 ∷ pos 0 ∷ pos 0 ∷ pos 0 ∷ []) (negsuc 999999 ∷ pos 0 ∷ pos 0 ∷ pos 0 ∷ pos 0 ∷ pos 0 ∷ pos 1 ∷ pos 0 ∷ pos 0 ∷ pos 0 ∷ pos 0 ∷ pos 0 ∷ []) 1
unfolding everything
start_lower_minus_1000000 = refl

start_lower_minus_1000001 : reach_file file_a 1 1 Baseline (negsuc 1000000 ∷ pos 0 ∷ pos 0 ∷ pos 0 ∷ pos 0 ∷ pos 0 ∷ pos 0 ∷ pos 0 ∷ pos 0 ∷ pos 0 ∷ pos 0 ∷ pos 0 ∷ []) ≡ refused 15
unfolding everything
start_lower_minus_1000001 = refl

start_upper_1000000 : reach_file file_a 1 1 Baseline (pos 0 ∷ pos 0 ∷ pos 0 ∷ pos 0 ∷ pos 0 ∷ pos 0 ∷ pos 1000000 ∷ pos 0 ∷ pos 0 ∷ pos 0 ∷ pos 0 ∷ pos 0 ∷ []) ≡ answered (negsuc 0 ∷ pos 0 ∷ pos 0 ∷ pos 0 ∷ pos 0 ∷ pos 0 ∷ pos 999995 ∷ pos 0 ∷ pos 0 ∷ pos 0 ∷ pos 0 ∷ pos 0 ∷ []) (negsuc 0 ∷ pos 0 ∷ pos 0 ∷ pos 0 ∷ pos 0 ∷ pos 0 ∷ pos 1000000 ∷ pos 0 ∷ pos 0 ∷ pos 0 ∷ pos 0 ∷ pos 0 ∷ []) 1
unfolding everything
start_upper_1000000 = refl

start_upper_1000001 : reach_file file_a 1 1 Baseline (pos 0 ∷ pos 0 ∷ pos 0 ∷ pos 0 ∷ pos 0 ∷ pos 0 ∷ pos 1000001 ∷ pos 0 ∷ pos 0 ∷ pos 0 ∷ pos 0 ∷ pos 0 ∷ []) ≡ refused 15
unfolding everything
start_upper_1000001 = refl

start_of_one_state : reach_file file_a 1 1 Baseline (pos 5 ∷ pos 0 ∷ pos 0 ∷ pos 0 ∷ pos 0 ∷ pos 0 ∷ pos 5 ∷ pos 0 ∷ pos 0 ∷ pos 0 ∷ pos 0 ∷ pos 0 ∷ []) ≡ answered (pos 4 ∷ pos 0 ∷ pos 0 ∷ pos 0 ∷ pos 0 ∷ pos 0 ∷ pos 5 ∷ pos 0 ∷ pos 0 ∷ pos 0 ∷ pos 0 ∷ pos 0 ∷ []) (pos 4 ∷ pos 0 ∷ pos 0 ∷ pos 0 ∷ pos 0 ∷ pos 0 ∷ pos 5 ∷ pos 0 ∷ pos 0 ∷ pos 0 ∷ pos 0 ∷ pos 0 ∷ []) 1
unfolding everything
start_of_one_state = refl

start_reversed : reach_file file_a 1 1 Baseline (pos 5 ∷ pos 0 ∷ pos 0 ∷ pos 0 ∷ pos 0 ∷ pos 0 ∷ pos 4 ∷ pos 0 ∷ pos 0 ∷ pos 0 ∷ pos 0 ∷ pos 0 ∷ []) ≡ refused 15
unfolding everything
start_reversed = refl

sheet_before_ticks : reach_file (take 69 file_a) 1001 1 Baseline (pos 95 ∷ pos 0 ∷ pos 0 ∷ pos 0 ∷ pos 0 ∷ pos 0 ∷ pos 100 ∷ pos 0 ∷ pos 0 ∷ pos 0 ∷ pos 0 ∷ pos 0 ∷ []) ≡ refused 5
unfolding everything
sheet_before_ticks = refl

order_before_ticks : reach_file (sets three_boxes 62 (0 ∷ 0 ∷ 0 ∷ 129 ∷ [])) 1001 1 Baseline (pos 95 ∷ pos 0 ∷ pos 0 ∷ pos 0 ∷ pos 0 ∷ pos 0 ∷ pos 100 ∷ pos 0 ∷ pos 0 ∷ pos 0 ∷ pos 0 ∷ pos 0 ∷ []) ≡ refused 20
unfolding three_boxes everything
order_before_ticks = refl

overlap_before_ticks : reach_file (sets file_a 52 (0 ∷ 0 ∷ 0 ∷ 100 ∷ [])) 1001 1 Baseline (pos 95 ∷ pos 0 ∷ pos 0 ∷ pos 0 ∷ pos 0 ∷ pos 0 ∷ pos 100 ∷ pos 0 ∷ pos 0 ∷ pos 0 ∷ pos 0 ∷ pos 0 ∷ []) ≡ refused 22
unfolding everything
overlap_before_ticks = refl

ticks_before_command : reach_file file_a 1001 1 (one_command (pos 26)) (pos 0 ∷ pos 0 ∷ pos 0 ∷ pos 0 ∷ pos 0 ∷ pos 0 ∷ pos 0 ∷ pos 0 ∷ pos 0 ∷ pos 0 ∷ pos 0 ∷ pos 0 ∷ []) ≡ refused 16
unfolding everything
ticks_before_command = refl

width_before_command : reach_file file_a 1 0 (one_command (pos 26)) (pos 0 ∷ pos 0 ∷ pos 0 ∷ pos 0 ∷ pos 0 ∷ pos 0 ∷ pos 0 ∷ pos 0 ∷ pos 0 ∷ pos 0 ∷ pos 0 ∷ pos 0 ∷ []) ≡ refused 16
unfolding everything
width_before_command = refl

command_before_start : reach_file file_a 1 1 (one_command (pos 26)) (pos 5 ∷ pos 0 ∷ pos 0 ∷ pos 0 ∷ pos 0 ∷ pos 0 ∷ pos 4 ∷ pos 0 ∷ pos 0 ∷ pos 0 ∷ pos 0 ∷ pos 0 ∷ []) ≡ refused 14
unfolding everything
command_before_start = refl

start_below_the_edge : reach_file (sets (sets two_bands 64 (0 ∷ 20 ∷ [])) 68 (0 ∷ 0 ∷ 0 ∷ 40 ∷ [])) 1 1 Baseline (negsuc 4 ∷ pos 0 ∷ pos 0 ∷ pos 0 ∷ pos 0 ∷ pos 0 ∷ negsuc 0 ∷ pos 0 ∷ pos 0 ∷ pos 0 ∷ pos 0 ∷ pos 0 ∷ []) ≡ answered (negsuc 4 ∷ pos 0 ∷ pos 0 ∷ pos 0 ∷ pos 0 ∷ pos 0 ∷ pos 0 ∷ pos 0 ∷ pos 0 ∷ pos 0 ∷ pos 0 ∷ pos 0 ∷ []) (negsuc 4 ∷ pos 0 ∷ pos 0 ∷ pos 0 ∷ pos 0 ∷ pos 0 ∷ pos 0 ∷ pos 0 ∷ pos 0 ∷ pos 0 ∷ pos 0 ∷ pos 0 ∷ []) 1
unfolding two_bands everything
start_below_the_edge = refl

start_up_to_the_edge : reach_file (sets (sets two_bands 64 (0 ∷ 20 ∷ [])) 68 (0 ∷ 0 ∷ 0 ∷ 40 ∷ [])) 1 1 Baseline (negsuc 4 ∷ pos 0 ∷ pos 0 ∷ pos 0 ∷ pos 0 ∷ pos 0 ∷ pos 0 ∷ pos 0 ∷ pos 0 ∷ pos 0 ∷ pos 0 ∷ pos 0 ∷ []) ≡ answered (negsuc 4 ∷ pos 0 ∷ pos 0 ∷ pos 0 ∷ pos 0 ∷ pos 0 ∷ pos 2 ∷ pos 0 ∷ pos 0 ∷ pos 0 ∷ pos 0 ∷ pos 0 ∷ []) (negsuc 4 ∷ pos 0 ∷ pos 0 ∷ pos 0 ∷ pos 0 ∷ pos 0 ∷ pos 2 ∷ pos 0 ∷ pos 0 ∷ pos 0 ∷ pos 0 ∷ pos 0 ∷ []) 1
unfolding two_bands everything
start_up_to_the_edge = refl

start_beyond_the_edge : reach_file (sets (sets two_bands 64 (0 ∷ 20 ∷ [])) 68 (0 ∷ 0 ∷ 0 ∷ 40 ∷ [])) 1 1 Baseline (negsuc 4 ∷ pos 0 ∷ pos 0 ∷ pos 0 ∷ pos 0 ∷ pos 0 ∷ pos 1 ∷ pos 0 ∷ pos 0 ∷ pos 0 ∷ pos 0 ∷ pos 0 ∷ []) ≡ answered (negsuc 4 ∷ pos 0 ∷ pos 0 ∷ pos 0 ∷ pos 0 ∷ pos 0 ∷ pos 4 ∷ pos 0 ∷ pos 0 ∷ pos 0 ∷ pos 0 ∷ pos 0 ∷ []) (negsuc 4 ∷ pos 0 ∷ pos 0 ∷ pos 0 ∷ pos 0 ∷ pos 0 ∷ pos 4 ∷ pos 0 ∷ pos 0 ∷ pos 0 ∷ pos 0 ∷ pos 0 ∷ []) 1
unfolding two_bands everything
start_beyond_the_edge = refl

start_from_the_edge : reach_file (sets (sets two_bands 64 (0 ∷ 20 ∷ [])) 68 (0 ∷ 0 ∷ 0 ∷ 40 ∷ [])) 1 1 Baseline (pos 0 ∷ pos 0 ∷ pos 0 ∷ pos 0 ∷ pos 0 ∷ pos 0 ∷ pos 1 ∷ pos 0 ∷ pos 0 ∷ pos 0 ∷ pos 0 ∷ pos 0 ∷ []) ≡ answered (pos 2 ∷ pos 0 ∷ pos 0 ∷ pos 0 ∷ pos 0 ∷ pos 0 ∷ pos 4 ∷ pos 0 ∷ pos 0 ∷ pos 0 ∷ pos 0 ∷ pos 0 ∷ []) (pos 0 ∷ pos 0 ∷ pos 0 ∷ pos 0 ∷ pos 0 ∷ pos 0 ∷ pos 4 ∷ pos 0 ∷ pos 0 ∷ pos 0 ∷ pos 0 ∷ pos 0 ∷ []) 1
unfolding two_bands everything
start_from_the_edge = refl

numerator_minus_4096001 : reach_file (sets (sets (sets (sets file_a 20 (3 ∷ 232 ∷ [])) 36 (0 ∷ 0 ∷ [])) 40 (255 ∷ 193 ∷ 127 ∷ 255 ∷ 0 ∷ 0 ∷ 0 ∷ 0 ∷ [])) 48 (16 ∷ 0 ∷ [])) 1 1 Baseline (pos 0 ∷ pos 0 ∷ pos 0 ∷ pos 0 ∷ pos 0 ∷ pos 0 ∷ pos 0 ∷ pos 0 ∷ pos 0 ∷ pos 0 ∷ pos 0 ∷ pos 0 ∷ []) ≡ answered (negsuc 999 ∷ pos 0 ∷ pos 0 ∷ pos 0 ∷ pos 0 ∷ pos 0 ∷ negsuc 999 ∷ pos 0 ∷ pos 0 ∷ pos 0 ∷ pos 0 ∷ pos 0 ∷ []) (negsuc 999 ∷ pos 0 ∷ pos 0 ∷ pos 0 ∷ pos 0 ∷ pos 0 ∷ pos 0 ∷ pos 0 ∷ pos 0 ∷ pos 0 ∷ pos 0 ∷ pos 0 ∷ []) 1
unfolding everything
numerator_minus_4096001 = refl

numerator_minus_4096000 : reach_file (sets (sets (sets (sets file_a 20 (3 ∷ 232 ∷ [])) 36 (0 ∷ 0 ∷ [])) 40 (255 ∷ 193 ∷ 128 ∷ 0 ∷ 0 ∷ 0 ∷ 0 ∷ 0 ∷ [])) 48 (16 ∷ 0 ∷ [])) 1 1 Baseline (pos 0 ∷ pos 0 ∷ pos 0 ∷ pos 0 ∷ pos 0 ∷ pos 0 ∷ pos 0 ∷ pos 0 ∷ pos 0 ∷ pos 0 ∷ pos 0 ∷ pos 0 ∷ []) ≡ answered (negsuc 999 ∷ pos 0 ∷ pos 0 ∷ pos 0 ∷ pos 0 ∷ pos 0 ∷ negsuc 999 ∷ pos 0 ∷ pos 0 ∷ pos 0 ∷ pos 0 ∷ pos 0 ∷ []) (negsuc 999 ∷ pos 0 ∷ pos 0 ∷ pos 0 ∷ pos 0 ∷ pos 0 ∷ pos 0 ∷ pos 0 ∷ pos 0 ∷ pos 0 ∷ pos 0 ∷ pos 0 ∷ []) 1
unfolding everything
numerator_minus_4096000 = refl

numerator_minus_4095999 : reach_file (sets (sets (sets (sets file_a 20 (3 ∷ 232 ∷ [])) 36 (0 ∷ 0 ∷ [])) 40 (255 ∷ 193 ∷ 128 ∷ 1 ∷ 0 ∷ 0 ∷ 0 ∷ 0 ∷ [])) 48 (16 ∷ 0 ∷ [])) 1 1 Baseline (pos 0 ∷ pos 0 ∷ pos 0 ∷ pos 0 ∷ pos 0 ∷ pos 0 ∷ pos 0 ∷ pos 0 ∷ pos 0 ∷ pos 0 ∷ pos 0 ∷ pos 0 ∷ []) ≡ answered (negsuc 999 ∷ pos 0 ∷ pos 0 ∷ pos 0 ∷ pos 0 ∷ pos 0 ∷ negsuc 998 ∷ pos 0 ∷ pos 0 ∷ pos 0 ∷ pos 0 ∷ pos 0 ∷ []) (negsuc 999 ∷ pos 0 ∷ pos 0 ∷ pos 0 ∷ pos 0 ∷ pos 0 ∷ pos 0 ∷ pos 0 ∷ pos 0 ∷ pos 0 ∷ pos 0 ∷ pos 0 ∷ []) 1
unfolding everything
numerator_minus_4095999 = refl

numerator_4095999 : reach_file (sets (sets (sets (sets file_a 20 (3 ∷ 232 ∷ [])) 36 (0 ∷ 0 ∷ [])) 40 (0 ∷ 62 ∷ 127 ∷ 255 ∷ 0 ∷ 0 ∷ 0 ∷ 0 ∷ [])) 48 (16 ∷ 0 ∷ [])) 1 1 Baseline (pos 0 ∷ pos 0 ∷ pos 0 ∷ pos 0 ∷ pos 0 ∷ pos 0 ∷ pos 0 ∷ pos 0 ∷ pos 0 ∷ pos 0 ∷ pos 0 ∷ pos 0 ∷ []) ≡ answered (pos 999 ∷ pos 0 ∷ pos 0 ∷ pos 0 ∷ pos 0 ∷ pos 0 ∷ pos 1000 ∷ pos 0 ∷ pos 0 ∷ pos 0 ∷ pos 0 ∷ pos 0 ∷ []) (pos 0 ∷ pos 0 ∷ pos 0 ∷ pos 0 ∷ pos 0 ∷ pos 0 ∷ pos 1000 ∷ pos 0 ∷ pos 0 ∷ pos 0 ∷ pos 0 ∷ pos 0 ∷ []) 1
unfolding everything
numerator_4095999 = refl

numerator_4096000 : reach_file (sets (sets (sets (sets file_a 20 (3 ∷ 232 ∷ [])) 36 (0 ∷ 0 ∷ [])) 40 (0 ∷ 62 ∷ 128 ∷ 0 ∷ 0 ∷ 0 ∷ 0 ∷ 0 ∷ [])) 48 (16 ∷ 0 ∷ [])) 1 1 Baseline (pos 0 ∷ pos 0 ∷ pos 0 ∷ pos 0 ∷ pos 0 ∷ pos 0 ∷ pos 0 ∷ pos 0 ∷ pos 0 ∷ pos 0 ∷ pos 0 ∷ pos 0 ∷ []) ≡ answered (pos 1000 ∷ pos 0 ∷ pos 0 ∷ pos 0 ∷ pos 0 ∷ pos 0 ∷ pos 1000 ∷ pos 0 ∷ pos 0 ∷ pos 0 ∷ pos 0 ∷ pos 0 ∷ []) (pos 0 ∷ pos 0 ∷ pos 0 ∷ pos 0 ∷ pos 0 ∷ pos 0 ∷ pos 1000 ∷ pos 0 ∷ pos 0 ∷ pos 0 ∷ pos 0 ∷ pos 0 ∷ []) 1
unfolding everything
numerator_4096000 = refl

numerator_4096001 : reach_file (sets (sets (sets (sets file_a 20 (3 ∷ 232 ∷ [])) 36 (0 ∷ 0 ∷ [])) 40 (0 ∷ 62 ∷ 128 ∷ 1 ∷ 0 ∷ 0 ∷ 0 ∷ 0 ∷ [])) 48 (16 ∷ 0 ∷ [])) 1 1 Baseline (pos 0 ∷ pos 0 ∷ pos 0 ∷ pos 0 ∷ pos 0 ∷ pos 0 ∷ pos 0 ∷ pos 0 ∷ pos 0 ∷ pos 0 ∷ pos 0 ∷ pos 0 ∷ []) ≡ answered (pos 1000 ∷ pos 0 ∷ pos 0 ∷ pos 0 ∷ pos 0 ∷ pos 0 ∷ pos 1000 ∷ pos 0 ∷ pos 0 ∷ pos 0 ∷ pos 0 ∷ pos 0 ∷ []) (pos 0 ∷ pos 0 ∷ pos 0 ∷ pos 0 ∷ pos 0 ∷ pos 0 ∷ pos 1000 ∷ pos 0 ∷ pos 0 ∷ pos 0 ∷ pos 0 ∷ pos 0 ∷ []) 1
unfolding everything
numerator_4096001 = refl

spread_4095999 : reach_file (sets (sets (sets (sets file_a 20 (3 ∷ 232 ∷ [])) 36 (0 ∷ 0 ∷ [])) 40 (0 ∷ 0 ∷ 0 ∷ 0 ∷ 0 ∷ 62 ∷ 127 ∷ 255 ∷ [])) 48 (16 ∷ 0 ∷ [])) 1 1 Baseline (pos 0 ∷ pos 0 ∷ pos 0 ∷ pos 0 ∷ pos 0 ∷ pos 0 ∷ pos 0 ∷ pos 0 ∷ pos 0 ∷ pos 0 ∷ pos 0 ∷ pos 0 ∷ []) ≡ answered (negsuc 999 ∷ pos 0 ∷ pos 0 ∷ pos 0 ∷ pos 0 ∷ pos 0 ∷ pos 1000 ∷ pos 0 ∷ pos 0 ∷ pos 0 ∷ pos 0 ∷ pos 0 ∷ []) (negsuc 999 ∷ pos 0 ∷ pos 0 ∷ pos 0 ∷ pos 0 ∷ pos 0 ∷ pos 1000 ∷ pos 0 ∷ pos 0 ∷ pos 0 ∷ pos 0 ∷ pos 0 ∷ []) 1
unfolding everything
spread_4095999 = refl

spread_4096000 : reach_file (sets (sets (sets (sets file_a 20 (3 ∷ 232 ∷ [])) 36 (0 ∷ 0 ∷ [])) 40 (0 ∷ 0 ∷ 0 ∷ 0 ∷ 0 ∷ 62 ∷ 128 ∷ 0 ∷ [])) 48 (16 ∷ 0 ∷ [])) 1 1 Baseline (pos 0 ∷ pos 0 ∷ pos 0 ∷ pos 0 ∷ pos 0 ∷ pos 0 ∷ pos 0 ∷ pos 0 ∷ pos 0 ∷ pos 0 ∷ pos 0 ∷ pos 0 ∷ []) ≡ answered (negsuc 999 ∷ pos 0 ∷ pos 0 ∷ pos 0 ∷ pos 0 ∷ pos 0 ∷ pos 1000 ∷ pos 0 ∷ pos 0 ∷ pos 0 ∷ pos 0 ∷ pos 0 ∷ []) (negsuc 999 ∷ pos 0 ∷ pos 0 ∷ pos 0 ∷ pos 0 ∷ pos 0 ∷ pos 1000 ∷ pos 0 ∷ pos 0 ∷ pos 0 ∷ pos 0 ∷ pos 0 ∷ []) 1
unfolding everything
spread_4096000 = refl

spread_4096001 : reach_file (sets (sets (sets (sets file_a 20 (3 ∷ 232 ∷ [])) 36 (0 ∷ 0 ∷ [])) 40 (0 ∷ 0 ∷ 0 ∷ 0 ∷ 0 ∷ 62 ∷ 128 ∷ 1 ∷ [])) 48 (16 ∷ 0 ∷ [])) 1 1 Baseline (pos 0 ∷ pos 0 ∷ pos 0 ∷ pos 0 ∷ pos 0 ∷ pos 0 ∷ pos 0 ∷ pos 0 ∷ pos 0 ∷ pos 0 ∷ pos 0 ∷ pos 0 ∷ []) ≡ answered (negsuc 999 ∷ pos 0 ∷ pos 0 ∷ pos 0 ∷ pos 0 ∷ pos 0 ∷ pos 1000 ∷ pos 0 ∷ pos 0 ∷ pos 0 ∷ pos 0 ∷ pos 0 ∷ []) (negsuc 999 ∷ pos 0 ∷ pos 0 ∷ pos 0 ∷ pos 0 ∷ pos 0 ∷ pos 1000 ∷ pos 0 ∷ pos 0 ∷ pos 0 ∷ pos 0 ∷ pos 0 ∷ []) 1
unfolding everything
spread_4096001 = refl

law_sum_minus_100 : reach_file (sets (sets (sets (sets (sets (sets following 28 (255 ∷ 255 ∷ 255 ∷ 251 ∷ 0 ∷ 0 ∷ 0 ∷ 5 ∷ [])) 38 (255 ∷ 255 ∷ 255 ∷ 163 ∷ [])) 42 (0 ∷ 20 ∷ [])) 44 (0 ∷ 0 ∷ [])) 46 (0 ∷ 1 ∷ [])) 56 (0 ∷ 1 ∷ [])) 1 1 Baseline (pos 7 ∷ pos 0 ∷ pos 0 ∷ pos 0 ∷ pos 0 ∷ pos 0 ∷ pos 7 ∷ pos 0 ∷ pos 0 ∷ pos 0 ∷ pos 0 ∷ pos 0 ∷ []) ≡ answered (pos 2 ∷ pos 0 ∷ pos 0 ∷ pos 0 ∷ pos 0 ∷ pos 0 ∷ pos 2 ∷ pos 0 ∷ pos 0 ∷ pos 0 ∷ pos 0 ∷ pos 0 ∷ []) (pos 2 ∷ pos 0 ∷ pos 0 ∷ pos 0 ∷ pos 0 ∷ pos 0 ∷ pos 7 ∷ pos 0 ∷ pos 0 ∷ pos 0 ∷ pos 0 ∷ pos 0 ∷ []) 1
unfolding following everything
law_sum_minus_100 = refl

law_sum_minus_99 : reach_file (sets (sets (sets (sets (sets (sets following 28 (255 ∷ 255 ∷ 255 ∷ 251 ∷ 0 ∷ 0 ∷ 0 ∷ 5 ∷ [])) 38 (255 ∷ 255 ∷ 255 ∷ 164 ∷ [])) 42 (0 ∷ 20 ∷ [])) 44 (0 ∷ 0 ∷ [])) 46 (0 ∷ 1 ∷ [])) 56 (0 ∷ 1 ∷ [])) 1 1 Baseline (pos 7 ∷ pos 0 ∷ pos 0 ∷ pos 0 ∷ pos 0 ∷ pos 0 ∷ pos 7 ∷ pos 0 ∷ pos 0 ∷ pos 0 ∷ pos 0 ∷ pos 0 ∷ []) ≡ answered (pos 2 ∷ pos 0 ∷ pos 0 ∷ pos 0 ∷ pos 0 ∷ pos 0 ∷ pos 3 ∷ pos 0 ∷ pos 0 ∷ pos 0 ∷ pos 0 ∷ pos 0 ∷ []) (pos 2 ∷ pos 0 ∷ pos 0 ∷ pos 0 ∷ pos 0 ∷ pos 0 ∷ pos 7 ∷ pos 0 ∷ pos 0 ∷ pos 0 ∷ pos 0 ∷ pos 0 ∷ []) 1
unfolding following everything
law_sum_minus_99 = refl

law_sum_minus_1 : reach_file (sets (sets (sets (sets (sets (sets following 28 (255 ∷ 255 ∷ 255 ∷ 251 ∷ 0 ∷ 0 ∷ 0 ∷ 5 ∷ [])) 38 (0 ∷ 0 ∷ 0 ∷ 6 ∷ [])) 42 (0 ∷ 20 ∷ [])) 44 (0 ∷ 0 ∷ [])) 46 (0 ∷ 1 ∷ [])) 56 (0 ∷ 1 ∷ [])) 1 1 Baseline (pos 7 ∷ pos 0 ∷ pos 0 ∷ pos 0 ∷ pos 0 ∷ pos 0 ∷ pos 7 ∷ pos 0 ∷ pos 0 ∷ pos 0 ∷ pos 0 ∷ pos 0 ∷ []) ≡ answered (pos 6 ∷ pos 0 ∷ pos 0 ∷ pos 0 ∷ pos 0 ∷ pos 0 ∷ pos 7 ∷ pos 0 ∷ pos 0 ∷ pos 0 ∷ pos 0 ∷ pos 0 ∷ []) (pos 6 ∷ pos 0 ∷ pos 0 ∷ pos 0 ∷ pos 0 ∷ pos 0 ∷ pos 7 ∷ pos 0 ∷ pos 0 ∷ pos 0 ∷ pos 0 ∷ pos 0 ∷ []) 1
unfolding following everything
law_sum_minus_1 = refl

law_sum_99 : reach_file (sets (sets (sets (sets (sets (sets following 28 (255 ∷ 255 ∷ 255 ∷ 251 ∷ 0 ∷ 0 ∷ 0 ∷ 5 ∷ [])) 38 (0 ∷ 0 ∷ 0 ∷ 106 ∷ [])) 42 (0 ∷ 20 ∷ [])) 44 (0 ∷ 0 ∷ [])) 46 (0 ∷ 1 ∷ [])) 56 (0 ∷ 1 ∷ [])) 1 1 Baseline (pos 7 ∷ pos 0 ∷ pos 0 ∷ pos 0 ∷ pos 0 ∷ pos 0 ∷ pos 7 ∷ pos 0 ∷ pos 0 ∷ pos 0 ∷ pos 0 ∷ pos 0 ∷ []) ≡ answered (pos 11 ∷ pos 0 ∷ pos 0 ∷ pos 0 ∷ pos 0 ∷ pos 0 ∷ pos 12 ∷ pos 0 ∷ pos 0 ∷ pos 0 ∷ pos 0 ∷ pos 0 ∷ []) (pos 7 ∷ pos 0 ∷ pos 0 ∷ pos 0 ∷ pos 0 ∷ pos 0 ∷ pos 12 ∷ pos 0 ∷ pos 0 ∷ pos 0 ∷ pos 0 ∷ pos 0 ∷ []) 1
unfolding following everything
law_sum_99 = refl

largest_numbers : reach_file largest 1000 1000 Baseline (negsuc 999999 ∷ negsuc 999999 ∷ negsuc 999999 ∷ negsuc 999999 ∷ negsuc 999999 ∷ negsuc 999999 ∷ pos 1000000 ∷ pos 1000000 ∷ pos 1000000 ∷ pos 1000000 ∷ pos 1000000 ∷ pos 1000000 ∷ []) ≡ answered (negsuc 1999999 ∷ negsuc 1999999 ∷ negsuc 1999999 ∷ negsuc 1999999 ∷ negsuc 1999999 ∷ negsuc 1999999 ∷ pos 2000000 ∷ pos 2000000 ∷ pos 2000000 ∷ pos 2000000 ∷ pos 2000000 ∷ pos 2000000 ∷ []) (negsuc 1999999 ∷ negsuc 1999999 ∷ negsuc 1999999 ∷ negsuc 1999999 ∷ negsuc 1999999 ∷ negsuc 1999999 ∷ pos 2000000 ∷ pos 2000000 ∷ pos 2000000 ∷ pos 2000000 ∷ pos 2000000 ∷ pos 2000000 ∷ []) 2
unfolding largest everything
largest_numbers = refl
