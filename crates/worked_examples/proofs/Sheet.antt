-- Worked examples of reference/examples.txt and limits.txt: what the definitions give, beside what the second guard gives.
-- This file is written by `print_proofs` of reference/, and a test there compares it. Assumes nothing.
use mathlib.Core.Path.{◌≡◌, refl}
use mathlib.Core.List.{List, [], ◌∷◌, ◌++◌}
use Prim.Native.Nat.{ℕ, ◌+◌}
use lib.IntN.{pos, negsuc}
use lib.ListN.{take, replicate}
use lib.Seq.{sets}
use Rattle.sheet_spec.specs.Slots.{unsafe_slot}
use Rattle.sheet_spec.specs.Sheet.{refusal, values, write_refusal}
use Rattle.sheet_spec.specs.SheetA.{file_a}
use Rattle.sheet_spec.proofs.Everything.{everything}

-- sheet A is the second guard's
same_A : file_a ≡ 83 ∷ 72 ∷ 1 ∷ 1 ∷ 1 ∷ 0 ∷ 0 ∷ 4 ∷ 0 ∷ 4 ∷ 0 ∷ 4 ∷ 255 ∷ 255 ∷ 255 ∷ 231 ∷ 0 ∷ 0 ∷ 0 ∷ 25 ∷ 0 ∷ 5 ∷ 66 ∷ 68 ∷ 255 ∷ 225 ∷ 123 ∷ 128 ∷ 0 ∷ 0 ∷ 0 ∷ 0 ∷ 0 ∷ 0 ∷ 0 ∷ 0 ∷ 255 ∷ 255 ∷ 0 ∷ 4 ∷ 0 ∷ 0 ∷ 0 ∷ 0 ∷ 0 ∷ 0 ∷ 0 ∷ 0 ∷ 0 ∷ 20 ∷ 78 ∷ 71 ∷ 0 ∷ 0 ∷ 0 ∷ 130 ∷ 0 ∷ 30 ∷ 132 ∷ 128 ∷ 82 ∷ 67 ∷ 255 ∷ 255 ∷ 255 ∷ 156 ∷ 0 ∷ 0 ∷ 0 ∷ 100 ∷ []
unfolding file_a
same_A = refl

unfoldable following : List ℕ
following = 83 ∷ 72 ∷ 1 ∷ 1 ∷ 1 ∷ 0 ∷ 0 ∷ 4 ∷ 0 ∷ 4 ∷ 0 ∷ 4 ∷ 255 ∷ 255 ∷ 255 ∷ 231 ∷ 0 ∷ 0 ∷ 0 ∷ 25 ∷ 0 ∷ 5 ∷ 66 ∷ 70 ∷ 255 ∷ 225 ∷ 123 ∷ 128 ∷ 0 ∷ 0 ∷ 0 ∷ 0 ∷ 0 ∷ 0 ∷ 0 ∷ 0 ∷ 255 ∷ 255 ∷ 0 ∷ 0 ∷ 0 ∷ 0 ∷ 0 ∷ 2 ∷ 255 ∷ 255 ∷ 0 ∷ 4 ∷ 0 ∷ 0 ∷ 0 ∷ 0 ∷ 0 ∷ 0 ∷ 0 ∷ 0 ∷ 0 ∷ 20 ∷ 78 ∷ 71 ∷ 0 ∷ 0 ∷ 0 ∷ 130 ∷ 0 ∷ 30 ∷ 132 ∷ 128 ∷ 82 ∷ 67 ∷ 255 ∷ 255 ∷ 255 ∷ 156 ∷ 0 ∷ 0 ∷ 0 ∷ 100 ∷ []

unfoldable eight_bands : List ℕ
eight_bands = 83 ∷ 72 ∷ 1 ∷ 8 ∷ 1 ∷ 0 ∷ 0 ∷ 4 ∷ 0 ∷ 4 ∷ 0 ∷ 4 ∷ 255 ∷ 255 ∷ 255 ∷ 231 ∷ 0 ∷ 0 ∷ 0 ∷ 25 ∷ 0 ∷ 5 ∷ 66 ∷ 68 ∷ 255 ∷ 225 ∷ 123 ∷ 128 ∷ 0 ∷ 0 ∷ 0 ∷ 0 ∷ 0 ∷ 0 ∷ 0 ∷ 0 ∷ 255 ∷ 255 ∷ 0 ∷ 4 ∷ 0 ∷ 0 ∷ 0 ∷ 0 ∷ 0 ∷ 0 ∷ 0 ∷ 0 ∷ 0 ∷ 20 ∷ 66 ∷ 68 ∷ 0 ∷ 0 ∷ 0 ∷ 1 ∷ 0 ∷ 0 ∷ 0 ∷ 0 ∷ 0 ∷ 0 ∷ 0 ∷ 0 ∷ 255 ∷ 255 ∷ 0 ∷ 4 ∷ 0 ∷ 0 ∷ 0 ∷ 0 ∷ 0 ∷ 0 ∷ 0 ∷ 0 ∷ 0 ∷ 20 ∷ 66 ∷ 68 ∷ 0 ∷ 0 ∷ 0 ∷ 2 ∷ 0 ∷ 0 ∷ 0 ∷ 0 ∷ 0 ∷ 0 ∷ 0 ∷ 0 ∷ 255 ∷ 255 ∷ 0 ∷ 4 ∷ 0 ∷ 0 ∷ 0 ∷ 0 ∷ 0 ∷ 0 ∷ 0 ∷ 0 ∷ 0 ∷ 20 ∷ 66 ∷ 68 ∷ 0 ∷ 0 ∷ 0 ∷ 3 ∷ 0 ∷ 0 ∷ 0 ∷ 0 ∷ 0 ∷ 0 ∷ 0 ∷ 0 ∷ 255 ∷ 255 ∷ 0 ∷ 4 ∷ 0 ∷ 0 ∷ 0 ∷ 0 ∷ 0 ∷ 0 ∷ 0 ∷ 0 ∷ 0 ∷ 20 ∷ 66 ∷ 68 ∷ 0 ∷ 0 ∷ 0 ∷ 4 ∷ 0 ∷ 0 ∷ 0 ∷ 0 ∷ 0 ∷ 0 ∷ 0 ∷ 0 ∷ 255 ∷ 255 ∷ 0 ∷ 4 ∷ 0 ∷ 0 ∷ 0 ∷ 0 ∷ 0 ∷ 0 ∷ 0 ∷ 0 ∷ 0 ∷ 20 ∷ 66 ∷ 68 ∷ 0 ∷ 0 ∷ 0 ∷ 5 ∷ 0 ∷ 0 ∷ 0 ∷ 0 ∷ 0 ∷ 0 ∷ 0 ∷ 0 ∷ 255 ∷ 255 ∷ 0 ∷ 4 ∷ 0 ∷ 0 ∷ 0 ∷ 0 ∷ 0 ∷ 0 ∷ 0 ∷ 0 ∷ 0 ∷ 20 ∷ 66 ∷ 68 ∷ 0 ∷ 0 ∷ 0 ∷ 6 ∷ 0 ∷ 0 ∷ 0 ∷ 0 ∷ 0 ∷ 0 ∷ 0 ∷ 0 ∷ 255 ∷ 255 ∷ 0 ∷ 4 ∷ 0 ∷ 0 ∷ 0 ∷ 0 ∷ 0 ∷ 0 ∷ 0 ∷ 0 ∷ 0 ∷ 20 ∷ 66 ∷ 68 ∷ 0 ∷ 0 ∷ 0 ∷ 7 ∷ 0 ∷ 0 ∷ 0 ∷ 0 ∷ 0 ∷ 0 ∷ 0 ∷ 0 ∷ 255 ∷ 255 ∷ 0 ∷ 4 ∷ 0 ∷ 0 ∷ 0 ∷ 0 ∷ 0 ∷ 0 ∷ 0 ∷ 0 ∷ 0 ∷ 20 ∷ 78 ∷ 71 ∷ 0 ∷ 0 ∷ 0 ∷ 130 ∷ 0 ∷ 30 ∷ 132 ∷ 128 ∷ 82 ∷ 67 ∷ 255 ∷ 255 ∷ 255 ∷ 156 ∷ 0 ∷ 0 ∷ 0 ∷ 100 ∷ []

unfoldable eight_boxes : List ℕ
eight_boxes = 83 ∷ 72 ∷ 1 ∷ 1 ∷ 8 ∷ 0 ∷ 0 ∷ 4 ∷ 0 ∷ 4 ∷ 0 ∷ 4 ∷ 255 ∷ 255 ∷ 255 ∷ 231 ∷ 0 ∷ 0 ∷ 0 ∷ 25 ∷ 0 ∷ 5 ∷ 66 ∷ 68 ∷ 255 ∷ 225 ∷ 123 ∷ 128 ∷ 0 ∷ 0 ∷ 0 ∷ 0 ∷ 0 ∷ 0 ∷ 0 ∷ 0 ∷ 255 ∷ 255 ∷ 0 ∷ 4 ∷ 0 ∷ 0 ∷ 0 ∷ 0 ∷ 0 ∷ 0 ∷ 0 ∷ 0 ∷ 0 ∷ 20 ∷ 78 ∷ 71 ∷ 0 ∷ 0 ∷ 0 ∷ 130 ∷ 0 ∷ 30 ∷ 132 ∷ 128 ∷ 78 ∷ 71 ∷ 0 ∷ 0 ∷ 0 ∷ 131 ∷ 0 ∷ 30 ∷ 132 ∷ 128 ∷ 78 ∷ 71 ∷ 0 ∷ 0 ∷ 0 ∷ 132 ∷ 0 ∷ 30 ∷ 132 ∷ 128 ∷ 78 ∷ 71 ∷ 0 ∷ 0 ∷ 0 ∷ 133 ∷ 0 ∷ 30 ∷ 132 ∷ 128 ∷ 78 ∷ 71 ∷ 0 ∷ 0 ∷ 0 ∷ 134 ∷ 0 ∷ 30 ∷ 132 ∷ 128 ∷ 78 ∷ 71 ∷ 0 ∷ 0 ∷ 0 ∷ 135 ∷ 0 ∷ 30 ∷ 132 ∷ 128 ∷ 78 ∷ 71 ∷ 0 ∷ 0 ∷ 0 ∷ 136 ∷ 0 ∷ 30 ∷ 132 ∷ 128 ∷ 78 ∷ 71 ∷ 0 ∷ 0 ∷ 0 ∷ 137 ∷ 0 ∷ 30 ∷ 132 ∷ 128 ∷ 82 ∷ 67 ∷ 255 ∷ 255 ∷ 255 ∷ 156 ∷ 0 ∷ 0 ∷ 0 ∷ 100 ∷ []

unfoldable six_variables : List ℕ
six_variables = 83 ∷ 72 ∷ 6 ∷ 1 ∷ 1 ∷ 0 ∷ 0 ∷ 4 ∷ 0 ∷ 4 ∷ 0 ∷ 4 ∷ 255 ∷ 255 ∷ 255 ∷ 231 ∷ 0 ∷ 0 ∷ 0 ∷ 25 ∷ 0 ∷ 5 ∷ 0 ∷ 5 ∷ 0 ∷ 5 ∷ 0 ∷ 5 ∷ 0 ∷ 5 ∷ 0 ∷ 5 ∷ 66 ∷ 68 ∷ 255 ∷ 225 ∷ 123 ∷ 128 ∷ 0 ∷ 0 ∷ 0 ∷ 0 ∷ 0 ∷ 0 ∷ 0 ∷ 0 ∷ 255 ∷ 255 ∷ 0 ∷ 0 ∷ 0 ∷ 0 ∷ 0 ∷ 0 ∷ 0 ∷ 0 ∷ 0 ∷ 0 ∷ 0 ∷ 4 ∷ 0 ∷ 0 ∷ 0 ∷ 0 ∷ 0 ∷ 0 ∷ 0 ∷ 0 ∷ 0 ∷ 20 ∷ 0 ∷ 0 ∷ 255 ∷ 255 ∷ 0 ∷ 0 ∷ 0 ∷ 0 ∷ 0 ∷ 0 ∷ 0 ∷ 0 ∷ 0 ∷ 4 ∷ 0 ∷ 0 ∷ 0 ∷ 0 ∷ 0 ∷ 0 ∷ 0 ∷ 0 ∷ 0 ∷ 20 ∷ 0 ∷ 0 ∷ 0 ∷ 0 ∷ 255 ∷ 255 ∷ 0 ∷ 0 ∷ 0 ∷ 0 ∷ 0 ∷ 0 ∷ 0 ∷ 4 ∷ 0 ∷ 0 ∷ 0 ∷ 0 ∷ 0 ∷ 0 ∷ 0 ∷ 0 ∷ 0 ∷ 20 ∷ 0 ∷ 0 ∷ 0 ∷ 0 ∷ 0 ∷ 0 ∷ 255 ∷ 255 ∷ 0 ∷ 0 ∷ 0 ∷ 0 ∷ 0 ∷ 4 ∷ 0 ∷ 0 ∷ 0 ∷ 0 ∷ 0 ∷ 0 ∷ 0 ∷ 0 ∷ 0 ∷ 20 ∷ 0 ∷ 0 ∷ 0 ∷ 0 ∷ 0 ∷ 0 ∷ 0 ∷ 0 ∷ 255 ∷ 255 ∷ 0 ∷ 0 ∷ 0 ∷ 4 ∷ 0 ∷ 0 ∷ 0 ∷ 0 ∷ 0 ∷ 0 ∷ 0 ∷ 0 ∷ 0 ∷ 20 ∷ 0 ∷ 0 ∷ 0 ∷ 0 ∷ 0 ∷ 0 ∷ 0 ∷ 0 ∷ 0 ∷ 0 ∷ 255 ∷ 255 ∷ 0 ∷ 4 ∷ 0 ∷ 0 ∷ 0 ∷ 0 ∷ 0 ∷ 0 ∷ 0 ∷ 0 ∷ 0 ∷ 20 ∷ 78 ∷ 71 ∷ 0 ∷ 0 ∷ 0 ∷ 130 ∷ 0 ∷ 30 ∷ 132 ∷ 128 ∷ 0 ∷ 0 ∷ 0 ∷ 130 ∷ 0 ∷ 30 ∷ 132 ∷ 128 ∷ 0 ∷ 0 ∷ 0 ∷ 130 ∷ 0 ∷ 30 ∷ 132 ∷ 128 ∷ 0 ∷ 0 ∷ 0 ∷ 130 ∷ 0 ∷ 30 ∷ 132 ∷ 128 ∷ 0 ∷ 0 ∷ 0 ∷ 130 ∷ 0 ∷ 30 ∷ 132 ∷ 128 ∷ 0 ∷ 0 ∷ 0 ∷ 130 ∷ 0 ∷ 30 ∷ 132 ∷ 128 ∷ 82 ∷ 67 ∷ 255 ∷ 255 ∷ 255 ∷ 156 ∷ 0 ∷ 0 ∷ 0 ∷ 100 ∷ 255 ∷ 255 ∷ 255 ∷ 156 ∷ 0 ∷ 0 ∷ 0 ∷ 100 ∷ 255 ∷ 255 ∷ 255 ∷ 156 ∷ 0 ∷ 0 ∷ 0 ∷ 100 ∷ 255 ∷ 255 ∷ 255 ∷ 156 ∷ 0 ∷ 0 ∷ 0 ∷ 100 ∷ 255 ∷ 255 ∷ 255 ∷ 156 ∷ 0 ∷ 0 ∷ 0 ∷ 100 ∷ 255 ∷ 255 ∷ 255 ∷ 156 ∷ 0 ∷ 0 ∷ 0 ∷ 100 ∷ []

unfoldable two_bands : List ℕ
two_bands = 83 ∷ 72 ∷ 1 ∷ 2 ∷ 1 ∷ 0 ∷ 0 ∷ 4 ∷ 0 ∷ 4 ∷ 0 ∷ 4 ∷ 255 ∷ 255 ∷ 255 ∷ 231 ∷ 0 ∷ 0 ∷ 0 ∷ 25 ∷ 0 ∷ 5 ∷ 66 ∷ 68 ∷ 255 ∷ 225 ∷ 123 ∷ 128 ∷ 0 ∷ 0 ∷ 0 ∷ 0 ∷ 0 ∷ 0 ∷ 0 ∷ 0 ∷ 255 ∷ 255 ∷ 0 ∷ 4 ∷ 0 ∷ 0 ∷ 0 ∷ 0 ∷ 0 ∷ 0 ∷ 0 ∷ 0 ∷ 0 ∷ 20 ∷ 66 ∷ 68 ∷ 0 ∷ 0 ∷ 0 ∷ 0 ∷ 0 ∷ 0 ∷ 0 ∷ 0 ∷ 0 ∷ 0 ∷ 0 ∷ 0 ∷ 255 ∷ 255 ∷ 0 ∷ 4 ∷ 0 ∷ 0 ∷ 0 ∷ 0 ∷ 0 ∷ 0 ∷ 0 ∷ 0 ∷ 0 ∷ 20 ∷ 78 ∷ 71 ∷ 0 ∷ 0 ∷ 0 ∷ 130 ∷ 0 ∷ 30 ∷ 132 ∷ 128 ∷ 82 ∷ 67 ∷ 255 ∷ 255 ∷ 255 ∷ 156 ∷ 0 ∷ 0 ∷ 0 ∷ 100 ∷ []

unfoldable two_boxes : List ℕ
two_boxes = 83 ∷ 72 ∷ 2 ∷ 1 ∷ 2 ∷ 0 ∷ 0 ∷ 4 ∷ 0 ∷ 4 ∷ 0 ∷ 4 ∷ 255 ∷ 255 ∷ 255 ∷ 231 ∷ 0 ∷ 0 ∷ 0 ∷ 25 ∷ 0 ∷ 5 ∷ 0 ∷ 5 ∷ 66 ∷ 68 ∷ 255 ∷ 225 ∷ 123 ∷ 128 ∷ 0 ∷ 0 ∷ 0 ∷ 0 ∷ 0 ∷ 0 ∷ 0 ∷ 0 ∷ 255 ∷ 255 ∷ 0 ∷ 0 ∷ 0 ∷ 4 ∷ 0 ∷ 0 ∷ 0 ∷ 0 ∷ 0 ∷ 0 ∷ 0 ∷ 0 ∷ 0 ∷ 20 ∷ 0 ∷ 0 ∷ 255 ∷ 255 ∷ 0 ∷ 4 ∷ 0 ∷ 0 ∷ 0 ∷ 0 ∷ 0 ∷ 0 ∷ 0 ∷ 0 ∷ 0 ∷ 20 ∷ 78 ∷ 71 ∷ 0 ∷ 0 ∷ 0 ∷ 130 ∷ 0 ∷ 30 ∷ 132 ∷ 128 ∷ 0 ∷ 0 ∷ 0 ∷ 130 ∷ 0 ∷ 30 ∷ 132 ∷ 128 ∷ 78 ∷ 71 ∷ 0 ∷ 0 ∷ 0 ∷ 131 ∷ 0 ∷ 30 ∷ 132 ∷ 128 ∷ 0 ∷ 0 ∷ 0 ∷ 131 ∷ 0 ∷ 30 ∷ 132 ∷ 128 ∷ 82 ∷ 67 ∷ 255 ∷ 255 ∷ 255 ∷ 156 ∷ 0 ∷ 0 ∷ 0 ∷ 100 ∷ 255 ∷ 255 ∷ 255 ∷ 156 ∷ 0 ∷ 0 ∷ 0 ∷ 100 ∷ []

unfoldable three_boxes : List ℕ
three_boxes = 83 ∷ 72 ∷ 1 ∷ 1 ∷ 3 ∷ 0 ∷ 0 ∷ 4 ∷ 0 ∷ 4 ∷ 0 ∷ 4 ∷ 255 ∷ 255 ∷ 255 ∷ 231 ∷ 0 ∷ 0 ∷ 0 ∷ 25 ∷ 0 ∷ 5 ∷ 66 ∷ 68 ∷ 255 ∷ 225 ∷ 123 ∷ 128 ∷ 0 ∷ 0 ∷ 0 ∷ 0 ∷ 0 ∷ 0 ∷ 0 ∷ 0 ∷ 255 ∷ 255 ∷ 0 ∷ 4 ∷ 0 ∷ 0 ∷ 0 ∷ 0 ∷ 0 ∷ 0 ∷ 0 ∷ 0 ∷ 0 ∷ 20 ∷ 78 ∷ 71 ∷ 0 ∷ 0 ∷ 0 ∷ 130 ∷ 0 ∷ 30 ∷ 132 ∷ 128 ∷ 78 ∷ 71 ∷ 0 ∷ 0 ∷ 0 ∷ 131 ∷ 0 ∷ 30 ∷ 132 ∷ 128 ∷ 78 ∷ 71 ∷ 0 ∷ 0 ∷ 0 ∷ 132 ∷ 0 ∷ 30 ∷ 132 ∷ 128 ∷ 82 ∷ 67 ∷ 255 ∷ 255 ∷ 255 ∷ 156 ∷ 0 ∷ 0 ∷ 0 ∷ 100 ∷ []

unfoldable two_following : List ℕ
two_following = 83 ∷ 72 ∷ 1 ∷ 2 ∷ 1 ∷ 0 ∷ 0 ∷ 4 ∷ 0 ∷ 4 ∷ 0 ∷ 4 ∷ 255 ∷ 255 ∷ 255 ∷ 231 ∷ 0 ∷ 0 ∷ 0 ∷ 25 ∷ 0 ∷ 5 ∷ 66 ∷ 70 ∷ 255 ∷ 225 ∷ 123 ∷ 128 ∷ 0 ∷ 0 ∷ 0 ∷ 0 ∷ 0 ∷ 0 ∷ 0 ∷ 0 ∷ 255 ∷ 255 ∷ 0 ∷ 0 ∷ 0 ∷ 0 ∷ 0 ∷ 2 ∷ 255 ∷ 255 ∷ 0 ∷ 4 ∷ 0 ∷ 0 ∷ 0 ∷ 0 ∷ 0 ∷ 0 ∷ 0 ∷ 0 ∷ 0 ∷ 20 ∷ 66 ∷ 70 ∷ 0 ∷ 0 ∷ 0 ∷ 0 ∷ 0 ∷ 0 ∷ 0 ∷ 0 ∷ 0 ∷ 0 ∷ 0 ∷ 0 ∷ 255 ∷ 255 ∷ 0 ∷ 0 ∷ 0 ∷ 0 ∷ 0 ∷ 2 ∷ 255 ∷ 255 ∷ 0 ∷ 4 ∷ 0 ∷ 0 ∷ 0 ∷ 0 ∷ 0 ∷ 0 ∷ 0 ∷ 0 ∷ 0 ∷ 20 ∷ 78 ∷ 71 ∷ 0 ∷ 0 ∷ 0 ∷ 130 ∷ 0 ∷ 30 ∷ 132 ∷ 128 ∷ 82 ∷ 67 ∷ 255 ∷ 255 ∷ 255 ∷ 156 ∷ 0 ∷ 0 ∷ 0 ∷ 100 ∷ []

unfoldable longest : List ℕ
longest = 83 ∷ 72 ∷ 6 ∷ 8 ∷ 8 ∷ 0 ∷ 0 ∷ 4 ∷ 0 ∷ 4 ∷ 0 ∷ 4 ∷ 255 ∷ 255 ∷ 255 ∷ 231 ∷ 0 ∷ 0 ∷ 0 ∷ 25 ∷ 0 ∷ 5 ∷ 0 ∷ 5 ∷ 0 ∷ 5 ∷ 0 ∷ 5 ∷ 0 ∷ 5 ∷ 0 ∷ 5 ∷ 66 ∷ 70 ∷ 255 ∷ 225 ∷ 123 ∷ 128 ∷ 0 ∷ 0 ∷ 0 ∷ 0 ∷ 0 ∷ 0 ∷ 0 ∷ 0 ∷ 255 ∷ 255 ∷ 255 ∷ 255 ∷ 255 ∷ 255 ∷ 255 ∷ 255 ∷ 255 ∷ 255 ∷ 255 ∷ 255 ∷ 0 ∷ 0 ∷ 0 ∷ 0 ∷ 0 ∷ 2 ∷ 255 ∷ 255 ∷ 0 ∷ 0 ∷ 0 ∷ 0 ∷ 0 ∷ 0 ∷ 0 ∷ 0 ∷ 0 ∷ 0 ∷ 0 ∷ 4 ∷ 0 ∷ 0 ∷ 0 ∷ 0 ∷ 0 ∷ 0 ∷ 0 ∷ 0 ∷ 0 ∷ 20 ∷ 0 ∷ 0 ∷ 255 ∷ 255 ∷ 0 ∷ 0 ∷ 0 ∷ 0 ∷ 0 ∷ 0 ∷ 0 ∷ 0 ∷ 0 ∷ 4 ∷ 0 ∷ 0 ∷ 0 ∷ 0 ∷ 0 ∷ 0 ∷ 0 ∷ 0 ∷ 0 ∷ 20 ∷ 0 ∷ 0 ∷ 0 ∷ 0 ∷ 255 ∷ 255 ∷ 0 ∷ 0 ∷ 0 ∷ 0 ∷ 0 ∷ 0 ∷ 0 ∷ 4 ∷ 0 ∷ 0 ∷ 0 ∷ 0 ∷ 0 ∷ 0 ∷ 0 ∷ 0 ∷ 0 ∷ 20 ∷ 0 ∷ 0 ∷ 0 ∷ 0 ∷ 0 ∷ 0 ∷ 255 ∷ 255 ∷ 0 ∷ 0 ∷ 0 ∷ 0 ∷ 0 ∷ 4 ∷ 0 ∷ 0 ∷ 0 ∷ 0 ∷ 0 ∷ 0 ∷ 0 ∷ 0 ∷ 0 ∷ 20 ∷ 0 ∷ 0 ∷ 0 ∷ 0 ∷ 0 ∷ 0 ∷ 0 ∷ 0 ∷ 255 ∷ 255 ∷ 0 ∷ 0 ∷ 0 ∷ 4 ∷ 0 ∷ 0 ∷ 0 ∷ 0 ∷ 0 ∷ 0 ∷ 0 ∷ 0 ∷ 0 ∷ 20 ∷ 0 ∷ 0 ∷ 0 ∷ 0 ∷ 0 ∷ 0 ∷ 0 ∷ 0 ∷ 0 ∷ 0 ∷ 255 ∷ 255 ∷ 0 ∷ 4 ∷ 0 ∷ 0 ∷ 0 ∷ 0 ∷ 0 ∷ 0 ∷ 0 ∷ 0 ∷ 0 ∷ 20 ∷ 66 ∷ 70 ∷ 0 ∷ 0 ∷ 0 ∷ 1 ∷ 0 ∷ 0 ∷ 0 ∷ 0 ∷ 0 ∷ 0 ∷ 0 ∷ 0 ∷ 255 ∷ 255 ∷ 255 ∷ 255 ∷ 255 ∷ 255 ∷ 255 ∷ 255 ∷ 255 ∷ 255 ∷ 255 ∷ 255 ∷ 0 ∷ 0 ∷ 0 ∷ 0 ∷ 0 ∷ 2 ∷ 255 ∷ 255 ∷ 0 ∷ 0 ∷ 0 ∷ 0 ∷ 0 ∷ 0 ∷ 0 ∷ 0 ∷ 0 ∷ 0 ∷ 0 ∷ 4 ∷ 0 ∷ 0 ∷ 0 ∷ 0 ∷ 0 ∷ 0 ∷ 0 ∷ 0 ∷ 0 ∷ 20 ∷ 0 ∷ 0 ∷ 255 ∷ 255 ∷ 0 ∷ 0 ∷ 0 ∷ 0 ∷ 0 ∷ 0 ∷ 0 ∷ 0 ∷ 0 ∷ 4 ∷ 0 ∷ 0 ∷ 0 ∷ 0 ∷ 0 ∷ 0 ∷ 0 ∷ 0 ∷ 0 ∷ 20 ∷ 0 ∷ 0 ∷ 0 ∷ 0 ∷ 255 ∷ 255 ∷ 0 ∷ 0 ∷ 0 ∷ 0 ∷ 0 ∷ 0 ∷ 0 ∷ 4 ∷ 0 ∷ 0 ∷ 0 ∷ 0 ∷ 0 ∷ 0 ∷ 0 ∷ 0 ∷ 0 ∷ 20 ∷ 0 ∷ 0 ∷ 0 ∷ 0 ∷ 0 ∷ 0 ∷ 255 ∷ 255 ∷ 0 ∷ 0 ∷ 0 ∷ 0 ∷ 0 ∷ 4 ∷ 0 ∷ 0 ∷ 0 ∷ 0 ∷ 0 ∷ 0 ∷ 0 ∷ 0 ∷ 0 ∷ 20 ∷ 0 ∷ 0 ∷ 0 ∷ 0 ∷ 0 ∷ 0 ∷ 0 ∷ 0 ∷ 255 ∷ 255 ∷ 0 ∷ 0 ∷ 0 ∷ 4 ∷ 0 ∷ 0 ∷ 0 ∷ 0 ∷ 0 ∷ 0 ∷ 0 ∷ 0 ∷ 0 ∷ 20 ∷ 0 ∷ 0 ∷ 0 ∷ 0 ∷ 0 ∷ 0 ∷ 0 ∷ 0 ∷ 0 ∷ 0 ∷ 255 ∷ 255 ∷ 0 ∷ 4 ∷ 0 ∷ 0 ∷ 0 ∷ 0 ∷ 0 ∷ 0 ∷ 0 ∷ 0 ∷ 0 ∷ 20 ∷ 66 ∷ 70 ∷ 0 ∷ 0 ∷ 0 ∷ 2 ∷ 0 ∷ 0 ∷ 0 ∷ 0 ∷ 0 ∷ 0 ∷ 0 ∷ 0 ∷ 255 ∷ 255 ∷ 255 ∷ 255 ∷ 255 ∷ 255 ∷ 255 ∷ 255 ∷ 255 ∷ 255 ∷ 255 ∷ 255 ∷ 0 ∷ 0 ∷ 0 ∷ 0 ∷ 0 ∷ 2 ∷ 255 ∷ 255 ∷ 0 ∷ 0 ∷ 0 ∷ 0 ∷ 0 ∷ 0 ∷ 0 ∷ 0 ∷ 0 ∷ 0 ∷ 0 ∷ 4 ∷ 0 ∷ 0 ∷ 0 ∷ 0 ∷ 0 ∷ 0 ∷ 0 ∷ 0 ∷ 0 ∷ 20 ∷ 0 ∷ 0 ∷ 255 ∷ 255 ∷ 0 ∷ 0 ∷ 0 ∷ 0 ∷ 0 ∷ 0 ∷ 0 ∷ 0 ∷ 0 ∷ 4 ∷ 0 ∷ 0 ∷ 0 ∷ 0 ∷ 0 ∷ 0 ∷ 0 ∷ 0 ∷ 0 ∷ 20 ∷ 0 ∷ 0 ∷ 0 ∷ 0 ∷ 255 ∷ 255 ∷ 0 ∷ 0 ∷ 0 ∷ 0 ∷ 0 ∷ 0 ∷ 0 ∷ 4 ∷ 0 ∷ 0 ∷ 0 ∷ 0 ∷ 0 ∷ 0 ∷ 0 ∷ 0 ∷ 0 ∷ 20 ∷ 0 ∷ 0 ∷ 0 ∷ 0 ∷ 0 ∷ 0 ∷ 255 ∷ 255 ∷ 0 ∷ 0 ∷ 0 ∷ 0 ∷ 0 ∷ 4 ∷ 0 ∷ 0 ∷ 0 ∷ 0 ∷ 0 ∷ 0 ∷ 0 ∷ 0 ∷ 0 ∷ 20 ∷ 0 ∷ 0 ∷ 0 ∷ 0 ∷ 0 ∷ 0 ∷ 0 ∷ 0 ∷ 255 ∷ 255 ∷ 0 ∷ 0 ∷ 0 ∷ 4 ∷ 0 ∷ 0 ∷ 0 ∷ 0 ∷ 0 ∷ 0 ∷ 0 ∷ 0 ∷ 0 ∷ 20 ∷ 0 ∷ 0 ∷ 0 ∷ 0 ∷ 0 ∷ 0 ∷ 0 ∷ 0 ∷ 0 ∷ 0 ∷ 255 ∷ 255 ∷ 0 ∷ 4 ∷ 0 ∷ 0 ∷ 0 ∷ 0 ∷ 0 ∷ 0 ∷ 0 ∷ 0 ∷ 0 ∷ 20 ∷ 66 ∷ 70 ∷ 0 ∷ 0 ∷ 0 ∷ 3 ∷ 0 ∷ 0 ∷ 0 ∷ 0 ∷ 0 ∷ 0 ∷ 0 ∷ 0 ∷ 255 ∷ 255 ∷ 255 ∷ 255 ∷ 255 ∷ 255 ∷ 255 ∷ 255 ∷ 255 ∷ 255 ∷ 255 ∷ 255 ∷ 0 ∷ 0 ∷ 0 ∷ 0 ∷ 0 ∷ 2 ∷ 255 ∷ 255 ∷ 0 ∷ 0 ∷ 0 ∷ 0 ∷ 0 ∷ 0 ∷ 0 ∷ 0 ∷ 0 ∷ 0 ∷ 0 ∷ 4 ∷ 0 ∷ 0 ∷ 0 ∷ 0 ∷ 0 ∷ 0 ∷ 0 ∷ 0 ∷ 0 ∷ 20 ∷ 0 ∷ 0 ∷ 255 ∷ 255 ∷ 0 ∷ 0 ∷ 0 ∷ 0 ∷ 0 ∷ 0 ∷ 0 ∷ 0 ∷ 0 ∷ 4 ∷ 0 ∷ 0 ∷ 0 ∷ 0 ∷ 0 ∷ 0 ∷ 0 ∷ 0 ∷ 0 ∷ 20 ∷ 0 ∷ 0 ∷ 0 ∷ 0 ∷ 255 ∷ 255 ∷ 0 ∷ 0 ∷ 0 ∷ 0 ∷ 0 ∷ 0 ∷ 0 ∷ 4 ∷ 0 ∷ 0 ∷ 0 ∷ 0 ∷ 0 ∷ 0 ∷ 0 ∷ 0 ∷ 0 ∷ 20 ∷ 0 ∷ 0 ∷ 0 ∷ 0 ∷ 0 ∷ 0 ∷ 255 ∷ 255 ∷ 0 ∷ 0 ∷ 0 ∷ 0 ∷ 0 ∷ 4 ∷ 0 ∷ 0 ∷ 0 ∷ 0 ∷ 0 ∷ 0 ∷ 0 ∷ 0 ∷ 0 ∷ 20 ∷ 0 ∷ 0 ∷ 0 ∷ 0 ∷ 0 ∷ 0 ∷ 0 ∷ 0 ∷ 255 ∷ 255 ∷ 0 ∷ 0 ∷ 0 ∷ 4 ∷ 0 ∷ 0 ∷ 0 ∷ 0 ∷ 0 ∷ 0 ∷ 0 ∷ 0 ∷ 0 ∷ 20 ∷ 0 ∷ 0 ∷ 0 ∷ 0 ∷ 0 ∷ 0 ∷ 0 ∷ 0 ∷ 0 ∷ 0 ∷ 255 ∷ 255 ∷ 0 ∷ 4 ∷ 0 ∷ 0 ∷ 0 ∷ 0 ∷ 0 ∷ 0 ∷ 0 ∷ 0 ∷ 0 ∷ 20 ∷ 66 ∷ 70 ∷ 0 ∷ 0 ∷ 0 ∷ 4 ∷ 0 ∷ 0 ∷ 0 ∷ 0 ∷ 0 ∷ 0 ∷ 0 ∷ 0 ∷ 255 ∷ 255 ∷ 255 ∷ 255 ∷ 255 ∷ 255 ∷ 255 ∷ 255 ∷ 255 ∷ 255 ∷ 255 ∷ 255 ∷ 0 ∷ 0 ∷ 0 ∷ 0 ∷ 0 ∷ 2 ∷ 255 ∷ 255 ∷ 0 ∷ 0 ∷ 0 ∷ 0 ∷ 0 ∷ 0 ∷ 0 ∷ 0 ∷ 0 ∷ 0 ∷ 0 ∷ 4 ∷ 0 ∷ 0 ∷ 0 ∷ 0 ∷ 0 ∷ 0 ∷ 0 ∷ 0 ∷ 0 ∷ 20 ∷ 0 ∷ 0 ∷ 255 ∷ 255 ∷ 0 ∷ 0 ∷ 0 ∷ 0 ∷ 0 ∷ 0 ∷ 0 ∷ 0 ∷ 0 ∷ 4 ∷ 0 ∷ 0 ∷ 0 ∷ 0 ∷ 0 ∷ 0 ∷ 0 ∷ 0 ∷ 0 ∷ 20 ∷ 0 ∷ 0 ∷ 0 ∷ 0 ∷ 255 ∷ 255 ∷ 0 ∷ 0 ∷ 0 ∷ 0 ∷ 0 ∷ 0 ∷ 0 ∷ 4 ∷ 0 ∷ 0 ∷ 0 ∷ 0 ∷ 0 ∷ 0 ∷ 0 ∷ 0 ∷ 0 ∷ 20 ∷ 0 ∷ 0 ∷ 0 ∷ 0 ∷ 0 ∷ 0 ∷ 255 ∷ 255 ∷ 0 ∷ 0 ∷ 0 ∷ 0 ∷ 0 ∷ 4 ∷ 0 ∷ 0 ∷ 0 ∷ 0 ∷ 0 ∷ 0 ∷ 0 ∷ 0 ∷ 0 ∷ 20 ∷ 0 ∷ 0 ∷ 0 ∷ 0 ∷ 0 ∷ 0 ∷ 0 ∷ 0 ∷ 255 ∷ 255 ∷ 0 ∷ 0 ∷ 0 ∷ 4 ∷ 0 ∷ 0 ∷ 0 ∷ 0 ∷ 0 ∷ 0 ∷ 0 ∷ 0 ∷ 0 ∷ 20 ∷ 0 ∷ 0 ∷ 0 ∷ 0 ∷ 0 ∷ 0 ∷ 0 ∷ 0 ∷ 0 ∷ 0 ∷ 255 ∷ 255 ∷ 0 ∷ 4 ∷ 0 ∷ 0 ∷ 0 ∷ 0 ∷ 0 ∷ 0 ∷ 0 ∷ 0 ∷ 0 ∷ 20 ∷ 66 ∷ 70 ∷ 0 ∷ 0 ∷ 0 ∷ 5 ∷ 0 ∷ 0 ∷ 0 ∷ 0 ∷ 0 ∷ 0 ∷ 0 ∷ 0 ∷ 255 ∷ 255 ∷ 255 ∷ 255 ∷ 255 ∷ 255 ∷ 255 ∷ 255 ∷ 255 ∷ 255 ∷ 255 ∷ 255 ∷ 0 ∷ 0 ∷ 0 ∷ 0 ∷ 0 ∷ 2 ∷ 255 ∷ 255 ∷ 0 ∷ 0 ∷ 0 ∷ 0 ∷ 0 ∷ 0 ∷ 0 ∷ 0 ∷ 0 ∷ 0 ∷ 0 ∷ 4 ∷ 0 ∷ 0 ∷ 0 ∷ 0 ∷ 0 ∷ 0 ∷ 0 ∷ 0 ∷ 0 ∷ 20 ∷ 0 ∷ 0 ∷ 255 ∷ 255 ∷ 0 ∷ 0 ∷ 0 ∷ 0 ∷ 0 ∷ 0 ∷ 0 ∷ 0 ∷ 0 ∷ 4 ∷ 0 ∷ 0 ∷ 0 ∷ 0 ∷ 0 ∷ 0 ∷ 0 ∷ 0 ∷ 0 ∷ 20 ∷ 0 ∷ 0 ∷ 0 ∷ 0 ∷ 255 ∷ 255 ∷ 0 ∷ 0 ∷ 0 ∷ 0 ∷ 0 ∷ 0 ∷ 0 ∷ 4 ∷ 0 ∷ 0 ∷ 0 ∷ 0 ∷ 0 ∷ 0 ∷ 0 ∷ 0 ∷ 0 ∷ 20 ∷ 0 ∷ 0 ∷ 0 ∷ 0 ∷ 0 ∷ 0 ∷ 255 ∷ 255 ∷ 0 ∷ 0 ∷ 0 ∷ 0 ∷ 0 ∷ 4 ∷ 0 ∷ 0 ∷ 0 ∷ 0 ∷ 0 ∷ 0 ∷ 0 ∷ 0 ∷ 0 ∷ 20 ∷ 0 ∷ 0 ∷ 0 ∷ 0 ∷ 0 ∷ 0 ∷ 0 ∷ 0 ∷ 255 ∷ 255 ∷ 0 ∷ 0 ∷ 0 ∷ 4 ∷ 0 ∷ 0 ∷ 0 ∷ 0 ∷ 0 ∷ 0 ∷ 0 ∷ 0 ∷ 0 ∷ 20 ∷ 0 ∷ 0 ∷ 0 ∷ 0 ∷ 0 ∷ 0 ∷ 0 ∷ 0 ∷ 0 ∷ 0 ∷ 255 ∷ 255 ∷ 0 ∷ 4 ∷ 0 ∷ 0 ∷ 0 ∷ 0 ∷ 0 ∷ 0 ∷ 0 ∷ 0 ∷ 0 ∷ 20 ∷ 66 ∷ 70 ∷ 0 ∷ 0 ∷ 0 ∷ 6 ∷ 0 ∷ 0 ∷ 0 ∷ 0 ∷ 0 ∷ 0 ∷ 0 ∷ 0 ∷ 255 ∷ 255 ∷ 255 ∷ 255 ∷ 255 ∷ 255 ∷ 255 ∷ 255 ∷ 255 ∷ 255 ∷ 255 ∷ 255 ∷ 0 ∷ 0 ∷ 0 ∷ 0 ∷ 0 ∷ 2 ∷ 255 ∷ 255 ∷ 0 ∷ 0 ∷ 0 ∷ 0 ∷ 0 ∷ 0 ∷ 0 ∷ 0 ∷ 0 ∷ 0 ∷ 0 ∷ 4 ∷ 0 ∷ 0 ∷ 0 ∷ 0 ∷ 0 ∷ 0 ∷ 0 ∷ 0 ∷ 0 ∷ 20 ∷ 0 ∷ 0 ∷ 255 ∷ 255 ∷ 0 ∷ 0 ∷ 0 ∷ 0 ∷ 0 ∷ 0 ∷ 0 ∷ 0 ∷ 0 ∷ 4 ∷ 0 ∷ 0 ∷ 0 ∷ 0 ∷ 0 ∷ 0 ∷ 0 ∷ 0 ∷ 0 ∷ 20 ∷ 0 ∷ 0 ∷ 0 ∷ 0 ∷ 255 ∷ 255 ∷ 0 ∷ 0 ∷ 0 ∷ 0 ∷ 0 ∷ 0 ∷ 0 ∷ 4 ∷ 0 ∷ 0 ∷ 0 ∷ 0 ∷ 0 ∷ 0 ∷ 0 ∷ 0 ∷ 0 ∷ 20 ∷ 0 ∷ 0 ∷ 0 ∷ 0 ∷ 0 ∷ 0 ∷ 255 ∷ 255 ∷ 0 ∷ 0 ∷ 0 ∷ 0 ∷ 0 ∷ 4 ∷ 0 ∷ 0 ∷ 0 ∷ 0 ∷ 0 ∷ 0 ∷ 0 ∷ 0 ∷ 0 ∷ 20 ∷ 0 ∷ 0 ∷ 0 ∷ 0 ∷ 0 ∷ 0 ∷ 0 ∷ 0 ∷ 255 ∷ 255 ∷ 0 ∷ 0 ∷ 0 ∷ 4 ∷ 0 ∷ 0 ∷ 0 ∷ 0 ∷ 0 ∷ 0 ∷ 0 ∷ 0 ∷ 0 ∷ 20 ∷ 0 ∷ 0 ∷ 0 ∷ 0 ∷ 0 ∷ 0 ∷ 0 ∷ 0 ∷ 0 ∷ 0 ∷ 255 ∷ 255 ∷ 0 ∷ 4 ∷ 0 ∷ 0 ∷ 0 ∷ 0 ∷ 0 ∷ 0 ∷ 0 ∷ 0 ∷ 0 ∷ 20 ∷ 66 ∷ 70 ∷ 0 ∷ 0 ∷ 0 ∷ 7 ∷ 0 ∷ 0 ∷ 0 ∷ 0 ∷ 0 ∷ 0 ∷ 0 ∷ 0 ∷ 255 ∷ 255 ∷ 255 ∷ 255 ∷ 255 ∷ 255 ∷ 255 ∷ 255 ∷ 255 ∷ 255 ∷ 255 ∷ 255 ∷ 0 ∷ 0 ∷ 0 ∷ 0 ∷ 0 ∷ 2 ∷ 255 ∷ 255 ∷ 0 ∷ 0 ∷ 0 ∷ 0 ∷ 0 ∷ 0 ∷ 0 ∷ 0 ∷ 0 ∷ 0 ∷ 0 ∷ 4 ∷ 0 ∷ 0 ∷ 0 ∷ 0 ∷ 0 ∷ 0 ∷ 0 ∷ 0 ∷ 0 ∷ 20 ∷ 0 ∷ 0 ∷ 255 ∷ 255 ∷ 0 ∷ 0 ∷ 0 ∷ 0 ∷ 0 ∷ 0 ∷ 0 ∷ 0 ∷ 0 ∷ 4 ∷ 0 ∷ 0 ∷ 0 ∷ 0 ∷ 0 ∷ 0 ∷ 0 ∷ 0 ∷ 0 ∷ 20 ∷ 0 ∷ 0 ∷ 0 ∷ 0 ∷ 255 ∷ 255 ∷ 0 ∷ 0 ∷ 0 ∷ 0 ∷ 0 ∷ 0 ∷ 0 ∷ 4 ∷ 0 ∷ 0 ∷ 0 ∷ 0 ∷ 0 ∷ 0 ∷ 0 ∷ 0 ∷ 0 ∷ 20 ∷ 0 ∷ 0 ∷ 0 ∷ 0 ∷ 0 ∷ 0 ∷ 255 ∷ 255 ∷ 0 ∷ 0 ∷ 0 ∷ 0 ∷ 0 ∷ 4 ∷ 0 ∷ 0 ∷ 0 ∷ 0 ∷ 0 ∷ 0 ∷ 0 ∷ 0 ∷ 0 ∷ 20 ∷ 0 ∷ 0 ∷ 0 ∷ 0 ∷ 0 ∷ 0 ∷ 0 ∷ 0 ∷ 255 ∷ 255 ∷ 0 ∷ 0 ∷ 0 ∷ 4 ∷ 0 ∷ 0 ∷ 0 ∷ 0 ∷ 0 ∷ 0 ∷ 0 ∷ 0 ∷ 0 ∷ 20 ∷ 0 ∷ 0 ∷ 0 ∷ 0 ∷ 0 ∷ 0 ∷ 0 ∷ 0 ∷ 0 ∷ 0 ∷ 255 ∷ 255 ∷ 0 ∷ 4 ∷ 0 ∷ 0 ∷ 0 ∷ 0 ∷ 0 ∷ 0 ∷ 0 ∷ 0 ∷ 0 ∷ 20 ∷ 78 ∷ 71 ∷ 0 ∷ 0 ∷ 0 ∷ 130 ∷ 0 ∷ 30 ∷ 132 ∷ 128 ∷ 0 ∷ 0 ∷ 0 ∷ 130 ∷ 0 ∷ 30 ∷ 132 ∷ 128 ∷ 0 ∷ 0 ∷ 0 ∷ 130 ∷ 0 ∷ 30 ∷ 132 ∷ 128 ∷ 0 ∷ 0 ∷ 0 ∷ 130 ∷ 0 ∷ 30 ∷ 132 ∷ 128 ∷ 0 ∷ 0 ∷ 0 ∷ 130 ∷ 0 ∷ 30 ∷ 132 ∷ 128 ∷ 0 ∷ 0 ∷ 0 ∷ 130 ∷ 0 ∷ 30 ∷ 132 ∷ 128 ∷ 78 ∷ 71 ∷ 0 ∷ 0 ∷ 0 ∷ 131 ∷ 0 ∷ 30 ∷ 132 ∷ 128 ∷ 0 ∷ 0 ∷ 0 ∷ 131 ∷ 0 ∷ 30 ∷ 132 ∷ 128 ∷ 0 ∷ 0 ∷ 0 ∷ 131 ∷ 0 ∷ 30 ∷ 132 ∷ 128 ∷ 0 ∷ 0 ∷ 0 ∷ 131 ∷ 0 ∷ 30 ∷ 132 ∷ 128 ∷ 0 ∷ 0 ∷ 0 ∷ 131 ∷ 0 ∷ 30 ∷ 132 ∷ 128 ∷ 0 ∷ 0 ∷ 0 ∷ 131 ∷ 0 ∷ 30 ∷ 132 ∷ 128 ∷ 78 ∷ 71 ∷ 0 ∷ 0 ∷ 0 ∷ 132 ∷ 0 ∷ 30 ∷ 132 ∷ 128 ∷ 0 ∷ 0 ∷ 0 ∷ 132 ∷ 0 ∷ 30 ∷ 132 ∷ 128 ∷ 0 ∷ 0 ∷ 0 ∷ 132 ∷ 0 ∷ 30 ∷ 132 ∷ 128 ∷ 0 ∷ 0 ∷ 0 ∷ 132 ∷ 0 ∷ 30 ∷ 132 ∷ 128 ∷ 0 ∷ 0 ∷ 0 ∷ 132 ∷ 0 ∷ 30 ∷ 132 ∷ 128 ∷ 0 ∷ 0 ∷ 0 ∷ 132 ∷ 0 ∷ 30 ∷ 132 ∷ 128 ∷ 78 ∷ 71 ∷ 0 ∷ 0 ∷ 0 ∷ 133 ∷ 0 ∷ 30 ∷ 132 ∷ 128 ∷ 0 ∷ 0 ∷ 0 ∷ 133 ∷ 0 ∷ 30 ∷ 132 ∷ 128 ∷ 0 ∷ 0 ∷ 0 ∷ 133 ∷ 0 ∷ 30 ∷ 132 ∷ 128 ∷ 0 ∷ 0 ∷ 0 ∷ 133 ∷ 0 ∷ 30 ∷ 132 ∷ 128 ∷ 0 ∷ 0 ∷ 0 ∷ 133 ∷ 0 ∷ 30 ∷ 132 ∷ 128 ∷ 0 ∷ 0 ∷ 0 ∷ 133 ∷ 0 ∷ 30 ∷ 132 ∷ 128 ∷ 78 ∷ 71 ∷ 0 ∷ 0 ∷ 0 ∷ 134 ∷ 0 ∷ 30 ∷ 132 ∷ 128 ∷ 0 ∷ 0 ∷ 0 ∷ 134 ∷ 0 ∷ 30 ∷ 132 ∷ 128 ∷ 0 ∷ 0 ∷ 0 ∷ 134 ∷ 0 ∷ 30 ∷ 132 ∷ 128 ∷ 0 ∷ 0 ∷ 0 ∷ 134 ∷ 0 ∷ 30 ∷ 132 ∷ 128 ∷ 0 ∷ 0 ∷ 0 ∷ 134 ∷ 0 ∷ 30 ∷ 132 ∷ 128 ∷ 0 ∷ 0 ∷ 0 ∷ 134 ∷ 0 ∷ 30 ∷ 132 ∷ 128 ∷ 78 ∷ 71 ∷ 0 ∷ 0 ∷ 0 ∷ 135 ∷ 0 ∷ 30 ∷ 132 ∷ 128 ∷ 0 ∷ 0 ∷ 0 ∷ 135 ∷ 0 ∷ 30 ∷ 132 ∷ 128 ∷ 0 ∷ 0 ∷ 0 ∷ 135 ∷ 0 ∷ 30 ∷ 132 ∷ 128 ∷ 0 ∷ 0 ∷ 0 ∷ 135 ∷ 0 ∷ 30 ∷ 132 ∷ 128 ∷ 0 ∷ 0 ∷ 0 ∷ 135 ∷ 0 ∷ 30 ∷ 132 ∷ 128 ∷ 0 ∷ 0 ∷ 0 ∷ 135 ∷ 0 ∷ 30 ∷ 132 ∷ 128 ∷ 78 ∷ 71 ∷ 0 ∷ 0 ∷ 0 ∷ 136 ∷ 0 ∷ 30 ∷ 132 ∷ 128 ∷ 0 ∷ 0 ∷ 0 ∷ 136 ∷ 0 ∷ 30 ∷ 132 ∷ 128 ∷ 0 ∷ 0 ∷ 0 ∷ 136 ∷ 0 ∷ 30 ∷ 132 ∷ 128 ∷ 0 ∷ 0 ∷ 0 ∷ 136 ∷ 0 ∷ 30 ∷ 132 ∷ 128 ∷ 0 ∷ 0 ∷ 0 ∷ 136 ∷ 0 ∷ 30 ∷ 132 ∷ 128 ∷ 0 ∷ 0 ∷ 0 ∷ 136 ∷ 0 ∷ 30 ∷ 132 ∷ 128 ∷ 78 ∷ 71 ∷ 0 ∷ 0 ∷ 0 ∷ 137 ∷ 0 ∷ 30 ∷ 132 ∷ 128 ∷ 0 ∷ 0 ∷ 0 ∷ 137 ∷ 0 ∷ 30 ∷ 132 ∷ 128 ∷ 0 ∷ 0 ∷ 0 ∷ 137 ∷ 0 ∷ 30 ∷ 132 ∷ 128 ∷ 0 ∷ 0 ∷ 0 ∷ 137 ∷ 0 ∷ 30 ∷ 132 ∷ 128 ∷ 0 ∷ 0 ∷ 0 ∷ 137 ∷ 0 ∷ 30 ∷ 132 ∷ 128 ∷ 0 ∷ 0 ∷ 0 ∷ 137 ∷ 0 ∷ 30 ∷ 132 ∷ 128 ∷ 82 ∷ 67 ∷ 255 ∷ 255 ∷ 255 ∷ 156 ∷ 0 ∷ 0 ∷ 0 ∷ 100 ∷ 255 ∷ 255 ∷ 255 ∷ 156 ∷ 0 ∷ 0 ∷ 0 ∷ 100 ∷ 255 ∷ 255 ∷ 255 ∷ 156 ∷ 0 ∷ 0 ∷ 0 ∷ 100 ∷ 255 ∷ 255 ∷ 255 ∷ 156 ∷ 0 ∷ 0 ∷ 0 ∷ 100 ∷ 255 ∷ 255 ∷ 255 ∷ 156 ∷ 0 ∷ 0 ∷ 0 ∷ 100 ∷ 255 ∷ 255 ∷ 255 ∷ 156 ∷ 0 ∷ 0 ∷ 0 ∷ 100 ∷ []

delta_1 : refusal (sets file_a 6 (0 ∷ 1 ∷ [])) ≡ 0
unfolding everything
delta_1 = refl

delta_0 : refusal (sets file_a 6 (0 ∷ 0 ∷ [])) ≡ 3
unfolding everything
delta_0 = refl

alpha_1 : refusal (sets file_a 8 (0 ∷ 1 ∷ [])) ≡ 0
unfolding everything
alpha_1 = refl

alpha_0 : refusal (sets file_a 8 (0 ∷ 0 ∷ [])) ≡ 3
unfolding everything
alpha_0 = refl

delta_996 : refusal (sets file_a 6 (3 ∷ 228 ∷ [])) ≡ 0
unfolding everything
delta_996 = refl

delta_997 : refusal (sets file_a 6 (3 ∷ 229 ∷ [])) ≡ 3
unfolding everything
delta_997 = refl

alpha_996 : refusal (sets file_a 8 (3 ∷ 228 ∷ [])) ≡ 0
unfolding everything
alpha_996 = refl

alpha_997 : refusal (sets file_a 8 (3 ∷ 229 ∷ [])) ≡ 3
unfolding everything
alpha_997 = refl

rho_1 : refusal (sets file_a 10 (0 ∷ 1 ∷ [])) ≡ 0
unfolding everything
rho_1 = refl

rho_0 : refusal (sets file_a 10 (0 ∷ 0 ∷ [])) ≡ 3
unfolding everything
rho_0 = refl

rho_1000 : refusal (sets file_a 10 (3 ∷ 232 ∷ [])) ≡ 0
unfolding everything
rho_1000 = refl

rho_1001 : refusal (sets file_a 10 (3 ∷ 233 ∷ [])) ≡ 3
unfolding everything
rho_1001 = refl

least_command_minus_10000 : refusal (sets file_a 12 (255 ∷ 255 ∷ 216 ∷ 240 ∷ [])) ≡ 0
unfolding everything
least_command_minus_10000 = refl

least_command_minus_10001 : refusal (sets file_a 12 (255 ∷ 255 ∷ 216 ∷ 239 ∷ [])) ≡ 4
unfolding everything
least_command_minus_10001 = refl

greatest_command_10000 : refusal (sets file_a 16 (0 ∷ 0 ∷ 39 ∷ 16 ∷ [])) ≡ 0
unfolding everything
greatest_command_10000 = refl

greatest_command_10001 : refusal (sets file_a 16 (0 ∷ 0 ∷ 39 ∷ 17 ∷ [])) ≡ 4
unfolding everything
greatest_command_10001 = refl

cap_1 : refusal (sets file_a 20 (0 ∷ 1 ∷ [])) ≡ 0
unfolding everything
cap_1 = refl

cap_0 : refusal (sets file_a 20 (0 ∷ 0 ∷ [])) ≡ 6
unfolding everything
cap_0 = refl

cap_1000 : refusal (sets file_a 20 (3 ∷ 232 ∷ [])) ≡ 0
unfolding everything
cap_1000 = refl

cap_1001 : refusal (sets file_a 20 (3 ∷ 233 ∷ [])) ≡ 6
unfolding everything
cap_1001 = refl

safety_least_minus_25 : refusal (sets file_a 28 (255 ∷ 255 ∷ 255 ∷ 231 ∷ [])) ≡ 0
unfolding everything
safety_least_minus_25 = refl

safety_least_minus_26 : refusal (sets file_a 28 (255 ∷ 255 ∷ 255 ∷ 230 ∷ [])) ≡ 9
unfolding everything
safety_least_minus_26 = refl

safety_greatest_25 : refusal (sets file_a 32 (0 ∷ 0 ∷ 0 ∷ 25 ∷ [])) ≡ 0
unfolding everything
safety_greatest_25 = refl

safety_greatest_26 : refusal (sets file_a 32 (0 ∷ 0 ∷ 0 ∷ 26 ∷ [])) ≡ 9
unfolding everything
safety_greatest_26 = refl

a_minus_1000 : refusal (sets file_a 36 (252 ∷ 24 ∷ [])) ≡ 0
unfolding everything
a_minus_1000 = refl

a_minus_1001 : refusal (sets file_a 36 (252 ∷ 23 ∷ [])) ≡ 10
unfolding everything
a_minus_1001 = refl

a_1000 : refusal (sets file_a 36 (3 ∷ 232 ∷ [])) ≡ 0
unfolding everything
a_1000 = refl

a_1001 : refusal (sets file_a 36 (3 ∷ 233 ∷ [])) ≡ 10
unfolding everything
a_1001 = refl

b_minus_1000 : refusal (sets file_a 38 (252 ∷ 24 ∷ [])) ≡ 0
unfolding everything
b_minus_1000 = refl

b_minus_1001 : refusal (sets file_a 38 (252 ∷ 23 ∷ [])) ≡ 10
unfolding everything
b_minus_1001 = refl

b_1000 : refusal (sets file_a 38 (3 ∷ 232 ∷ [])) ≡ 0
unfolding everything
b_1000 = refl

b_1001 : refusal (sets file_a 38 (3 ∷ 233 ∷ [])) ≡ 10
unfolding everything
b_1001 = refl

c_minus_100000000 : refusal (sets file_a 40 (250 ∷ 10 ∷ 31 ∷ 0 ∷ [])) ≡ 0
unfolding everything
c_minus_100000000 = refl

c_minus_100000001 : refusal (sets file_a 40 (250 ∷ 10 ∷ 30 ∷ 255 ∷ [])) ≡ 10
unfolding everything
c_minus_100000001 = refl

c_100000000 : refusal (sets file_a 40 (5 ∷ 245 ∷ 225 ∷ 0 ∷ [])) ≡ 0
unfolding everything
c_100000000 = refl

c_100000001 : refusal (sets file_a 40 (5 ∷ 245 ∷ 225 ∷ 1 ∷ [])) ≡ 10
unfolding everything
c_100000001 = refl

d_0 : refusal (sets file_a 44 (0 ∷ 0 ∷ 0 ∷ 0 ∷ [])) ≡ 0
unfolding everything
d_0 = refl

d_minus_1 : refusal (sets file_a 44 (255 ∷ 255 ∷ 255 ∷ 255 ∷ [])) ≡ 10
unfolding everything
d_minus_1 = refl

d_100000000 : refusal (sets file_a 44 (5 ∷ 245 ∷ 225 ∷ 0 ∷ [])) ≡ 0
unfolding everything
d_100000000 = refl

d_100000001 : refusal (sets file_a 44 (5 ∷ 245 ∷ 225 ∷ 1 ∷ [])) ≡ 10
unfolding everything
d_100000001 = refl

q_1 : refusal (sets file_a 48 (0 ∷ 1 ∷ [])) ≡ 0
unfolding everything
q_1 = refl

q_0 : refusal (sets file_a 48 (0 ∷ 0 ∷ [])) ≡ 10
unfolding everything
q_0 = refl

q_4096 : refusal (sets file_a 48 (16 ∷ 0 ∷ [])) ≡ 0
unfolding everything
q_4096 = refl

q_4097 : refusal (sets file_a 48 (16 ∷ 1 ∷ [])) ≡ 10
unfolding everything
q_4097 = refl

unsafe_lower_minus_2000000 : refusal (sets (sets file_a 56 (255 ∷ 255 ∷ 255 ∷ 155 ∷ [])) 52 (255 ∷ 225 ∷ 123 ∷ 128 ∷ [])) ≡ 0
unfolding everything
unsafe_lower_minus_2000000 = refl

unsafe_lower_minus_2000001 : refusal (sets (sets file_a 56 (255 ∷ 255 ∷ 255 ∷ 155 ∷ [])) 52 (255 ∷ 225 ∷ 123 ∷ 127 ∷ [])) ≡ 11
unfolding everything
unsafe_lower_minus_2000001 = refl

unsafe_upper_2000000 : refusal (sets file_a 56 (0 ∷ 30 ∷ 132 ∷ 128 ∷ [])) ≡ 0
unfolding everything
unsafe_upper_2000000 = refl

unsafe_upper_2000001 : refusal (sets file_a 56 (0 ∷ 30 ∷ 132 ∷ 129 ∷ [])) ≡ 11
unfolding everything
unsafe_upper_2000001 = refl

recovery_lower_minus_1000000 : refusal (sets file_a 62 (255 ∷ 240 ∷ 189 ∷ 192 ∷ [])) ≡ 0
unfolding everything
recovery_lower_minus_1000000 = refl

recovery_lower_minus_1000001 : refusal (sets file_a 62 (255 ∷ 240 ∷ 189 ∷ 191 ∷ [])) ≡ 11
unfolding everything
recovery_lower_minus_1000001 = refl

recovery_upper_1000000 : refusal (sets (sets file_a 52 (0 ∷ 15 ∷ 66 ∷ 65 ∷ [])) 66 (0 ∷ 15 ∷ 66 ∷ 64 ∷ [])) ≡ 0
unfolding everything
recovery_upper_1000000 = refl

recovery_upper_1000001 : refusal (sets (sets file_a 52 (0 ∷ 15 ∷ 66 ∷ 65 ∷ [])) 66 (0 ∷ 15 ∷ 66 ∷ 65 ∷ [])) ≡ 11
unfolding everything
recovery_upper_1000001 = refl

law_coefficient_minus_1000 : refusal (sets following 36 (252 ∷ 24 ∷ [])) ≡ 0
unfolding following everything
law_coefficient_minus_1000 = refl

law_coefficient_minus_1001 : refusal (sets following 36 (252 ∷ 23 ∷ [])) ≡ 10
unfolding following everything
law_coefficient_minus_1001 = refl

law_coefficient_1000 : refusal (sets following 36 (3 ∷ 232 ∷ [])) ≡ 0
unfolding following everything
law_coefficient_1000 = refl

law_coefficient_1001 : refusal (sets following 36 (3 ∷ 233 ∷ [])) ≡ 10
unfolding following everything
law_coefficient_1001 = refl

law_constant_minus_100000000 : refusal (sets following 38 (250 ∷ 10 ∷ 31 ∷ 0 ∷ [])) ≡ 0
unfolding following everything
law_constant_minus_100000000 = refl

law_constant_minus_100000001 : refusal (sets following 38 (250 ∷ 10 ∷ 30 ∷ 255 ∷ [])) ≡ 10
unfolding following everything
law_constant_minus_100000001 = refl

law_constant_100000000 : refusal (sets following 38 (5 ∷ 245 ∷ 225 ∷ 0 ∷ [])) ≡ 0
unfolding following everything
law_constant_100000000 = refl

law_constant_100000001 : refusal (sets following 38 (5 ∷ 245 ∷ 225 ∷ 1 ∷ [])) ≡ 10
unfolding following everything
law_constant_100000001 = refl

law_divisor_1 : refusal (sets following 42 (0 ∷ 1 ∷ [])) ≡ 0
unfolding following everything
law_divisor_1 = refl

law_divisor_0 : refusal (sets following 42 (0 ∷ 0 ∷ [])) ≡ 10
unfolding following everything
law_divisor_0 = refl

law_divisor_4096 : refusal (sets following 42 (16 ∷ 0 ∷ [])) ≡ 0
unfolding following everything
law_divisor_4096 = refl

law_divisor_4097 : refusal (sets following 42 (16 ∷ 1 ∷ [])) ≡ 10
unfolding following everything
law_divisor_4097 = refl

no_variable : refusal (sets file_a 2 (0 ∷ [])) ≡ 2
unfolding everything
no_variable = refl

seven_variables : refusal (sets file_a 2 (7 ∷ [])) ≡ 2
unfolding everything
seven_variables = refl

no_band : refusal (sets file_a 3 (0 ∷ [])) ≡ 2
unfolding everything
no_band = refl

nine_bands : refusal (sets file_a 3 (9 ∷ [])) ≡ 2
unfolding everything
nine_bands = refl

no_unsafe_box : refusal (sets file_a 4 (0 ∷ [])) ≡ 2
unfolding everything
no_unsafe_box = refl

nine_unsafe_boxes : refusal (sets file_a 4 (9 ∷ [])) ≡ 2
unfolding everything
nine_unsafe_boxes = refl

sheet_of_eight_bands : refusal eight_bands ≡ 0
unfolding eight_bands everything
sheet_of_eight_bands = refl

sheet_of_eight_boxes : refusal eight_boxes ≡ 0
unfolding eight_boxes everything
sheet_of_eight_boxes = refl

band_variable_1_of_1 : refusal (sets file_a 5 (1 ∷ [])) ≡ 2
unfolding everything
band_variable_1_of_1 = refl

band_variable_5_of_6 : refusal (sets six_variables 5 (5 ∷ [])) ≡ 0
unfolding six_variables everything
band_variable_5_of_6 = refl

band_variable_6_of_6 : refusal (sets six_variables 5 (6 ∷ [])) ≡ 2
unfolding six_variables everything
band_variable_6_of_6 = refl

first_edge_below : refusal (sets file_a 24 (255 ∷ 225 ∷ 123 ∷ 127 ∷ [])) ≡ 8
unfolding everything
first_edge_below = refl

first_edge_above : refusal (sets file_a 24 (255 ∷ 225 ∷ 123 ∷ 129 ∷ [])) ≡ 8
unfolding everything
first_edge_above = refl

second_edge_equal : refusal (sets two_bands 52 (255 ∷ 225 ∷ 123 ∷ 128 ∷ [])) ≡ 8
unfolding two_bands everything
second_edge_equal = refl

second_edge_greater_by_1 : refusal (sets two_bands 52 (255 ∷ 225 ∷ 123 ∷ 129 ∷ [])) ≡ 0
unfolding two_bands everything
second_edge_greater_by_1 = refl

second_edge_2000000 : refusal (sets two_bands 52 (0 ∷ 30 ∷ 132 ∷ 128 ∷ [])) ≡ 0
unfolding two_bands everything
second_edge_2000000 = refl

second_edge_2000001 : refusal (sets two_bands 52 (0 ∷ 30 ∷ 132 ∷ 129 ∷ [])) ≡ 8
unfolding two_bands everything
second_edge_2000001 = refl

one_command : refusal (sets file_a 12 (0 ∷ 0 ∷ 0 ∷ 0 ∷ 0 ∷ 0 ∷ 0 ∷ 0 ∷ [])) ≡ 0
unfolding everything
one_command = refl

commands_reversed : refusal (sets file_a 12 (0 ∷ 0 ∷ 0 ∷ 1 ∷ 0 ∷ 0 ∷ 0 ∷ 0 ∷ [])) ≡ 4
unfolding everything
commands_reversed = refl

one_safety_command : refusal (sets file_a 28 (0 ∷ 0 ∷ 0 ∷ 3 ∷ 0 ∷ 0 ∷ 0 ∷ 3 ∷ [])) ≡ 0
unfolding everything
one_safety_command = refl

safety_reversed : refusal (sets file_a 28 (0 ∷ 0 ∷ 0 ∷ 3 ∷ 0 ∷ 0 ∷ 0 ∷ 2 ∷ [])) ≡ 9
unfolding everything
safety_reversed = refl

unsafe_box_of_one_state : refusal (sets file_a 52 (0 ∷ 0 ∷ 0 ∷ 105 ∷ 0 ∷ 0 ∷ 0 ∷ 105 ∷ [])) ≡ 0
unfolding everything
unsafe_box_of_one_state = refl

unsafe_box_reversed : refusal (sets file_a 52 (0 ∷ 0 ∷ 0 ∷ 105 ∷ 0 ∷ 0 ∷ 0 ∷ 104 ∷ [])) ≡ 11
unfolding everything
unsafe_box_reversed = refl

recovery_box_of_one_state : refusal (sets file_a 62 (0 ∷ 0 ∷ 0 ∷ 5 ∷ 0 ∷ 0 ∷ 0 ∷ 5 ∷ [])) ≡ 0
unfolding everything
recovery_box_of_one_state = refl

recovery_box_reversed : refusal (sets file_a 62 (0 ∷ 0 ∷ 0 ∷ 5 ∷ 0 ∷ 0 ∷ 0 ∷ 4 ∷ [])) ≡ 11
unfolding everything
recovery_box_reversed = refl

boxes_ascending_by_first_side : refusal (sets (sets two_boxes 72 (0 ∷ 0 ∷ 0 ∷ 110 ∷ 0 ∷ 0 ∷ 0 ∷ 120 ∷ 0 ∷ 0 ∷ 0 ∷ 110 ∷ 0 ∷ 0 ∷ 0 ∷ 120 ∷ [])) 90 (0 ∷ 0 ∷ 0 ∷ 111 ∷ 0 ∷ 0 ∷ 0 ∷ 120 ∷ 0 ∷ 0 ∷ 0 ∷ 110 ∷ 0 ∷ 0 ∷ 0 ∷ 120 ∷ [])) ≡ 0
unfolding two_boxes everything
boxes_ascending_by_first_side = refl

boxes_descending_by_first_side : refusal (sets (sets two_boxes 72 (0 ∷ 0 ∷ 0 ∷ 111 ∷ 0 ∷ 0 ∷ 0 ∷ 120 ∷ 0 ∷ 0 ∷ 0 ∷ 110 ∷ 0 ∷ 0 ∷ 0 ∷ 120 ∷ [])) 90 (0 ∷ 0 ∷ 0 ∷ 110 ∷ 0 ∷ 0 ∷ 0 ∷ 120 ∷ 0 ∷ 0 ∷ 0 ∷ 110 ∷ 0 ∷ 0 ∷ 0 ∷ 120 ∷ [])) ≡ 20
unfolding two_boxes everything
boxes_descending_by_first_side = refl

boxes_ascending_by_middle_side : refusal (sets (sets two_boxes 72 (0 ∷ 0 ∷ 0 ∷ 110 ∷ 0 ∷ 0 ∷ 0 ∷ 120 ∷ 0 ∷ 0 ∷ 0 ∷ 110 ∷ 0 ∷ 0 ∷ 0 ∷ 120 ∷ [])) 90 (0 ∷ 0 ∷ 0 ∷ 110 ∷ 0 ∷ 0 ∷ 0 ∷ 120 ∷ 0 ∷ 0 ∷ 0 ∷ 111 ∷ 0 ∷ 0 ∷ 0 ∷ 120 ∷ [])) ≡ 0
unfolding two_boxes everything
boxes_ascending_by_middle_side = refl

boxes_descending_by_middle_side : refusal (sets (sets two_boxes 72 (0 ∷ 0 ∷ 0 ∷ 110 ∷ 0 ∷ 0 ∷ 0 ∷ 120 ∷ 0 ∷ 0 ∷ 0 ∷ 111 ∷ 0 ∷ 0 ∷ 0 ∷ 120 ∷ [])) 90 (0 ∷ 0 ∷ 0 ∷ 110 ∷ 0 ∷ 0 ∷ 0 ∷ 120 ∷ 0 ∷ 0 ∷ 0 ∷ 110 ∷ 0 ∷ 0 ∷ 0 ∷ 120 ∷ [])) ≡ 20
unfolding two_boxes everything
boxes_descending_by_middle_side = refl

boxes_ascending_by_last_side : refusal (sets (sets two_boxes 72 (0 ∷ 0 ∷ 0 ∷ 110 ∷ 0 ∷ 0 ∷ 0 ∷ 120 ∷ 0 ∷ 0 ∷ 0 ∷ 110 ∷ 0 ∷ 0 ∷ 0 ∷ 120 ∷ [])) 90 (0 ∷ 0 ∷ 0 ∷ 110 ∷ 0 ∷ 0 ∷ 0 ∷ 120 ∷ 0 ∷ 0 ∷ 0 ∷ 110 ∷ 0 ∷ 0 ∷ 0 ∷ 121 ∷ [])) ≡ 0
unfolding two_boxes everything
boxes_ascending_by_last_side = refl

boxes_descending_by_last_side : refusal (sets (sets two_boxes 72 (0 ∷ 0 ∷ 0 ∷ 110 ∷ 0 ∷ 0 ∷ 0 ∷ 120 ∷ 0 ∷ 0 ∷ 0 ∷ 110 ∷ 0 ∷ 0 ∷ 0 ∷ 121 ∷ [])) 90 (0 ∷ 0 ∷ 0 ∷ 110 ∷ 0 ∷ 0 ∷ 0 ∷ 120 ∷ 0 ∷ 0 ∷ 0 ∷ 110 ∷ 0 ∷ 0 ∷ 0 ∷ 120 ∷ [])) ≡ 20
unfolding two_boxes everything
boxes_descending_by_last_side = refl

boxes_equal : refusal (sets (sets two_boxes 72 (0 ∷ 0 ∷ 0 ∷ 110 ∷ 0 ∷ 0 ∷ 0 ∷ 120 ∷ 0 ∷ 0 ∷ 0 ∷ 110 ∷ 0 ∷ 0 ∷ 0 ∷ 120 ∷ [])) 90 (0 ∷ 0 ∷ 0 ∷ 110 ∷ 0 ∷ 0 ∷ 0 ∷ 120 ∷ 0 ∷ 0 ∷ 0 ∷ 110 ∷ 0 ∷ 0 ∷ 0 ∷ 120 ∷ [])) ≡ 20
unfolding two_boxes everything
boxes_equal = refl

third_box_between_the_others : refusal (sets three_boxes 72 (0 ∷ 0 ∷ 0 ∷ 131 ∷ 0 ∷ 30 ∷ 132 ∷ 127 ∷ [])) ≡ 20
unfolding three_boxes everything
third_box_between_the_others = refl

box_just_above_recovery : refusal (sets file_a 52 (0 ∷ 0 ∷ 0 ∷ 101 ∷ [])) ≡ 0
unfolding everything
box_just_above_recovery = refl

box_touching_recovery_from_above : refusal (sets file_a 52 (0 ∷ 0 ∷ 0 ∷ 100 ∷ [])) ≡ 22
unfolding everything
box_touching_recovery_from_above = refl

box_just_below_recovery : refusal (sets file_a 52 (255 ∷ 225 ∷ 123 ∷ 128 ∷ 255 ∷ 255 ∷ 255 ∷ 155 ∷ [])) ≡ 0
unfolding everything
box_just_below_recovery = refl

box_touching_recovery_from_below : refusal (sets file_a 52 (255 ∷ 225 ∷ 123 ∷ 128 ∷ 255 ∷ 255 ∷ 255 ∷ 156 ∷ [])) ≡ 22
unfolding everything
box_touching_recovery_from_below = refl

recovery_within_a_box : refusal (sets file_a 52 (255 ∷ 225 ∷ 123 ∷ 128 ∷ 0 ∷ 30 ∷ 132 ∷ 128 ∷ [])) ≡ 22
unfolding everything
recovery_within_a_box = refl

box_within_recovery : refusal (sets file_a 52 (0 ∷ 0 ∷ 0 ∷ 0 ∷ 0 ∷ 0 ∷ 0 ∷ 0 ∷ [])) ≡ 22
unfolding everything
box_within_recovery = refl

box_is_recovery : refusal (sets file_a 52 (255 ∷ 255 ∷ 255 ∷ 156 ∷ 0 ∷ 0 ∷ 0 ∷ 100 ∷ [])) ≡ 22
unfolding everything
box_is_recovery = refl

box_on_recovery_in_one_variable : refusal (sets two_boxes 72 (255 ∷ 255 ∷ 255 ∷ 206 ∷ 0 ∷ 0 ∷ 0 ∷ 50 ∷ 0 ∷ 0 ∷ 0 ∷ 101 ∷ 0 ∷ 0 ∷ 0 ∷ 200 ∷ [])) ≡ 0
unfolding two_boxes everything
box_on_recovery_in_one_variable = refl

box_on_recovery_in_the_other : refusal (sets two_boxes 72 (255 ∷ 255 ∷ 254 ∷ 12 ∷ 255 ∷ 255 ∷ 255 ∷ 155 ∷ 255 ∷ 255 ∷ 255 ∷ 206 ∷ 0 ∷ 0 ∷ 0 ∷ 50 ∷ [])) ≡ 0
unfolding two_boxes everything
box_on_recovery_in_the_other = refl

box_touching_in_one_variable : refusal (sets two_boxes 72 (255 ∷ 255 ∷ 255 ∷ 206 ∷ 0 ∷ 0 ∷ 0 ∷ 50 ∷ 0 ∷ 0 ∷ 0 ∷ 100 ∷ 0 ∷ 0 ∷ 0 ∷ 200 ∷ [])) ≡ 22
unfolding two_boxes everything
box_touching_in_one_variable = refl

box_touching_at_a_corner : refusal (sets two_boxes 72 (255 ∷ 255 ∷ 255 ∷ 56 ∷ 255 ∷ 255 ∷ 255 ∷ 156 ∷ 0 ∷ 0 ∷ 0 ∷ 100 ∷ 0 ∷ 0 ∷ 0 ∷ 200 ∷ [])) ≡ 22
unfolding two_boxes everything
box_touching_at_a_corner = refl

boxes_around_recovery : refusal (sets (sets (sets three_boxes 52 (255 ∷ 255 ∷ 254 ∷ 12 ∷ 255 ∷ 255 ∷ 254 ∷ 112 ∷ [])) 62 (255 ∷ 255 ∷ 254 ∷ 212 ∷ 255 ∷ 255 ∷ 255 ∷ 56 ∷ [])) 72 (0 ∷ 0 ∷ 0 ∷ 150 ∷ 0 ∷ 0 ∷ 0 ∷ 160 ∷ [])) ≡ 0
unfolding three_boxes everything
boxes_around_recovery = refl

first_box_on_recovery : refusal (sets (sets (sets three_boxes 52 (255 ∷ 255 ∷ 254 ∷ 12 ∷ 255 ∷ 255 ∷ 255 ∷ 156 ∷ [])) 62 (0 ∷ 0 ∷ 0 ∷ 101 ∷ 0 ∷ 0 ∷ 0 ∷ 120 ∷ [])) 72 (0 ∷ 0 ∷ 0 ∷ 150 ∷ 0 ∷ 0 ∷ 0 ∷ 160 ∷ [])) ≡ 22
unfolding three_boxes everything
first_box_on_recovery = refl

second_box_on_recovery : refusal (sets (sets (sets three_boxes 52 (255 ∷ 255 ∷ 254 ∷ 12 ∷ 255 ∷ 255 ∷ 254 ∷ 112 ∷ [])) 62 (255 ∷ 255 ∷ 254 ∷ 212 ∷ 255 ∷ 255 ∷ 255 ∷ 156 ∷ [])) 72 (0 ∷ 0 ∷ 0 ∷ 150 ∷ 0 ∷ 0 ∷ 0 ∷ 160 ∷ [])) ≡ 22
unfolding three_boxes everything
second_box_on_recovery = refl

last_box_on_recovery : refusal (sets (sets (sets three_boxes 52 (255 ∷ 255 ∷ 254 ∷ 12 ∷ 255 ∷ 255 ∷ 254 ∷ 112 ∷ [])) 62 (255 ∷ 255 ∷ 254 ∷ 212 ∷ 255 ∷ 255 ∷ 255 ∷ 56 ∷ [])) 72 (0 ∷ 0 ∷ 0 ∷ 100 ∷ 0 ∷ 0 ∷ 0 ∷ 160 ∷ [])) ≡ 22
unfolding three_boxes everything
last_box_on_recovery = refl

sheet_a : refusal file_a ≡ 0
unfolding everything
sheet_a = refl

file_of_19_bytes : refusal (take 19 file_a) ≡ 1
unfolding everything
file_of_19_bytes = refl

file_of_20_bytes : refusal (take 20 file_a) ≡ 5
unfolding everything
file_of_20_bytes = refl

file_a_byte_short : refusal (take 69 file_a) ≡ 5
unfolding everything
file_a_byte_short = refl

file_a_byte_long : refusal (file_a ++ (0 ∷ [])) ≡ 5
unfolding everything
file_a_byte_long = refl

sheet_with_a_law : refusal following ≡ 0
unfolding following everything
sheet_with_a_law = refl

sheet_with_two_laws : refusal two_following ≡ 0
unfolding two_following everything
sheet_with_two_laws = refl

longest_sheet : refusal longest ≡ 0
unfolding longest everything
longest_sheet = refl

sheet_with_a_law_a_byte_short : refusal (take 77 following) ≡ 5
unfolding following everything
sheet_with_a_law_a_byte_short = refl

sheet_with_a_law_a_byte_long : refusal (following ++ (0 ∷ [])) ≡ 5
unfolding following everything
sheet_with_a_law_a_byte_long = refl

mark_of_a_law_without_it : refusal (sets file_a 22 (66 ∷ 70 ∷ [])) ≡ 5
unfolding everything
mark_of_a_law_without_it = refl

law_without_its_mark : refusal (sets following 22 (66 ∷ 68 ∷ [])) ≡ 5
unfolding following everything
law_without_its_mark = refl

file_up_to_the_first_mark : refusal (take 22 following) ≡ 5
unfolding following everything
file_up_to_the_first_mark = refl

file_with_half_the_first_mark : refusal (take 23 following) ≡ 5
unfolding following everything
file_with_half_the_first_mark = refl

later_mark_of_a_law : refusal (sets two_bands 50 (66 ∷ 70 ∷ [])) ≡ 7
unfolding two_bands everything
later_mark_of_a_law = refl

later_mark_of_none : refusal (sets two_following 58 (66 ∷ 68 ∷ [])) ≡ 7
unfolding two_following everything
later_mark_of_none = refl

divisor_0_later : refusal (sets two_following 78 (0 ∷ 0 ∷ [])) ≡ 10
unfolding two_following everything
divisor_0_later = refl

head_mark_before_counts : refusal (sets (sets file_a 0 (88 ∷ 88 ∷ [])) 2 (0 ∷ [])) ≡ 1
unfolding everything
head_mark_before_counts = refl

counts_before_times : refusal (sets (sets file_a 5 (1 ∷ [])) 6 (0 ∷ 0 ∷ [])) ≡ 2
unfolding everything
counts_before_times = refl

times_before_commands : refusal (sets (sets file_a 10 (0 ∷ 0 ∷ [])) 12 (0 ∷ 0 ∷ 0 ∷ 1 ∷ 0 ∷ 0 ∷ 0 ∷ 0 ∷ [])) ≡ 3
unfolding everything
times_before_commands = refl

commands_before_length : refusal (take 69 (sets file_a 12 (0 ∷ 0 ∷ 0 ∷ 1 ∷ 0 ∷ 0 ∷ 0 ∷ 0 ∷ []))) ≡ 4
unfolding everything
commands_before_length = refl

length_before_cap : refusal (take 69 (sets file_a 20 (0 ∷ 0 ∷ []))) ≡ 5
unfolding everything
length_before_cap = refl

cap_before_mark : refusal (sets (sets file_a 22 (88 ∷ 88 ∷ [])) 20 (0 ∷ 0 ∷ [])) ≡ 6
unfolding everything
cap_before_mark = refl

band_mark_before_edge : refusal (sets (sets file_a 22 (88 ∷ 88 ∷ [])) 24 (0 ∷ 0 ∷ 0 ∷ 0 ∷ [])) ≡ 7
unfolding everything
band_mark_before_edge = refl

edge_before_safety : refusal (sets (sets file_a 24 (0 ∷ 0 ∷ 0 ∷ 0 ∷ [])) 28 (0 ∷ 0 ∷ 0 ∷ 1 ∷ 0 ∷ 0 ∷ 0 ∷ 0 ∷ [])) ≡ 8
unfolding everything
edge_before_safety = refl

safety_before_row : refusal (sets (sets file_a 28 (0 ∷ 0 ∷ 0 ∷ 1 ∷ 0 ∷ 0 ∷ 0 ∷ 0 ∷ [])) 48 (0 ∷ 0 ∷ [])) ≡ 9
unfolding everything
safety_before_row = refl

row_before_next_mark : refusal (sets (sets two_bands 48 (0 ∷ 0 ∷ [])) 50 (88 ∷ 88 ∷ [])) ≡ 10
unfolding two_bands everything
row_before_next_mark = refl

row_before_unsafe_mark : refusal (sets (sets file_a 50 (88 ∷ 88 ∷ [])) 48 (0 ∷ 0 ∷ [])) ≡ 10
unfolding everything
row_before_unsafe_mark = refl

unsafe_mark_before_side : refusal (sets (sets file_a 50 (88 ∷ 88 ∷ [])) 52 (0 ∷ 0 ∷ 0 ∷ 1 ∷ 0 ∷ 0 ∷ 0 ∷ 0 ∷ [])) ≡ 7
unfolding everything
unsafe_mark_before_side = refl

unsafe_side_before_mark : refusal (sets (sets file_a 60 (88 ∷ 88 ∷ [])) 52 (0 ∷ 0 ∷ 0 ∷ 1 ∷ 0 ∷ 0 ∷ 0 ∷ 0 ∷ [])) ≡ 11
unfolding everything
unsafe_side_before_mark = refl

recovery_mark_before_side : refusal (sets (sets file_a 60 (88 ∷ 88 ∷ [])) 62 (0 ∷ 0 ∷ 0 ∷ 1 ∷ 0 ∷ 0 ∷ 0 ∷ 0 ∷ [])) ≡ 7
unfolding everything
recovery_mark_before_side = refl

box_mark_before_order : refusal (sets (sets three_boxes 62 (0 ∷ 0 ∷ 0 ∷ 129 ∷ [])) 60 (88 ∷ 88 ∷ [])) ≡ 7
unfolding three_boxes everything
box_mark_before_order = refl

box_side_before_order : refusal (sets three_boxes 62 (0 ∷ 0 ∷ 0 ∷ 129 ∷ 0 ∷ 0 ∷ 0 ∷ 128 ∷ [])) ≡ 11
unfolding three_boxes everything
box_side_before_order = refl

order_before_next_mark : refusal (sets (sets three_boxes 62 (0 ∷ 0 ∷ 0 ∷ 129 ∷ [])) 70 (88 ∷ 88 ∷ [])) ≡ 20
unfolding three_boxes everything
order_before_next_mark = refl

order_before_next_side : refusal (sets (sets three_boxes 62 (0 ∷ 0 ∷ 0 ∷ 129 ∷ [])) 72 (0 ∷ 0 ∷ 0 ∷ 1 ∷ 0 ∷ 0 ∷ 0 ∷ 0 ∷ [])) ≡ 20
unfolding three_boxes everything
order_before_next_side = refl

recovery_mark_before_overlap : refusal (sets (sets file_a 52 (0 ∷ 0 ∷ 0 ∷ 100 ∷ [])) 60 (88 ∷ 88 ∷ [])) ≡ 7
unfolding everything
recovery_mark_before_overlap = refl

recovery_side_before_overlap : refusal (sets (sets file_a 52 (0 ∷ 0 ∷ 0 ∷ 100 ∷ [])) 62 (255 ∷ 240 ∷ 189 ∷ 191 ∷ [])) ≡ 11
unfolding everything
recovery_side_before_overlap = refl

order_before_overlap : refusal (sets (sets three_boxes 62 (0 ∷ 0 ∷ 0 ∷ 129 ∷ [])) 86 (0 ∷ 0 ∷ 0 ∷ 150 ∷ [])) ≡ 20
unfolding three_boxes everything
order_before_overlap = refl

safety_before_law : refusal (sets (sets following 28 (0 ∷ 0 ∷ 0 ∷ 1 ∷ 0 ∷ 0 ∷ 0 ∷ 0 ∷ [])) 42 (0 ∷ 0 ∷ [])) ≡ 9
unfolding following everything
safety_before_law = refl

law_before_next_mark : refusal (sets (sets two_following 42 (0 ∷ 0 ∷ [])) 58 (88 ∷ 88 ∷ [])) ≡ 10
unfolding two_following everything
law_before_next_mark = refl

room_just_enough : write_refusal (values file_a) (replicate 70 0) 0 ≡ 0
unfolding everything
room_just_enough = refl

room_a_byte_short : write_refusal (values file_a) (replicate 69 0) 0 ≡ 17
unfolding everything
room_a_byte_short = refl

room_from_a_place : write_refusal (values file_a) (replicate 75 0) 5 ≡ 0
unfolding everything
room_from_a_place = refl

room_from_a_place_a_byte_short : write_refusal (values file_a) (replicate 74 0) 5 ≡ 17
unfolding everything
room_from_a_place_a_byte_short = refl

place_past_the_buffer : write_refusal (values file_a) (replicate 70 0) 71 ≡ 17
unfolding everything
place_past_the_buffer = refl

greatest_place : write_refusal (values file_a) (replicate 70 0) 18446744073709551615 ≡ 17
unfolding everything
greatest_place = refl

written_rho_1000 : write_refusal (sets (values file_a) 6 (pos 1000 ∷ [])) (replicate 70 0) 0 ≡ 0
unfolding everything
written_rho_1000 = refl

written_rho_1001 : write_refusal (sets (values file_a) 6 (pos 1001 ∷ [])) (replicate 70 0) 0 ≡ 3
unfolding everything
written_rho_1001 = refl

value_before_room : write_refusal (sets (values file_a) 6 (pos 1001 ∷ [])) (replicate 69 0) 0 ≡ 3
unfolding everything
value_before_room = refl

written_boxes : write_refusal (values three_boxes) (replicate 90 0) 0 ≡ 0
unfolding three_boxes everything
written_boxes = refl

boxes_a_byte_short : write_refusal (values three_boxes) (replicate 89 0) 0 ≡ 17
unfolding three_boxes everything
boxes_a_byte_short = refl

written_box_equal : write_refusal (sets (values three_boxes) (unsafe_slot 1) (pos 130 ∷ [])) (replicate 90 0) 0 ≡ 20
unfolding three_boxes everything
written_box_equal = refl

box_greater_beyond_n : write_refusal (sets (sets (values three_boxes) (unsafe_slot 1) (pos 130 ∷ [])) (unsafe_slot 1 + 1) (pos 7 ∷ [])) (replicate 90 0) 0 ≡ 20
unfolding three_boxes everything
box_greater_beyond_n = refl

order_before_room : write_refusal (sets (values three_boxes) (unsafe_slot 1) (pos 130 ∷ [])) (replicate 89 0) 0 ≡ 20
unfolding three_boxes everything
order_before_room = refl

written_box_apart : write_refusal (sets (values file_a) (unsafe_slot 0) (pos 101 ∷ [])) (replicate 70 0) 0 ≡ 0
unfolding everything
written_box_apart = refl

written_box_touching : write_refusal (sets (values file_a) (unsafe_slot 0) (pos 100 ∷ [])) (replicate 70 0) 0 ≡ 22
unfolding everything
written_box_touching = refl

box_apart_beyond_n : write_refusal (sets (sets (values file_a) (unsafe_slot 0) (pos 100 ∷ [])) (unsafe_slot 0 + 1) (pos 7 ∷ [])) (replicate 70 0) 0 ≡ 22
unfolding everything
box_apart_beyond_n = refl

box_on_recovery_beyond_the_count : write_refusal (sets (values file_a) (unsafe_slot 1) (negsuc 49 ∷ [])) (replicate 70 0) 0 ≡ 0
unfolding everything
box_on_recovery_beyond_the_count = refl

overlap_before_room : write_refusal (sets (values file_a) (unsafe_slot 0) (pos 100 ∷ [])) (replicate 69 0) 0 ≡ 22
unfolding everything
overlap_before_room = refl

written_law : write_refusal (values following) (replicate 78 0) 0 ≡ 0
unfolding following everything
written_law = refl

law_a_byte_short : write_refusal (values following) (replicate 77 0) 0 ≡ 17
unfolding following everything
law_a_byte_short = refl

written_divisor_minus_1 : write_refusal (sets (values following) 25 (negsuc 0 ∷ [])) (replicate 78 0) 0 ≡ 10
unfolding following everything
written_divisor_minus_1 = refl

written_divisor_4097 : write_refusal (sets (values following) 25 (pos 4097 ∷ [])) (replicate 78 0) 0 ≡ 10
unfolding following everything
written_divisor_4097 = refl

written_divisor_0 : write_refusal (sets (sets (values following) 25 (pos 0 ∷ [])) 18 (pos 1001 ∷ [])) (replicate 70 0) 0 ≡ 0
unfolding following everything
written_divisor_0 = refl

written_divisor_0_later : write_refusal (sets (values two_following) 96 (pos 0 ∷ [])) (replicate 200 0) 0 ≡ 10
unfolding two_following everything
written_divisor_0_later = refl

written_law_of_no_divisor : write_refusal (sets (sets (values file_a) 18 (negsuc 1000 ∷ [])) 96 (negsuc 0 ∷ [])) (replicate 70 0) 0 ≡ 0
unfolding everything
written_law_of_no_divisor = refl
