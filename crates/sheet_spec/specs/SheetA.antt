-- Document 01's sheet A as a file.
use Rattle.std.specs.Prelude.{List, [], ◌∷◌, ◌++◌, ℕ}

-- SH: n, bands, no-go boxes, band variable; δ, α, ρ; commands −25..25; cap 5
abbrev pub head_a : List ℕ
head_a = 83 ∷ 72 ∷ 1 ∷ 1 ∷ 1 ∷ 0 ∷ 0 ∷ 4 ∷ 0 ∷ 4 ∷ 0 ∷ 4 ∷ 255 ∷ 255 ∷ 255 ∷ 231 ∷ 0 ∷ 0 ∷ 0 ∷ 25 ∷ 0 ∷ 5 ∷ []

-- BD: edge −2,000,000; safety 0..0; a = −1, b = 4, c = 0, d = 0, q = 20
abbrev pub band_a : List ℕ
band_a =
    66 ∷ 68 ∷ 255 ∷ 225 ∷ 123 ∷ 128 ∷ 0 ∷ 0 ∷ 0 ∷ 0 ∷ 0 ∷ 0 ∷ 0 ∷ 0 ∷ 255 ∷ 255 ∷ 0 ∷ 4 ∷ 0 ∷ 0 ∷ 0 ∷ 0 ∷ 0 ∷ 0 ∷ 0 ∷ 0 ∷ 0 ∷ 20 ∷ []

-- NG: 130..2,000,000. RC: −100..100
abbrev pub boxes_a : List ℕ
boxes_a = 78 ∷ 71 ∷ 0 ∷ 0 ∷ 0 ∷ 130 ∷ 0 ∷ 30 ∷ 132 ∷ 128 ∷ 82 ∷ 67 ∷ 255 ∷ 255 ∷ 255 ∷ 156 ∷ 0 ∷ 0 ∷ 0 ∷ 100 ∷ []

unfoldable pub file_a : List ℕ
file_a = head_a ++ (band_a ++ boxes_a)
