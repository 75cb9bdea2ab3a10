-- Two sheets that have the same no-go boxes in another order (document 02, paper 2).
use Rattle.std.specs.Prelude.{◌≡◌, Bool, true, false, List, ℕ, ◌<◌, ℤ}
use Rattle.sheet_spec.specs.Slots.{◌!◌, vars, boxes, band_kind, unsafe_box}
use Rattle.sheet_spec.specs.Box.{SameSides}
use Rattle.sheet_spec.specs.declared.Record.{Record}
use Rattle.sheet_spec.specs.declared.Record.TheVariants.{Head, Band, Unsafe, Recovery}
use Rattle.sheet_spec.specs.File.{shape, records, record_at, fields_at, field_count_at}

-- σ is a permutation of the numbers below n, and `origin` undoes it
pub record Permutation (n : ℕ) (σ : ℕ → ℕ) : Type 0 where
  pub inside : (j : ℕ) → j < n → σ j < n
  pub origin : ℕ → ℕ
  pub origin_inside : (j : ℕ) → j < n → origin j < n
  pub origin_of : (j : ℕ) → j < n → origin (σ j) ≡ j
  pub of_origin : (j : ℕ) → j < n → σ (origin j) ≡ j

-- the record is a no-go box
abbrev pub is_unsafe : Record → Bool
is_unsafe Head = false
is_unsafe (Band b k) = false
is_unsafe (Unsafe j) = true
is_unsafe Recovery = false

-- v and w agree in the kind of their bands and in every number up to their counts but the no-go boxes, and box j of v is box σ j of w
pub record Reordered (σ : ℕ → ℕ) (v w : List ℤ) : Type 0 where
  pub kind : band_kind v ≡ band_kind w
  pub same : (r : ℕ) → r < records (shape v) → is_unsafe (record_at (shape v) r) ≡ false → (j : ℕ) → j < field_count_at (shape v) r
      → v ! (fields_at (shape v) r j).slot ≡ w ! (fields_at (shape v) r j).slot
  pub permutation : Permutation (boxes v) σ
  pub moved : (j : ℕ) → j < boxes v → SameSides (vars v) (unsafe_box v j) (unsafe_box w (σ j))
