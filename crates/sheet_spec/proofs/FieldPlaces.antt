-- Which field is where in a record, as the code's loops come to it. Assumes nothing.
use mathlib.Core.Path.{◌≡◌, ap, ◌∙◌}
use Prim.Native.Nat.{ℕ, suc, ◌+◌, ◌*◌, ◌<◌}
use native.Mathlib.Omega.{arith}
use Rattle.sheet_spec.specs.Slots.{head_size, law_in_band, law_slot, row_slot, pair_size}
use Rattle.sheet_spec.specs.declared.BandKind.{BandKind}
use Rattle.sheet_spec.specs.Layout.{◌▸◌, cap_field, coefficient_field, head_fields, law_rest, law_fields, row_rest, row_fields, band_fields, side_fields, box_fields, law_count, row_count}
use Rattle.sheet_spec.proofs.Streams.{first_low, first_after, groups_at}
use Rattle.sheet_spec.proofs.FieldRuns.{FieldRun}

pub cap_at : (i : ℕ) → head_fields (head_size + i) ≡ cap_field i
unfolding head_fields ◌▸◌
cap_at i = let e : head_size + i ≡ suc (suc (suc (suc (suc (suc (suc (suc (suc i)))))))) = omega arith in ap head_fields e

-- a row's coefficient a, and the numbers after the coefficients
pub coefficient_at : (n s j : ℕ) → j < n → row_fields n s j ≡ coefficient_field s j
unfolding row_fields
coefficient_at n s j l = first_low n _ _ j l

pub rest_at : (n s j : ℕ) → row_fields n s (n + j) ≡ row_rest s j
unfolding row_fields
rest_at n s j = first_after n _ _ j

-- the same of a law
pub gain_at : (n s j : ℕ) → j < n → law_fields n s j ≡ coefficient_field s j
unfolding law_fields
gain_at n s j l = first_low n _ _ j l

pub law_rest_at : (n s j : ℕ) → law_fields n s (n + j) ≡ law_rest s j
unfolding law_fields
law_rest_at n s j = first_after n _ _ j

-- a band's law, and its rows, which come after it
pub law_run : (n : ℕ) (b : BandKind) (k : ℕ) → FieldRun (band_fields n b k) (law_fields n (law_slot k)) law_in_band (law_count b n)
unfolding band_fields ◌▸◌
law_run n b k = record {
  at = λ j l. (let e : law_in_band + j ≡ suc (suc (suc j)) = omega arith in rw e (first_low (law_count b n) _ _ j l));
}

pub row_run : (n : ℕ) (b : BandKind) (k i : ℕ) → FieldRun (band_fields n b k) (row_fields n (row_slot k i)) (law_in_band + (law_count b n + i * row_count n)) (row_count n)
unfolding band_fields ◌▸◌
row_run n b k i = record {
  at = λ j l. (
      let e : law_in_band + (law_count b n + i * row_count n) + j ≡ suc (suc (suc (law_count b n + (i * row_count n + j)))) = omega arith in
      rw e (first_after (law_count b n) _ _ (i * row_count n + j) ∙ groups_at (row_count n) _ i j l)
      );
}

pub side_run : (h s i : ℕ) → FieldRun (box_fields h s) (side_fields h (s + i)) (i * pair_size) pair_size
unfolding box_fields
side_run h s i = record { at = λ j l. groups_at pair_size _ i j l }

-- from row i to the next
pub row_next : (n : ℕ) (b : BandKind) (i : ℕ) → law_in_band + (law_count b n + i * row_count n) + row_count n ≡ law_in_band + (law_count b n + (i + 1) * row_count n)
row_next n b i = omega arith
