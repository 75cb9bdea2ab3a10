-- Where in a file the code's loops come to a record's fields. Assumes nothing.
use mathlib.Core.Path.{◌≡◌, refl, sym, ap, ◌∙◌}
use mathlib.Core.List.{List}
use Prim.Native.Nat.{ℕ, zero, suc, ◌+◌, ◌*◌, ◌≤◌, ◌<◌}
use native.Mathlib.Omega.{arith}
use native.Mathlib.Nat.{zero-add, add-zero, mul-le-mul_right}
use lib.IntN.{ℤ}
use lib.ListN.{set, drop}
use Rattle.sheet_spec.specs.Slots.{head_size, band_slot, law_in_band, safety_least_slot, safety_greatest_slot, pair_size}
use Rattle.sheet_spec.specs.Fields.{i32, Field, decoded, test, offset, filled, bad}
use Rattle.sheet_spec.specs.Sizes.{cap_bytes, safety_least_at, safety_greatest_at, row_bytes, upper_at, box_bytes, coefficient_bytes}
use Rattle.sheet_spec.specs.declared.BandKind.{BandKind}
use Rattle.sheet_spec.specs.Layout.{◌▸◌, cap_field, coefficient_field, head_fields, edge_field, law_fields, law_rest, row_fields, row_rest, band_fields, side_fields, box_fields}
use Rattle.sheet_spec.proofs.Length.{cap_offset, rest_offset, law_rest_offset, side_offset}
use Rattle.sheet_spec.proofs.FieldRuns.{FieldRun, offset_part, offset_next, filled_run, filled_next, bad_run, bad_next, bad_none}
use Rattle.sheet_spec.proofs.FieldPlaces.{cap_at, coefficient_at, rest_at, gain_at, law_rest_at, side_run}

pub cap_run : (n : ℕ) → FieldRun head_fields cap_field head_size n
cap_run n = record { at = λ i l. cap_at i }

pub cap_place : (i : ℕ) → offset cap_field i ≡ cap_bytes i
unfolding offset head_fields ◌▸◌
cap_place i = omega (arith, cap_offset i, offset_part head_fields cap_field head_size i (cap_run i))

-- a law's or a row's fields p: n coefficients, those at a slot, and then r
pub record Coefficients (p r : ℕ → Field) (n s : ℕ) : Type 0 where
  pub run : FieldRun p (coefficient_field s) 0 n
  pub rest : (q : ℕ) → p (n + q) ≡ r q
  pub places : (q : ℕ) → offset p (n + q) ≡ coefficient_bytes n + offset r q

pub row_parts : (n s : ℕ) → Coefficients (row_fields n s) (row_rest s) n s
row_parts n s = record { run = record { at = λ i l. rw (zero-add i) (coefficient_at n s i l) }; rest = rest_at n s; places = rest_offset n s }

pub law_parts : (n s : ℕ) → Coefficients (law_fields n s) (law_rest s) n s
law_parts n s = record { run = record { at = λ i l. rw (zero-add i) (gain_at n s i l) }; rest = law_rest_at n s; places = law_rest_offset n s }

pub coefficient_place : (s j : ℕ) → offset (coefficient_field s) j ≡ coefficient_bytes j
unfolding offset
coefficient_place s zero = refl
coefficient_place s (suc j) = omega (arith, coefficient_place s j)

module _ {p r : ℕ → Field} {n s : ℕ} (parts : Coefficients p r n s) where
  -- after the coefficients
  pub filled_coefficients : (f : List ℕ) (at : ℕ) (v : List ℤ) {u : List ℤ} → u ≡ filled (coefficient_field s) f at n v → u ≡ filled p f at (n + 0) v
  unfolding filled offset
  filled_coefficients f at v hu =
      let e : 0 + n ≡ n + 0 = omega arith in
      filled_run p (coefficient_field s) 0 n parts.run f at v hu (sym (add-zero at)) refl ∙ ap (λ (k : ℕ). filled p f at k v) e

  pub bad_coefficients : (v : List ℤ) {x : ℕ} → x ≡ bad (coefficient_field s) v n → x ≡ bad p v (n + 0)
  bad_coefficients v hx =
      let e : 0 + n ≡ n + 0 = omega arith in
      bad_run p (coefficient_field s) 0 n parts.run v (bad_none p v) hx ∙ ap (bad p v) e

  -- number q of the rest
  pub filled_rest : (q : ℕ) (f : List ℕ) (at : ℕ) (v : List ℤ) (a : ℕ) {w : List ℤ} {i : ℕ} {z : ℤ} → (r q).slot ≡ i → z ≡ decoded (r q).kind (drop a f)
      → a ≡ at + coefficient_bytes n + offset r q → w ≡ filled p f at (n + q) v → set w i z ≡ filled p f at (n + suc q) v
  filled_rest q f at v a hi hz ha = filled_next p (n + q) (n + suc q) (omega arith) _ (parts.rest q) f at v a hi hz (omega (arith, parts.places q))

  pub bad_rest : (q : ℕ) (v : List ℤ) {y : ℕ} → 0 ≡ bad p v (n + q) → y ≡ test v (r q) → y ≡ bad p v (n + suc q)
  bad_rest q v = bad_next p (n + q) (n + suc q) (omega arith) (r q) (parts.rest q) v

-- a band's edge and safety range
pub band_filled : (n : ℕ) (b : BandKind) (k : ℕ) (f : List ℕ) (at : ℕ) (v : List ℤ)
    → filled (band_fields n b k) f at law_in_band v ≡ set (set (set v (band_slot k) (decoded i32 (drop at f))) (safety_least_slot k) (decoded i32 (drop (at + safety_least_at) f))) (safety_greatest_slot k) (decoded i32 (drop (at + safety_greatest_at) f))
unfolding band_fields edge_field ◌▸◌ filled offset
band_filled n b zero f at v = rw (add-zero at)
band_filled n b (suc k) f at v = rw (add-zero at)

-- row i lies within the rows
pub row_room : (n i : ℕ) → i < n → i * row_bytes n + row_bytes n ≤ n * row_bytes n
row_room n i l = omega (arith, mul-le-mul_right (row_bytes n) l)

-- a box's upper side i
pub upper_offset : (h s i : ℕ) → offset (box_fields h s) (i * pair_size + 1) ≡ box_bytes i + upper_at
unfolding side_fields ◌▸◌
upper_offset h s i =
    let e : i * pair_size + 0 ≡ i * pair_size = omega arith in
    omega (arith, offset_next (box_fields h s) (i * pair_size + 0) (i * pair_size + 1) (omega arith) _ ((side_run h s i).at 0 (omega arith)), ap (offset (box_fields h s)) e, side_offset h s i)
