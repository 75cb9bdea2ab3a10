-- Where a record's fields are, and a sheet's length (document 01's formula). Assumes nothing.
use mathlib.Core.Path.{◌≡◌, refl, ap, ◌∙◌}
use mathlib.Core.List.{List}
use Prim.Native.Nat.{ℕ, zero, suc, ◌+◌, ◌*◌, ◌≤◌, ◌<◌}
use native.Mathlib.Omega.{arith}
use native.Mathlib.Nat.{zero-mul, suc-mul, mul_comm}
use lib.IntN.{ℤ}
use Rattle.sheet_spec.specs.Slots.{head_size, law_slot, row_slot, recovery_slot, unsafe_slot, vars, bands, boxes, band_kind, law_rest_size, rest_size, law_in_band, pair_size}
use Rattle.sheet_spec.specs.Fields.{u16, i16, Field, bytes_in, offset}
use Rattle.sheet_spec.specs.Sizes.{letters, caps_at, cap_bytes, law_at, law_bytes, rows_at, coefficient_bytes, row_bytes, pair_bytes, box_bytes, band_head}
use Rattle.sheet_spec.specs.Limits.{max_unsafe_side, max_recovery_side}
use Rattle.sheet_spec.specs.declared.BandKind.{BandKind}
use Rattle.sheet_spec.specs.declared.BandKind.TheVariants.{Fixed, Feedback}
use Rattle.sheet_spec.specs.declared.Record.{Record}
use Rattle.sheet_spec.specs.declared.Record.TheVariants.{Head, Band, Unsafe, Recovery}
use Rattle.sheet_spec.specs.Layout.{◌▸◌, cap_field, head_fields, edge_field, law_rest, law_fields, row_rest, row_fields, band_fields, side_fields, box_fields, fields, field_count, law_count, row_count}
use Rattle.sheet_spec.specs.declared.Shape.{Shape}
use Rattle.sheet_spec.specs.File.{shape, records, record_at, record_start}
use Rattle.sheet_spec.specs.Sheet.{length_of}
use Rattle.sheet_spec.proofs.Records.{head_at, band_at_lem, unsafe_at, recovery_at}
use Rattle.sheet_spec.proofs.FieldRuns.{FieldRun, offset_part}
use Rattle.sheet_spec.proofs.FieldPlaces.{cap_at, coefficient_at, rest_at, gain_at, law_rest_at, law_run, row_run, side_run}

-- fields of one size
offset_flat : (p : ℕ → Field) (w k : ℕ) → ((j : ℕ) → j < k → bytes_in (p j).kind ≡ w) → offset p k ≡ k * w
unfolding offset
offset_flat p w zero e = omega arith
offset_flat p w (suc k) e = rw (suc-mul k w) (omega (arith, offset_flat p w k (λ j l. e j (omega arith)), e k (omega arith)))

-- runs of m fields and w bytes each, of which run i starts at `at i`
offset_runs : (p : ℕ → Field) (q : ℕ → ℕ → Field) (at : ℕ → ℕ) (m w : ℕ) → ((i : ℕ) → at (suc i) ≡ at i + m) → ((i : ℕ) → FieldRun p (q i) (at i) m) → ((i : ℕ) → offset (q i) m ≡ w)
    → (i : ℕ) → offset p (at i) ≡ offset p (at 0) + i * w
offset_runs p q at m w e r h zero = omega (arith, zero-mul w)
offset_runs p q at m w e r h (suc i) = ap (offset p) (e i) ∙ omega (arith, offset_part p (q i) (at i) m (r i), offset_runs p q at m w e r h i, h i, suc-mul i w)

-- ---- the sheet's records

pub cap_offset : (i : ℕ) → letters + offset head_fields (head_size + i) ≡ caps_at + cap_bytes i
unfolding offset head_fields ◌▸◌
cap_offset i = omega (arith, offset_part head_fields cap_field head_size i (record { at = λ j l. cap_at j }), offset_flat cap_field (bytes_in u16) i (λ j l. refl))

pub coefficient_offset : (n s j : ℕ) → j ≤ n → offset (row_fields n s) j ≡ coefficient_bytes j
coefficient_offset n s j l = offset_flat (row_fields n s) (bytes_in i16) j (λ i k. ap (λ (x : Field). bytes_in x.kind) (coefficient_at n s i (omega arith))) ∙ mul_comm j (bytes_in i16)

pub rest_offset : (n s q : ℕ) → offset (row_fields n s) (n + q) ≡ coefficient_bytes n + offset (row_rest s) q
rest_offset n s q = offset_part (row_fields n s) (row_rest s) n q (record { at = λ j l. rest_at n s j }) ∙ omega (arith, coefficient_offset n s n (omega arith))

row_size_lem : (n s : ℕ) → offset (row_fields n s) (row_count n) ≡ row_bytes n
unfolding offset row_rest ◌▸◌
row_size_lem n s = rest_offset n s rest_size

-- the same of a law
pub gain_offset : (n s j : ℕ) → j ≤ n → offset (law_fields n s) j ≡ coefficient_bytes j
gain_offset n s j l = offset_flat (law_fields n s) (bytes_in i16) j (λ i k. ap (λ (x : Field). bytes_in x.kind) (gain_at n s i (omega arith))) ∙ mul_comm j (bytes_in i16)

pub law_rest_offset : (n s q : ℕ) → offset (law_fields n s) (n + q) ≡ coefficient_bytes n + offset (law_rest s) q
law_rest_offset n s q = offset_part (law_fields n s) (law_rest s) n q (record { at = λ j l. law_rest_at n s j }) ∙ omega (arith, gain_offset n s n (omega arith))

pub law_size_lem : (n : ℕ) (b : BandKind) (s : ℕ) → offset (law_fields n s) (law_count b n) ≡ law_bytes b n
unfolding offset law_rest ◌▸◌
law_size_lem n Fixed s = refl
law_size_lem n Feedback s = law_rest_offset n s law_rest_size

-- before a band's law: edge and safety range
pub law_offset : (n : ℕ) (b : BandKind) (k : ℕ) → offset (band_fields n b k) law_in_band ≡ law_at
unfolding offset band_fields edge_field ◌▸◌
law_offset n b zero = refl
law_offset n b (suc k) = refl

-- before its rows
rows_offset : (n : ℕ) (b : BandKind) (k : ℕ) → offset (band_fields n b k) (law_in_band + law_count b n) ≡ rows_at b n
rows_offset n b k = offset_part (band_fields n b k) (law_fields n (law_slot k)) law_in_band (law_count b n) (law_run n b k) ∙ omega (arith, law_offset n b k, law_size_lem n b (law_slot k))

-- where row i of a band starts
pub row_offset : (n : ℕ) (b : BandKind) (k i : ℕ) → offset (band_fields n b k) (law_in_band + (law_count b n + i * row_count n)) ≡ rows_at b n + i * row_bytes n
row_offset n b k i =
    let at : ℕ → ℕ = λ i. law_in_band + (law_count b n + i * row_count n) in
    let e : law_in_band + (law_count b n + 0 * row_count n) ≡ law_in_band + law_count b n = omega (arith, zero-mul (row_count n)) in
    offset_runs (band_fields n b k) (λ i. row_fields n (row_slot k i)) at (row_count n) (row_bytes n) (λ i. omega (arith, suc-mul i (row_count n))) (row_run n b k) (λ i. row_size_lem n (row_slot k i)) i
    ∙ ap (λ (a : ℕ). a + i * row_bytes n) (ap (offset (band_fields n b k)) e ∙ rows_offset n b k)

-- where the sides of variable i start
pub side_offset : (h s i : ℕ) → offset (box_fields h s) (i * pair_size) ≡ box_bytes i
unfolding offset side_fields ◌▸◌
side_offset h s i =
    offset_runs (box_fields h s) (λ i. side_fields h (s + i)) (λ i. i * pair_size) pair_size pair_bytes (λ i. suc-mul i pair_size) (side_run h s) (λ i. refl) i ∙ omega arith

-- ---- records, and the file

-- the number of bytes of a record
abbrev pub record_size : ℕ → Record → ℕ
record_size n Head = caps_at + cap_bytes n
record_size n (Band b k) = band_head + law_bytes b n + n * row_bytes n
record_size n (Unsafe j) = letters + box_bytes n
record_size n Recovery = letters + box_bytes n

pub record_size_lem : (n : ℕ) (x : Record) → letters + offset (fields n x) (field_count n x) ≡ record_size n x
unfolding fields
record_size_lem n Head = cap_offset n
record_size_lem n (Band b k) = omega (arith, row_offset n b k n)
record_size_lem n (Unsafe j) = ap (λ (a : ℕ). letters + a) (side_offset max_unsafe_side (unsafe_slot j) n)
record_size_lem n Recovery = ap (λ (a : ℕ). letters + a) (side_offset max_recovery_side recovery_slot n)

module _ (s : Shape) where
  pub start_next : (r : ℕ) {x : Record} → record_at s r ≡ x → record_start s (suc r) ≡ record_start s r + record_size s.vars x
  unfolding record_start
  start_next r e = omega (arith, record_size_lem s.vars (record_at s r) ∙ ap (record_size s.vars) e)

  -- where band k starts, and no-go box j
  pub band_start : (k : ℕ) → k ≤ s.bands → record_start s (1 + k) ≡ caps_at + cap_bytes s.vars + k * (band_head + law_bytes s.kind s.vars + s.vars * row_bytes s.vars)
  unfolding record_start
  band_start zero l = start_next 0 (head_at s) ∙ omega arith
  band_start (suc k) l =
      let e : 1 + suc k ≡ suc (1 + k) = omega arith in
      ap (record_start s) e ∙ start_next (1 + k) (band_at_lem s k l) ∙ omega (arith, band_start k (omega arith), suc-mul k (band_head + law_bytes s.kind s.vars + s.vars * row_bytes s.vars))

  pub unsafe_start : (j : ℕ) → j ≤ s.boxes → record_start s (1 + (s.bands + j)) ≡ record_start s (1 + s.bands) + j * (letters + box_bytes s.vars)
  unsafe_start zero l = let e : s.bands + 0 ≡ s.bands = omega arith in rw e (omega (arith, zero-mul (letters + box_bytes s.vars)))
  unsafe_start (suc j) l =
      let e : 1 + (s.bands + suc j) ≡ suc (1 + (s.bands + j)) = omega arith in
      ap (record_start s) e ∙ start_next (1 + (s.bands + j)) (unsafe_at s j l) ∙ omega (arith, unsafe_start j (omega arith), suc-mul j (letters + box_bytes s.vars))

  pub file_length : record_start s (records s) ≡ caps_at + cap_bytes s.vars + s.bands * (band_head + law_bytes s.kind s.vars + s.vars * row_bytes s.vars) + (letters + box_bytes s.vars) * (s.boxes + 1)
  file_length =
      let e : records s ≡ suc (1 + (s.bands + s.boxes)) = omega arith in
      ap (record_start s) e ∙ start_next (1 + (s.bands + s.boxes)) (recovery_at s)
      ∙ omega (arith, unsafe_start s.boxes (omega arith), band_start s.bands (omega arith), mul_comm (letters + box_bytes s.vars) (s.boxes + 1), suc-mul s.boxes (letters + box_bytes s.vars))

-- the length of document 01, to which a law adds 2n + 6 bytes a band (document 02, paper 9)
pub length_is : (v : List ℤ) → length_of v ≡ 20 + 2 * vars v + bands v * (14 + law_bytes (band_kind v) (vars v) + vars v * (2 * vars v + 12)) + (2 + 8 * vars v) * (boxes v + 1)
unfolding length_of
length_is v = file_length (shape v)

pub law_bytes_lem : (n : ℕ) → (law_bytes Fixed n ≡ 0) × (law_bytes Feedback n ≡ 2 * n + 6)
law_bytes_lem n = (refl, omega arith)
