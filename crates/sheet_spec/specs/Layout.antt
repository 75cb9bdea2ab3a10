-- The sheet's records (document 01, "Sheet layout"): which fields each has, in the file's order.
use Rattle.std.specs.Prelude.{true, false, List, ℕ, zero, suc, ◌+◌, ◌*◌, ◌-◌, ◌/◌, ◌%◌, ltb, ℤ, pos, neg_ℤ, ◌+ℤ◌, ◌-ℤ◌}
use Rattle.sheet_spec.specs.Slots.{◌!◌, N, vars_slot, bands_slot, boxes_slot, band_var_slot, δ_slot, α_slot, ρ_slot, least_slot, greatest_slot, head_size, cap_slot, b_slot, c_slot, d_slot, q_slot, rest_size, constant_slot, divisor_slot, law_rest_size, law_in_band, band_slot, safety_least_slot, safety_greatest_slot, law_slot, row_slot, pair_size, recovery_slot, unsafe_slot}
use Rattle.sheet_spec.specs.Limits.{max_vars, max_bands, max_boxes, max_ticks, max_command, max_cap, max_edge, max_coefficient, max_constant, max_spread, max_divisor, max_unsafe_side, max_recovery_side}
use Rattle.sheet_spec.specs.Refusals.{Cause}
use Rattle.sheet_spec.specs.Fields.{Kind, u8, u16, i16, i32, Field}
use Rattle.sheet_spec.specs.declared.BandKind.{BandKind}
use Rattle.sheet_spec.specs.declared.BandKind.TheVariants.{Fixed, Feedback}
use Rattle.sheet_spec.specs.declared.Record.{Record}
use Rattle.sheet_spec.specs.declared.Record.TheVariants.{Head, Band, Unsafe, Recovery}

-- ---- one after another

infixr 40 ◌▸◌
-- x, and then what g has
unfoldable pub ◌▸◌ : {A : Type 0} → A → (ℕ → A) → ℕ → A
◌▸◌ x g zero = x
◌▸◌ x g (suc j) = g j

-- the first n of g, and then what h has
unfoldable pub first : {A : Type 0} → ℕ → (ℕ → A) → (ℕ → A) → ℕ → A
first n g h j = elim (ltb j n) [ true ↦ g j | false ↦ h (j - n) ]

abbrev pub always : {A : Type 0} → A → ℕ → A
always x j = x

-- m of g 0, then m of g 1, ..
unfoldable pub groups : {A : Type 0} → ℕ → (ℕ → ℕ → A) → ℕ → A
groups m g j = g (j / m) (j % m)

-- ---- fields

abbrev pub ranged : Kind → ℕ → (List ℤ → ℤ) → (List ℤ → ℤ) → Cause → Field
ranged k s l h c = record { kind = k; slot = s; least = l; greatest = h; cause = c }

-- from l to h
abbrev pub from_to : Kind → ℕ → ℕ → ℕ → Cause → Field
from_to k s l h = ranged k s (λ v. pos l) (λ v. pos h)

-- within ±h
abbrev pub plus_minus : Kind → ℕ → ℕ → Cause → Field
plus_minus k s h = ranged k s (λ v. neg_ℤ (pos h)) (λ v. pos h)

abbrev pub cap_field : ℕ → Field
cap_field i = from_to u16 (cap_slot i) 1 max_cap Cause.cap

-- n, bands, no-go boxes, band variable; δ, α, ρ; least and greatest command; caps
unfoldable pub head_fields : ℕ → Field
head_fields =
    from_to u8 vars_slot 1 max_vars Cause.counts
    ▸ from_to u8 bands_slot 1 max_bands Cause.counts
    ▸ from_to u8 boxes_slot 1 max_boxes Cause.counts
    ▸ ranged u8 band_var_slot (λ v. pos 0) (λ v. v ! vars_slot -ℤ pos 1) Cause.counts
    ▸ from_to u16 δ_slot 1 max_ticks Cause.times
    ▸ ranged u16 α_slot (λ v. pos 1) (λ v. pos max_ticks -ℤ v ! δ_slot) Cause.times
    ▸ from_to u16 ρ_slot 1 max_ticks Cause.times
    ▸ plus_minus i32 least_slot max_command Cause.commands
    ▸ ranged i32 greatest_slot (λ v. v ! least_slot) (λ v. pos max_command) Cause.commands
    ▸ cap_field

-- the first edge is given, a later one is greater than the one before it
unfoldable pub edge_field : ℕ → Field
edge_field zero = ranged i32 (band_slot 0) (λ v. neg_ℤ (pos max_edge)) (λ v. neg_ℤ (pos max_edge)) Cause.edge
edge_field (suc k) = ranged i32 (band_slot (suc k)) (λ v. v ! band_slot k +ℤ pos 1) (λ v. pos max_edge) Cause.edge

-- the coefficient of variable j in the law or the row at a slot
abbrev pub coefficient_field : ℕ → ℕ → Field
coefficient_field s j = plus_minus i16 (s + j) max_coefficient Cause.row

-- the constant and the divisor of the law at a slot
unfoldable pub law_rest : ℕ → ℕ → Field
law_rest s = plus_minus i32 (constant_slot s) max_constant Cause.row ▸ always (from_to u16 (divisor_slot s) 1 max_divisor Cause.row)

-- the law at a slot that follows the state (document 02, paper 9): n coefficients, then the rest
unfoldable pub law_fields : ℕ → ℕ → ℕ → Field
law_fields n s = first n (coefficient_field s) (law_rest s)

-- b, c, d, q of the row at a slot
unfoldable pub row_rest : ℕ → ℕ → Field
row_rest s =
    plus_minus i16 (b_slot s) max_coefficient Cause.row
    ▸ plus_minus i32 (c_slot s) max_constant Cause.row
    ▸ from_to i32 (d_slot s) 0 max_spread Cause.row
    ▸ always (from_to u16 (q_slot s) 1 max_divisor Cause.row)

-- the row at a slot: n coefficients a, then the rest
unfoldable pub row_fields : ℕ → ℕ → ℕ → Field
row_fields n s = first n (coefficient_field s) (row_rest s)

-- the number of fields of a row, of a band's law, of a band and of a box, on a sheet with n variables
abbrev pub row_count : ℕ → ℕ
row_count n = n + rest_size

abbrev pub law_count : BandKind → ℕ → ℕ
law_count Fixed n = 0
law_count Feedback n = n + law_rest_size

abbrev pub band_count : ℕ → BandKind → ℕ
band_count n b = law_in_band + (law_count b n + n * row_count n)

abbrev pub box_count : ℕ → ℕ
box_count n = n * pair_size

-- edge, safety least and greatest, the law where bands of this kind have one, n rows
unfoldable pub band_fields : ℕ → BandKind → ℕ → ℕ → Field
band_fields n b k =
    edge_field k
    ▸ ranged i32 (safety_least_slot k) (λ v. v ! least_slot) (λ v. v ! greatest_slot) Cause.safety
    ▸ ranged i32 (safety_greatest_slot k) (λ v. v ! safety_least_slot k) (λ v. v ! greatest_slot) Cause.safety
    ▸ first (law_count b n) (law_fields n (law_slot k)) (groups (row_count n) (λ i. row_fields n (row_slot k i)))

-- a lower side at a slot, within ±h, and its upper side
unfoldable pub side_fields : ℕ → ℕ → ℕ → Field
side_fields h s = plus_minus i32 s h Cause.side ▸ always (ranged i32 (s + N) (λ v. v ! s) (λ v. pos h) Cause.side)

-- the box at a slot: for each variable the two sides
unfoldable pub box_fields : ℕ → ℕ → ℕ → Field
box_fields h s = groups pair_size (λ i. side_fields h (s + i))

-- ---- records

-- the letters that a record starts with: SH, BD or BF, NG, RC
abbrev pub mark : Record → ℕ × ℕ
mark Head = (83, 72)
mark (Band Fixed k) = (66, 68)
mark (Band Feedback k) = (66, 70)
mark (Unsafe j) = (78, 71)
mark Recovery = (82, 67)

-- the fields of a record of a sheet with n variables, and how many they are
unfoldable pub fields : ℕ → Record → ℕ → Field
fields n Head = head_fields
fields n (Band b k) = band_fields n b k
fields n (Unsafe j) = box_fields max_unsafe_side (unsafe_slot j)
fields n Recovery = box_fields max_recovery_side recovery_slot

abbrev pub field_count : ℕ → Record → ℕ
field_count n Head = head_size + n
field_count n (Band b k) = band_count n b
field_count n (Unsafe j) = box_count n
field_count n Recovery = box_count n
