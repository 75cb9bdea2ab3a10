-- Which record is the r-th, and which fields it has: what holds of each field of a sheet holds of each part, and the other way round. Assumes nothing.
use mathlib.Core.Path.{◌≡◌, refl, sym, ◌∙◌, subst}
use mathlib.Core.Logic.{⊎_elim}
use Prim.Native.Nat.{ℕ, ◌+◌, ◌*◌, ◌-◌, ◌≤◌, ◌<◌}
use native.Mathlib.Omega.{arith}
use Rattle.sheet_spec.specs.Slots.{head_size, law_slot, row_slot, recovery_slot, unsafe_slot, pair_size}
use Rattle.sheet_spec.specs.Fields.{Field}
use Rattle.sheet_spec.specs.Limits.{max_unsafe_side, max_recovery_side}
use Rattle.sheet_spec.specs.declared.BandKind.{BandKind}
use Rattle.sheet_spec.specs.declared.BandKind.TheVariants.{Fixed, Feedback}
use Rattle.sheet_spec.specs.declared.Record.{Record}
use Rattle.sheet_spec.specs.declared.Record.TheVariants.{Head, Band, Unsafe, Recovery}
use Rattle.sheet_spec.specs.Layout.{◌▸◌, first, groups, cap_field, head_fields, law_fields, row_fields, band_fields, side_fields, box_fields, fields, field_count, law_count, row_count, band_count, box_count}
use Rattle.sheet_spec.specs.declared.Shape.{Shape}
use Rattle.sheet_spec.specs.File.{Small, HasRoom, records, record_at}
use Rattle.sheet_spec.proofs.Streams.{Each, each_none, each_rest, each_low, each_high, each_group, next, first_low, first_high, first_after, lt_or_le, law_more}
use Rattle.sheet_spec.proofs.FieldPlaces.{cap_at}

module _ (s : Shape) where
  pub head_at : record_at s 0 ≡ Head
  unfolding record_at ◌▸◌
  head_at = refl

  pub band_at_lem : (k : ℕ) → k < s.bands → record_at s (1 + k) ≡ Band s.kind k
  unfolding record_at
  band_at_lem k l = next _ _ k ∙ first_low s.bands _ _ k l

  pub unsafe_at : (j : ℕ) → j < s.boxes → record_at s (1 + (s.bands + j)) ≡ Unsafe j
  unfolding record_at
  unsafe_at j l = next _ _ (s.bands + j) ∙ first_after s.bands _ _ j ∙ first_low s.boxes _ _ j l

  pub beyond_at : (j : ℕ) → s.boxes ≤ j → record_at s (1 + (s.bands + j)) ≡ Recovery
  unfolding record_at
  beyond_at j l = next _ _ (s.bands + j) ∙ first_after s.bands _ _ j ∙ first_high s.boxes _ _ j l

  pub recovery_at : record_at s (1 + (s.bands + s.boxes)) ≡ Recovery
  recovery_at = beyond_at s.boxes (omega arith)

  -- what holds of the four kinds holds of each record
  module _ (P : ℕ → Record → Type 0) where
    put : (m r : ℕ) {x : Record} → m ≡ r → record_at s m ≡ x → P m x → P r (record_at s r)
    put m r e q a = subst (λ (r : ℕ). P r (record_at s r)) e (subst (P m) (sym q) a)

    pub record_cases : P 0 Head → ((k : ℕ) → k < s.bands → P (1 + k) (Band s.kind k)) → ((j : ℕ) → j < s.boxes → P (1 + (s.bands + j)) (Unsafe j))
        → P (1 + (s.bands + s.boxes)) Recovery → (r : ℕ) → r < records s → P r (record_at s r)
    record_cases a b c d r l =
        ⊎_elim (λ (q : r < 1). put 0 r (omega arith) head_at a)
        (λ (p : 1 ≤ r).
        let k = r - 1 in
        ⊎_elim (λ (q : k < s.bands). put (1 + k) r (omega arith) (band_at_lem k q) (b k q))
        (λ (o : s.bands ≤ k).
        let j = k - s.bands in
        ⊎_elim (λ (q : j < s.boxes). put (1 + (s.bands + j)) r (omega arith) (unsafe_at j q) (c j q))
        (λ (q : s.boxes ≤ j). put (1 + (s.bands + s.boxes)) r (omega arith) recovery_at d)
        (lt_or_le j s.boxes))
        (lt_or_le k s.bands))
        (lt_or_le r 1)

  -- there is room for each record of a sheet for which there is
  pub room_at : Small s → (r : ℕ) → r < records s → HasRoom (record_at s r)
  room_at l = record_cases (λ r. HasRoom) tt (λ k h. omega (arith, l.bands)) (λ j h. omega (arith, l.boxes)) tt

-- ---- fields

-- P holds of each field of a record, of each field of a sheet
abbrev pub EachOf : (Field → Type 0) → ℕ → Record → Type 0
EachOf P n x = Each P (fields n x) (field_count n x)

abbrev pub EachField : (Field → Type 0) → Shape → Type 0
EachField P s = Each (EachOf P s.vars) (record_at s) (records s)

module _ {P : Field → Type 0} (s : Shape) where
  pub each_field : Each P head_fields (head_size + s.vars) → ((k : ℕ) → k < s.bands → Each P (band_fields s.vars s.kind k) (band_count s.vars s.kind))
      → ((j : ℕ) → j < s.boxes → Each P (box_fields max_unsafe_side (unsafe_slot j)) (box_count s.vars)) → Each P (box_fields max_recovery_side recovery_slot) (box_count s.vars) → EachField P s
  unfolding fields
  each_field a b c d = record { at = record_cases s (λ r. EachOf P s.vars) a b c d }

  module _ (g : EachField P s) where
    pub each_head : Each P head_fields (head_size + s.vars)
    unfolding fields
    each_head = subst (EachOf P s.vars) (head_at s) (g.at 0 (omega arith))

    pub each_band : (k : ℕ) → k < s.bands → Each P (band_fields s.vars s.kind k) (band_count s.vars s.kind)
    unfolding fields
    each_band k l = subst (EachOf P s.vars) (band_at_lem s k l) (g.at (1 + k) (omega arith))

    pub each_unsafe : (j : ℕ) → j < s.boxes → Each P (box_fields max_unsafe_side (unsafe_slot j)) (box_count s.vars)
    unfolding fields
    each_unsafe j l = subst (EachOf P s.vars) (unsafe_at s j l) (g.at (1 + (s.bands + j)) (omega arith))

    pub each_recovery : Each P (box_fields max_recovery_side recovery_slot) (box_count s.vars)
    unfolding fields
    each_recovery = subst (EachOf P s.vars) (recovery_at s) (g.at (1 + (s.bands + s.boxes)) (omega arith))

module _ {P : Field → Type 0} (n : ℕ) where
  pub each_cap : Each P head_fields (head_size + n) → Each P cap_field n
  each_cap h = record { at = λ i l. subst P (cap_at i) (h.at (head_size + i) (omega arith)) }

  -- a law that bands of a kind may have
  pub each_by_kind : (b : BandKind) (s : ℕ) → (b ≡ Feedback → Each P (law_fields n s) (law_count Feedback n)) → Each P (law_fields n s) (law_count b n)
  each_by_kind Fixed s h = each_none (law_fields n s)
  each_by_kind Feedback s h = h refl

  -- a band's law and rows
  module _ (b : BandKind) (k : ℕ) (h : Each P (band_fields n b k) (band_count n b)) where
    after_range : Each P (first (law_count b n) (law_fields n (law_slot k)) (groups (row_count n) (λ i. row_fields n (row_slot k i)))) (law_count b n + n * row_count n)
    unfolding band_fields
    after_range = each_rest _ _ (each_rest _ _ (each_rest _ _ (subst (Each P (band_fields n b k)) (sym (law_more (law_count b n + n * row_count n))) h)))

    pub each_law : Each P (law_fields n (law_slot k)) (law_count b n)
    each_law = each_low (law_count b n) (n * row_count n) _ _ after_range

    pub each_row : (i : ℕ) → i < n → Each P (row_fields n (row_slot k i)) (row_count n)
    each_row = each_group n (row_count n) _ (each_high (law_count b n) (n * row_count n) _ _ after_range)

  pub each_side : (h s : ℕ) → Each P (box_fields h s) (box_count n) → (i : ℕ) → i < n → Each P (side_fields h (s + i)) pair_size
  unfolding box_fields
  each_side h s = each_group n pair_size (λ i. side_fields h (s + i))
