-- What it tells that every number of a sheet lies in its range: the counts are small, and each number fits its kind. Assumes nothing.
use mathlib.Core.Path.{◌≡◌, refl, subst}
use mathlib.Core.Bool.{◌&&◌}
use mathlib.Core.List.{List}
use Prim.Native.Nat.{ℕ, zero, suc, ◌+◌, ◌*◌, ◌≤◌, ◌<◌}
use native.Mathlib.Omega.{arith}
use lib.Dec.{T}
use lib.IntN.{ℤ, pos, negsuc, neg_ℤ, nat_abs}
use lib.Signed.{◌≤ℤ◌, le_z, le_z_yes}
use mir.Facts.{and_yes}
use Rattle.integers.proofs.Z.{ints, flat}
use Rattle.sheet_spec.specs.Slots.{◌!◌, head_size, band_slot, law_slot, row_slot, recovery_slot, unsafe_slot, vars, bands, band_kind, constant_in_law, divisor_in_law, law_rest_size, vars_slot, bands_slot, boxes_slot, band_var_slot, δ_slot, α_slot, ρ_slot, least_slot, greatest_slot, rest_size, pair_size, b_in_rest, c_in_rest, d_in_rest, q_in_rest, edge_in_band, least_in_band, greatest_in_band}
use Rattle.sheet_spec.specs.Valid.{Between}
use Rattle.sheet_spec.specs.Fields.{Kind, u8, u16, i16, i32, Field}
use Rattle.sheet_spec.specs.Limits.{max_edge, max_unsafe_side, max_recovery_side}
use Rattle.sheet_spec.specs.declared.BandKind.{BandKind}
use Rattle.sheet_spec.specs.declared.BandKind.TheVariants.{Feedback}
use Rattle.sheet_spec.specs.Layout.{◌▸◌, head_fields, edge_field, law_rest, law_fields, row_rest, row_fields, band_fields, side_fields, box_fields, law_count, row_count, band_count, box_count}
use Rattle.sheet_spec.specs.File.{shape, Small}
use Rattle.sheet_spec.proofs.Streams.{Each, each_next, each_first, each_groups, each_low, each_high, law_more, caps_more}
use Rattle.sheet_spec.proofs.Tests.{InRange, AllInRange}
use Rattle.sheet_spec.proofs.Records.{EachField, each_field, each_head, each_band, each_unsafe, each_recovery, each_cap, each_by_kind, each_law, each_row, each_side}

pub abs_in : {l h : ℕ} (z : ℤ) → Between (pos l) (pos h) z → (l ≤ nat_abs z) × (nat_abs z ≤ h)
abs_in (pos n) r = (omega (ints, r.low), omega (ints, r.high))
abs_in {l} (negsuc n) r = absurd (let z : ⊥ = omega (ints, r.low) in z)

-- and the way back, of a number that is not below 0
pub in_abs : {l h : ℕ} (z : ℤ) → pos 0 ≤ℤ z → l ≤ nat_abs z → nat_abs z ≤ h → Between (pos l) (pos h) z
in_abs (pos n) p a b = record { low = omega ints; high = omega ints }
in_abs (negsuc n) p a b = absurd p.le

pub abs_is : (z : ℤ) → pos 0 ≤ℤ z → z ≡ pos (nat_abs z)
abs_is (pos n) p = refl
abs_is (negsuc n) p = absurd p.le

pub small : (v : List ℤ) → Each (InRange v) head_fields head_size → Small (shape v)
unfolding head_fields ◌▸◌
small v h = record {
  vars = omega (arith, (abs_in (v ! vars_slot) (h.at vars_slot (omega arith))).1);
  bands = (abs_in (v ! bands_slot) (h.at bands_slot (omega arith))).1;
  boxes = (abs_in (v ! boxes_slot) (h.at boxes_slot (omega arith))).1;
}

-- ---- kinds

abbrev pub least_in : Kind → ℤ
least_in u8 = pos 0
least_in u16 = pos 0
least_in i16 = negsuc 32767
least_in i32 = negsuc 2147483647

abbrev pub greatest_in : Kind → ℤ
greatest_in u8 = pos 255
greatest_in u16 = pos 65535
greatest_in i16 = pos 32767
greatest_in i32 = pos 2147483647

abbrev pub Fit : Kind → ℤ → Type 0
Fit k z = Between (least_in k) (greatest_in k) z

lit : {l h z : ℤ} → T (le_z l z && le_z z h) → Between l h z
lit {l} {h} {z} t = let q = and_yes (le_z l z) (le_z z h) t in record { low = le_z_yes q.0; high = le_z_yes q.1 }

-- what lies between numbers in a range lies in it
between : {a b l h z : ℤ} → Between l h z → Between a b l → Between a b h → Between a b z
between r p q = record { low = omega ints; high = omega ints }

-- between two literals
known : {a b l h z : ℤ} → Between l h z → T (le_z a l && le_z l b) → T (le_z a h && le_z h b) → Between a b z
known r s t = between r (lit s) (lit t)

-- a field's value fits its kind
abbrev pub FieldFits : List ℤ → Field → Type 0
FieldFits v x = Fit x.kind (v ! x.slot)

module _ (v : List ℤ) (n : ℕ) where
  head_fit : Each (InRange v) head_fields (head_size + n) → Each (FieldFits v) head_fields (head_size + n)
  unfolding head_fields ◌▸◌
  head_fit h =
      let vars = h.at vars_slot (omega arith) in
      let δ = h.at δ_slot (omega arith) in
      let least = h.at least_slot (omega arith) in
      subst (Each (FieldFits v) head_fields) (caps_more n)
      (each_next _ _ (known vars tt tt)
      (each_next _ _ (known (h.at bands_slot (omega arith)) tt tt)
      (each_next _ _ (known (h.at boxes_slot (omega arith)) tt tt)
      (each_next _ _ (between (h.at band_var_slot (omega arith)) (lit tt) (record { low = simp flat (omega (ints, vars.low)); high = simp flat (omega (ints, vars.high)) }))
      (each_next _ _ (known δ tt tt)
      (each_next _ _ (between (h.at α_slot (omega arith)) (lit tt) (record { low = simp flat (omega (ints, δ.high)); high = simp flat (omega (ints, δ.low)) }))
      (each_next _ _ (known (h.at ρ_slot (omega arith)) tt tt)
      (each_next _ _ (known least tt tt)
      (each_next _ _ (between (h.at greatest_slot (omega arith)) (known least tt tt) (lit tt))
      (record { at = λ i l. known ((each_cap n h).at i l) tt tt }))))))))))

  row_fit : (s : ℕ) → Each (InRange v) (row_fields n s) (row_count n) → Each (FieldFits v) (row_fields n s) (row_count n)
  unfolding row_fields row_rest ◌▸◌
  row_fit s h =
      let a = each_low n rest_size _ _ h in
      let b = each_high n rest_size _ _ h in
      each_first n rest_size _ _ (record { at = λ j l. known (a.at j l) tt tt })
      (each_next _ _ (known (b.at b_in_rest (omega arith)) tt tt)
      (each_next _ _ (known (b.at c_in_rest (omega arith)) tt tt)
      (each_next _ _ (known (b.at d_in_rest (omega arith)) tt tt) (record { at = λ j l. known (b.at q_in_rest (omega arith)) tt tt }))))

  law_fit : (s : ℕ) → Each (InRange v) (law_fields n s) (law_count Feedback n) → Each (FieldFits v) (law_fields n s) (law_count Feedback n)
  unfolding law_fields law_rest ◌▸◌
  law_fit s h =
      let a = each_low n law_rest_size _ _ h in
      let b = each_high n law_rest_size _ _ h in
      each_first n law_rest_size _ _ (record { at = λ j l. known (a.at j l) tt tt })
      (each_next _ _ (known (b.at constant_in_law (omega arith)) tt tt) (record { at = λ j l. known (b.at divisor_in_law (omega arith)) tt tt }))

  box_fit : (h s : ℕ) → h ≤ max_unsafe_side → Each (InRange v) (box_fields h s) (box_count n) → Each (FieldFits v) (box_fields h s) (box_count n)
  unfolding box_fields side_fields ◌▸◌
  box_fit h s l b =
      each_groups n pair_size _ (λ i k.
      let p = each_side n h s b i k in
      let e : Between (least_in i32) (greatest_in i32) (neg_ℤ (pos h)) = record { low = simp flat (omega ints); high = simp flat (omega ints) } in
      let f : Between (least_in i32) (greatest_in i32) (pos h) = record { low = omega ints; high = omega ints } in
      let lower = between (p.at 0 (omega arith)) e f in
      each_next _ _ lower (record { at = λ j l. between (p.at 1 (omega arith)) lower f }))

module _ (v : List ℤ) (g : AllInRange v) where
  edge_in : (k : ℕ) → k < bands v → Between (neg_ℤ (pos max_edge)) (pos max_edge) (v ! band_slot k)
  unfolding band_fields edge_field ◌▸◌
  edge_in zero l = known ((each_band (shape v) g 0 l).at edge_in_band (omega arith)) tt tt
  edge_in (suc k) l =
      let e = edge_in k (omega arith) in
      let b = (each_band (shape v) g (suc k) l).at edge_in_band (omega arith) in
      record { low = omega (ints, e.low, simp flat at b.low); high = b.high }

  edge_fit : (k : ℕ) → k < bands v → FieldFits v (edge_field k)
  unfolding edge_field
  edge_fit zero l = known (edge_in 0 l) tt tt
  edge_fit (suc k) l = known (edge_in (suc k) l) tt tt

  band_fit : (k : ℕ) → k < bands v → Each (FieldFits v) (band_fields (vars v) (band_kind v) k) (band_count (vars v) (band_kind v))
  unfolding head_fields band_fields ◌▸◌
  band_fit k l =
      let n = vars v in
      let h = head_fit v n (each_head (shape v) g) in
      let greatest = h.at greatest_slot (omega arith) in
      let b = each_band (shape v) g k l in
      let safety = between (b.at least_in_band (omega arith)) (h.at least_slot (omega arith)) greatest in
      let law = each_law n (band_kind v) k b in
      subst (Each (FieldFits v) (band_fields n (band_kind v) k)) (law_more (law_count (band_kind v) n + n * row_count n))
      (each_next _ _ (edge_fit k l) (each_next _ _ safety (each_next _ _ (between (b.at greatest_in_band (omega arith)) safety greatest)
      (each_first (law_count (band_kind v) n) (n * row_count n) _ _
      (each_by_kind n (band_kind v) (law_slot k) (λ e. law_fit v n (law_slot k) (subst (λ (b : BandKind). Each (InRange v) (law_fields n (law_slot k)) (law_count b n)) e law)))
      (each_groups n (row_count n) _ (λ i m. row_fit v n (row_slot k i) (each_row n (band_kind v) k b i m)))))))

  -- every number of a sheet whose numbers are all in range fits its kind
  pub all_fit : EachField (FieldFits v) (shape v)
  all_fit =
      each_field (shape v) (head_fit v (vars v) (each_head (shape v) g)) band_fit
      (λ j l. box_fit v (vars v) max_unsafe_side (unsafe_slot j) (omega arith) (each_unsafe (shape v) g j l)) (box_fit v (vars v) max_recovery_side recovery_slot (omega arith) (each_recovery (shape v) g))
