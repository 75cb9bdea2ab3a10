-- What two sheets with the same no-go boxes in another order have in common. Assumes nothing.
use mathlib.Core.Path.{◌≡◌, refl, sym, ap, ◌∙◌, subst}
use mathlib.Core.Bool.{false}
use mathlib.Core.List.{List}
use Prim.Native.Nat.{ℕ, ◌+◌, ◌<◌}
use native.Mathlib.Omega.{arith}
use lib.IntN.{ℤ, nat_abs}
use Rattle.sheet_spec.specs.Slots.{◌!◌, head_size, vars_slot, bands_slot, boxes_slot, recovery_slot, vars, boxes, band_kind, recovery_box, unsafe_box}
use Rattle.sheet_spec.specs.Limits.{max_recovery_side}
use Rattle.sheet_spec.specs.declared.Record.{Record}
use Rattle.sheet_spec.specs.declared.Shape.{Shape}
use Rattle.sheet_spec.specs.Layout.{head_fields, band_fields, box_fields, fields, band_count, box_count}
use Rattle.sheet_spec.specs.File.{shape, records, record_at}
use Rattle.sheet_spec.specs.Box.{SameSides, meets}
use Rattle.sheet_spec.specs.Valid.{ValidNumbers, RecoveryClear}
use Rattle.sheet_spec.proofs.Box.{meets_sides}
use Rattle.sheet_spec.proofs.Streams.{Each}
use Rattle.sheet_spec.proofs.Records.{EachOf, head_at, band_at_lem, recovery_at}
use Rattle.sheet_spec.proofs.Places.{head_slot}
use Rattle.sheet_spec.proofs.Same.{Equal, box_same}
use Rattle.sheet_spec.proofs.Accepted.{shape_same}
use Rattle.machine_spec.proofs.Facts.{room}
use Rattle.any_order.specs.Reordered.{is_unsafe, Reordered}

module _ {σ : ℕ → ℕ} {v w : List ℤ} (o : Reordered σ v w) where
  abbrev s : Shape
  s = shape v

  -- a record that is not a no-go box
  same_record : (r : ℕ) → r < records s → {x : Record} → record_at s r ≡ x → is_unsafe x ≡ false → EachOf (Equal v w) s.vars x
  same_record r l {x} e f =
      subst (EachOf (Equal v w) s.vars) e (record { at = λ j k. o.same r (omega arith) (ap is_unsafe e ∙ f) j k })

  pub same_head : Each (Equal v w) head_fields (head_size + s.vars)
  unfolding fields
  same_head = same_record 0 (omega arith) (head_at s) refl

  pub same_band : (k : ℕ) → k < s.bands → Each (Equal v w) (band_fields s.vars s.kind k) (band_count s.vars s.kind)
  unfolding fields
  same_band k l = same_record (1 + k) (omega arith) (band_at_lem s k l) refl

  pub same_recovery : Each (Equal v w) (box_fields max_recovery_side recovery_slot) (box_count s.vars)
  unfolding fields
  same_recovery = same_record (1 + (s.bands + s.boxes)) (omega arith) (recovery_at s) refl

  -- the head's numbers, and what is counted
  same_number : (i : ℕ) → i < head_size → v ! i ≡ w ! i
  same_number i l = let e : (head_fields i).slot ≡ i = omega (arith, head_slot i) in subst (λ (i : ℕ). v ! i ≡ w ! i) e (same_head.at i (omega arith))

  pub same_count : (i : ℕ) → i < head_size → nat_abs (v ! i) ≡ nat_abs (w ! i)
  same_count i l = ap nat_abs (same_number i l)

  pub vars_same : vars v ≡ vars w
  vars_same = same_count vars_slot (omega arith)

  pub boxes_same : boxes v ≡ boxes w
  boxes_same = same_count boxes_slot (omega arith)

  pub shape_is : shape v ≡ shape w
  shape_is = shape_same v w (band_kind w) (same_number vars_slot (omega arith)) (same_number bands_slot (omega arith)) (same_number boxes_slot (omega arith)) o.kind

  -- ---- the recovery box

  module _ (wf : ValidNumbers v) where
    pub recovery_sides : SameSides (vars v) (recovery_box v) (recovery_box w)
    recovery_sides = box_same v w (vars v) max_recovery_side recovery_slot (room wf) same_recovery

    -- it shares no state with a no-go box, in whatever order they are
    pub clear_moved : RecoveryClear v → RecoveryClear w
    clear_moved a = record {
      at = λ j l.
          let p = o.permutation in
          let h : j < boxes v = omega (arith, boxes_same, l) in
          let k = p.origin j in
          let i = p.origin_inside j h in
          subst (λ (n : ℕ). meets n (recovery_box w) (unsafe_box w j) ≡ false) vars_same
          (subst (λ (x : ℕ). meets (vars v) (recovery_box w) (unsafe_box w x) ≡ false) (p.of_origin j h)
          (sym (meets_sides (vars v) recovery_sides (o.moved k (omega (arith, i)))) ∙ a.at k i));
    }
