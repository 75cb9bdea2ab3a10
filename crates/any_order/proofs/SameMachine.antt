-- Sheets with the same no-go boxes in another order have the same machine: nothing that a rate reads is a side of a no-go box. Assumes nothing.
use mathlib.Core.Path.{◌≡◌, sym, ◌∙◌, subst}
use mathlib.Core.Bool.{Bool, true, false}
use mathlib.Core.List.{List}
use Prim.Native.Nat.{ℕ, ◌<◌}
use native.Mathlib.Omega.{arith}
use lib.IntN.{ℤ}
use Rattle.sheet_spec.specs.Slots.{◌!◌, bands_slot, band_var_slot, edge_in_band, least_in_band, greatest_in_band, b_in_rest, c_in_rest, d_in_rest, q_in_rest, rest_size, constant_in_law, divisor_in_law, law_rest_size, law_slot, recovery_slot, vars, bands, edge, band_kind, feedback, row, recovery_box}
use Rattle.sheet_spec.specs.Layout.{◌▸◌, law_rest, law_fields, row_rest, row_fields, band_fields, law_count}
use Rattle.sheet_spec.specs.Valid.{ValidNumbers}
use Rattle.sheet_spec.proofs.Box.{box_length}
use Rattle.sheet_spec.proofs.Streams.{Each, each_low, each_high}
use Rattle.sheet_spec.proofs.Records.{each_cap, each_law, each_row}
use Rattle.sheet_spec.proofs.Places.{edge_slot}
use Rattle.sheet_spec.proofs.Same.{Equal}
use Rattle.sheet_spec.specs.declared.BandKind.{BandKind}
use Rattle.sheet_spec.specs.declared.BandKind.TheVariants.{Feedback}
use Rattle.machine_spec.specs.Box.{side}
use Rattle.machine_spec.specs.Machine.{safety_end}
use Rattle.machine_spec.proofs.Facts.{room}
use Rattle.any_order.specs.Reordered.{Reordered}
use Rattle.any_order.proofs.Reordered.{same_head, same_count, vars_same, same_band, recovery_sides}
use Rattle.any_order.proofs.Rates.{AlikeBoxes, AlikeLaws, AlikeRows, AlikeSheets}

module _ {σ : ℕ → ℕ} {v w : List ℤ} (o : Reordered σ v w) where
  rows_alike : (k i : ℕ) → k < bands v → i < vars v → AlikeRows (vars v) (row v k i) (row w k i)
  unfolding row_fields row_rest ◌▸◌
  rows_alike k i h g =
      let e = each_row (vars v) (band_kind v) k (same_band o k h) i g in
      let a = each_low (vars v) rest_size _ _ e in
      let b = each_high (vars v) rest_size _ _ e in
      record { a = a.at; b = b.at b_in_rest (omega arith); c = b.at c_in_rest (omega arith); d = b.at d_in_rest (omega arith); q = b.at q_in_rest (omega arith) }

  laws_alike : band_kind v ≡ Feedback → (k : ℕ) → k < bands v → AlikeLaws (vars v) (feedback v k) (feedback w k)
  unfolding law_fields law_rest ◌▸◌
  laws_alike t k h =
      let e = subst (λ (b : BandKind). Each (Equal v w) (law_fields (vars v) (law_slot k)) (law_count b (vars v))) t (each_law (vars v) (band_kind v) k (same_band o k h)) in
      let a = each_low (vars v) law_rest_size _ _ e in
      let b = each_high (vars v) law_rest_size _ _ e in
      record { a = a.at; c = b.at constant_in_law (omega arith); q = b.at divisor_in_law (omega arith) }

  edges_alike : (k : ℕ) → k < bands v → edge v k ≡ edge w k
  unfolding band_fields ◌▸◌
  edges_alike k h = subst (λ (i : ℕ). v ! i ≡ w ! i) (edge_slot k) ((same_band o k h).at edge_in_band (omega arith))

  safety_alike : (up : Bool) (k : ℕ) → k < bands v → safety_end up v k ≡ safety_end up w k
  unfolding band_fields ◌▸◌
  safety_alike false k h = (same_band o k h).at least_in_band (omega arith)
  safety_alike true k h = (same_band o k h).at greatest_in_band (omega arith)

  pub same_machine : ValidNumbers v → AlikeSheets v w
  same_machine wf = record {
    room = room wf;
    var = wf.var;
    vars_same = vars_same o;
    bands_same = same_count o bands_slot (omega arith);
    var_same = same_count o band_var_slot (omega arith);
    caps = (each_cap (vars v) (same_head o)).at;
    edges = edges_alike;
    safety = safety_alike;
    kind = o.kind;
    laws = laws_alike;
    rows = rows_alike;
  }

  -- and the same recovery box
  recovery_side : ValidNumbers v → (up : Bool) (i : ℕ) → i < vars v → side up (recovery_box v) i ≡ side up (recovery_box w) i
  recovery_side wf false = (recovery_sides o wf).lower
  recovery_side wf true = (recovery_sides o wf).upper

  pub same_recovery_box : ValidNumbers v → ValidNumbers w → AlikeBoxes (vars v) (recovery_box v) (recovery_box w)
  same_recovery_box wf wf' = record {
    size = box_length v recovery_slot (omega (arith, wf.size)) ∙ sym (box_length w recovery_slot (omega (arith, wf'.size)));
    at = recovery_side wf;
  }
