-- Two values that agree up to the counts pass the same tests. Assumes nothing.
use mathlib.Core.Path.{◌≡◌, refl, sym, ap, ◌∙◌, subst}
use mathlib.Core.Bool.{Bool}
use mathlib.Core.List.{List}
use Prim.Native.Nat.{ℕ, zero, suc, ◌+◌, ◌*◌, ◌≤◌, ◌<◌}
use native.Mathlib.Omega.{arith}
use lib.IntN.{ℤ}
use lib.Signed.{◌≤ℤ◌}
use Rattle.sheet_spec.specs.Slots.{◌!◌, N, head_size, band_slot, law_slot, row_slot, recovery_slot, unsafe_slot, box_at, unsafe_box, vars_slot, δ_slot, least_slot, greatest_slot, law_rest_size, rest_size, pair_size, edge_in_band, least_in_band}
use Rattle.sheet_spec.specs.Fields.{Field}
use Rattle.sheet_spec.specs.Limits.{max_unsafe_side, max_recovery_side}
use Rattle.sheet_spec.specs.Layout.{◌▸◌, head_fields, edge_field, law_rest, law_fields, row_rest, row_fields, band_fields, side_fields, box_fields, law_count, row_count, band_count, box_count}
use Rattle.sheet_spec.specs.declared.BandKind.TheVariants.{Feedback}
use Rattle.sheet_spec.specs.declared.Shape.{Shape}
use Rattle.sheet_spec.specs.Box.{SameSides}
use Rattle.sheet_spec.specs.Refusals.{Cause, refuse_unless}
use Rattle.sheet_spec.specs.File.{records, record_at, order_test, overlap_test, closing}
use Rattle.sheet_spec.proofs.Streams.{Each, each_next, each_first, each_groups, law_more, caps_more}
use Rattle.sheet_spec.proofs.Records.{record_cases, each_by_kind, EachField, each_field, each_head, each_band, each_unsafe, each_recovery, each_side}
use Rattle.sheet_spec.proofs.Tests.{InRange, Good, good_ranges}
use Rattle.sheet_spec.proofs.Places.{edge_slot}
use Rattle.sheet_spec.proofs.Box.{box_lo, box_hi, clear_sides}
use Rattle.sheet_spec.proofs.Order.{ascends_sides}

-- ---- a field: its value is the same in both, and so are the ends of its range

module _ (v w : List ℤ) where
  abbrev pub Equal : Field → Type 0
  Equal x = v ! x.slot ≡ w ! x.slot

  pub record Ends (x : Field) : Type 0 where
    pub least : x.least v ≡ x.least w
    pub greatest : x.greatest v ≡ x.greatest w

  given : {x : Field} → x.least v ≡ x.least w → x.greatest v ≡ x.greatest w → Ends x
  given a b = record { least = a; greatest = b }

  moved : {p : ℕ → Field} {k : ℕ} → Each Equal p k → Each Ends p k → Each (InRange v) p k → Each (InRange w) p k
  moved {p} e d r = record {
    at = λ j l. record {
      low = subst (λ (z : ℤ). z ≤ℤ w ! (p j).slot) (d.at j l).least (subst (λ (z : ℤ). (p j).least v ≤ℤ z) (e.at j l) (r.at j l).low);
      high = subst (λ (z : ℤ). w ! (p j).slot ≤ℤ z) (d.at j l).greatest (subst (λ (z : ℤ). z ≤ℤ (p j).greatest v) (e.at j l) (r.at j l).high);
    };
  }

  -- ---- records

  head_ends : (n : ℕ) → Each Equal head_fields (head_size + n) → Each Ends head_fields (head_size + n)
  unfolding head_fields ◌▸◌
  head_ends n h =
      let vars = h.at vars_slot (omega arith) in
      let δ = h.at δ_slot (omega arith) in
      let least = h.at least_slot (omega arith) in
      subst (Each Ends head_fields) (caps_more n)
      (each_next _ _ (given refl refl)
      (each_next _ _ (given refl refl)
      (each_next _ _ (given refl refl)
      (each_next _ _ (given refl (cc vars))
      (each_next _ _ (given refl refl)
      (each_next _ _ (given refl (cc δ))
      (each_next _ _ (given refl refl)
      (each_next _ _ (given refl refl)
      (each_next _ _ (given least refl) (record { at = λ i l. given refl refl }))))))))))

  row_ends : (n s : ℕ) → Each Ends (row_fields n s) (row_count n)
  unfolding row_fields row_rest
  row_ends n s =
      each_first n rest_size _ _ (record { at = λ j l. given refl refl })
      (each_next _ _ (given refl refl) (each_next _ _ (given refl refl) (each_next _ _ (given refl refl) (record { at = λ j l. given refl refl }))))

  law_ends : (n s : ℕ) → Each Ends (law_fields n s) (law_count Feedback n)
  unfolding law_fields law_rest
  law_ends n s = each_first n law_rest_size _ _ (record { at = λ j l. given refl refl }) (each_next _ _ (given refl refl) (record { at = λ j l. given refl refl }))

  box_ends : (n h s : ℕ) → Each Equal (box_fields h s) (box_count n) → Each Ends (box_fields h s) (box_count n)
  unfolding box_fields side_fields ◌▸◌
  box_ends n h s e =
      each_groups n pair_size _ (λ i l. each_next _ _ (given refl refl) (record { at = λ j k. given ((each_side n h s e i l).at 0 (omega arith)) refl }))

  -- the boxes themselves
  pub box_same : (n h s : ℕ) → n ≤ N → Each Equal (box_fields h s) (box_count n) → SameSides n (box_at v s) (box_at w s)
  unfolding side_fields ◌▸◌
  box_same n h s room e =
      let p = each_side n h s e in
      record {
        lower = λ i l. box_lo v s i (omega arith) ∙ (p i l).at 0 (omega arith) ∙ sym (box_lo w s i (omega arith));
        upper = λ i l. box_hi v s i (omega arith) ∙ (p i l).at 1 (omega arith) ∙ sym (box_hi w s i (omega arith));
      }

  -- ---- sheets

  module _ (s : Shape) (e : EachField Equal s) where
    edge_ends : (k : ℕ) → k < s.bands → Ends (edge_field k)
    unfolding band_fields edge_field ◌▸◌
    edge_ends zero l = given refl refl
    edge_ends (suc k) l = given (cc (edge_same k (omega arith))) refl
      where
        edge_same : (k : ℕ) → k < s.bands → v ! band_slot k ≡ w ! band_slot k
        edge_same k l = subst (λ (i : ℕ). v ! i ≡ w ! i) (edge_slot k) ((each_band s e k l).at edge_in_band (omega arith))

    band_ends : (k : ℕ) → k < s.bands → Each Ends (band_fields s.vars s.kind k) (band_count s.vars s.kind)
    unfolding head_fields band_fields ◌▸◌
    band_ends k l =
        let n = s.vars in
        let greatest = (each_head s e).at greatest_slot (omega arith) in
        subst (Each Ends (band_fields n s.kind k)) (law_more (law_count s.kind n + n * row_count n))
        (each_next _ _ (edge_ends k l)
        (each_next _ _ (given ((each_head s e).at least_slot (omega arith)) greatest)
        (each_next _ _ (given ((each_band s e k l).at least_in_band (omega arith)) greatest)
        (each_first (law_count s.kind n) (n * row_count n) _ _ (each_by_kind n s.kind (law_slot k) (λ q. law_ends n (law_slot k)))
        (each_groups n (row_count n) _ (λ i m. row_ends n (row_slot k i)))))))

    pub same_ranges : EachField (InRange v) s → EachField (InRange w) s
    same_ranges g =
        each_field s (moved (each_head s e) (head_ends s.vars (each_head s e)) (each_head s g))
        (λ k l. moved (each_band s e k l) (band_ends k l) (each_band s g k l))
        (λ j l. moved (each_unsafe s e j l) (box_ends s.vars max_unsafe_side (unsafe_slot j) (each_unsafe s e j l)) (each_unsafe s g j l))
        (moved (each_recovery s e) (box_ends s.vars max_recovery_side recovery_slot (each_recovery s e)) (each_recovery s g))

    module _ (room : s.vars ≤ N) where
      unsafe_same : (j : ℕ) → j < s.boxes → SameSides s.vars (unsafe_box v j) (unsafe_box w j)
      unsafe_same j l = box_same s.vars max_unsafe_side (unsafe_slot j) room (each_unsafe s e j l)

      -- the test of a whole record goes by the sheet's numbers up to the counts
      pub same_order : (j : ℕ) → j < s.boxes → order_test s.vars v j ≡ order_test s.vars w j
      unfolding order_test
      same_order zero l = refl
      same_order (suc j) l = ap (λ (b : Bool). refuse_unless b Cause.order) (ascends_sides s.vars v w j (unsafe_same j (omega arith)) (unsafe_same (suc j) l))

      pub same_overlap : overlap_test s.vars v s.boxes ≡ overlap_test s.vars w s.boxes
      unfolding overlap_test
      same_overlap =
          let recovery = box_same s.vars max_recovery_side recovery_slot room (each_recovery s e) in
          ap (λ (b : Bool). refuse_unless b Cause.overlap) (clear_sides s.vars v w s.boxes recovery unsafe_same)

      pub same_closing : (r : ℕ) → r < records s → closing v s (record_at s r) ≡ closing w s (record_at s r)
      unfolding closing
      same_closing = record_cases s (λ r x. closing v s x ≡ closing w s x) refl (λ k l. refl) same_order same_overlap

      pub same_good : Each (Good v s) (record_at s) (records s) → Each (Good w s) (record_at s) (records s)
      same_good g = record { at = λ r l. record { ranges = (same_ranges (good_ranges v s g)).at r l; closed = sym (same_closing r l) ∙ (g.at r l).closed } }

  -- the head alone, up to the commands
  pub same_head : Each Equal head_fields head_size → Each (InRange v) head_fields head_size → Each (InRange w) head_fields head_size
  same_head e g = moved e (head_ends 0 e) g
