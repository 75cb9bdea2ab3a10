-- Of sheets with the same no-go boxes at most one is valid (specs/OneOrder): a permutation between two ascending lists keeps their
-- order, and so moves nothing. Assumes nothing.
use mathlib.Core.Path.{◌≡◌, refl, sym, ap, ap₂, ◌∙◌, subst}
use mathlib.Core.Bool.{true}
use mathlib.Core.List.{List, ◌∷◌, ◌++◌}
use mathlib.Core.Logic.{⊎_elim}
use Prim.Native.Nat.{ℕ, zero, suc, ◌+◌, ◌-◌, ◌<◌}
use native.Mathlib.Nat.{eq-or-lt_of_le}
use native.Mathlib.Omega.{arith}
use lib.IntN.{ℤ}
use Rattle.sheet_spec.specs.Slots.{N, unsafe_slot, pair_size, vars, boxes, unsafe_box}
use Rattle.sheet_spec.specs.Box.{SameSides}
use Rattle.sheet_spec.specs.Order.{precedes, ascends_at}
use Rattle.sheet_spec.specs.Valid.{Ascending, Valid}
use Rattle.sheet_spec.specs.Limits.{max_unsafe_side}
use Rattle.sheet_spec.specs.Fields.{Field, encoded, coded}
use Rattle.sheet_spec.specs.declared.Shape.{Shape}
use Rattle.sheet_spec.specs.Layout.{◌▸◌, side_fields, box_fields, mark, box_count}
use Rattle.sheet_spec.specs.File.{shape, records, record_at, fields_at, field_count_at, coded_all}
use Rattle.sheet_spec.specs.Sheet.{bytes_of}
use Rattle.sheet_spec.proofs.Box.{box_lo, box_hi}
use Rattle.sheet_spec.proofs.Order.{not_itself, precedes_then, precedes_sides}
use Rattle.sheet_spec.proofs.Streams.{Each, each_next, each_groups, lt_or_le}
use Rattle.sheet_spec.proofs.Records.{EachOf, EachField, each_field}
use Rattle.sheet_spec.proofs.Same.{Equal}
use Rattle.any_order.specs.Reordered.{Reordered}
use Rattle.any_order.specs.OneOrder.{OneOrder}
use Rattle.any_order.proofs.Permutations.{Rising, moves_nothing}
use Rattle.any_order.proofs.Reordered.{same_head, vars_same, boxes_same, same_band, same_recovery, shape_is}

ascends : {v : List ℤ} → Ascending v → (i d : ℕ) → i + suc d < boxes v → precedes (vars v) (unsafe_box v i) (unsafe_box v (i + suc d)) ≡ true
unfolding ascends_at
ascends {v} a i zero l = let e : i + 1 ≡ suc i = omega arith in rw e (a.at i (omega arith))
ascends {v} a i (suc d) l =
    let e : i + suc (suc d) ≡ suc (i + suc d) = omega arith in
    precedes_then (vars v) _ (unsafe_box v (i + suc d)) _ (ascends a i d (omega arith)) (rw e (a.at (i + suc d) (omega arith)))

pub ascending_all : {v : List ℤ} → Ascending v → (i j : ℕ) → i < j → j < boxes v → precedes (vars v) (unsafe_box v i) (unsafe_box v j) ≡ true
ascending_all {v} a i j l h = let e : i + suc (j - suc i) ≡ j = omega arith in subst (λ (j : ℕ). precedes (vars v) (unsafe_box v i) (unsafe_box v j) ≡ true) e (ascends a i (j - suc i) (omega arith))

module _ {σ : ℕ → ℕ} {v w : List ℤ} (a : Valid v) (b : Valid w) (o : Reordered σ v w) where
  abbrev n : ℕ
  n = vars v

  w_ascends : (i j : ℕ) → i < j → j < boxes v → precedes n (unsafe_box w i) (unsafe_box w j) ≡ true
  w_ascends i j l h = subst (λ (n : ℕ). precedes n (unsafe_box w i) (unsafe_box w j) ≡ true) (sym (vars_same o)) (ascending_all b.order i j l (omega (arith, boxes_same o)))

  rises : Rising (boxes v) σ
  rises i j l h =
      let p = o.permutation in
      let k : i < boxes v = omega arith in
      let back : σ j < σ i → ⊥ = λ m. not_itself n (unsafe_box v i) (precedes_then n (unsafe_box v i) (unsafe_box v j) (unsafe_box v i) (ascending_all a.order i j l h)
      (precedes_sides n (o.moved j h) (o.moved i k) ∙ w_ascends (σ j) (σ i) m (p.inside i k))) in
      ⊎_elim (λ m. m)
      (λ m. absurd (⊎_elim (λ e. omega (arith, ap p.origin e, p.origin_of i k, p.origin_of j h)) back (eq-or-lt_of_le m)))
      (lt_or_le (σ i) (σ j))

  same_box : (j : ℕ) → j < boxes v → SameSides n (unsafe_box v j) (unsafe_box w j)
  same_box j l = subst (λ (i : ℕ). SameSides n (unsafe_box v j) (unsafe_box w i)) (moves_nothing o.permutation rises j l) (o.moved j l)

  same_unsafe : (j : ℕ) → j < boxes v → Each (Equal v w) (box_fields max_unsafe_side (unsafe_slot j)) (box_count n)
  unfolding box_fields side_fields ◌▸◌
  same_unsafe j l =
      let at = unsafe_slot j in
      each_groups n pair_size _ (λ i h. each_next _ _
      (sym (box_lo v at i (room i h)) ∙ (same_box j l).lower i h ∙ box_lo w at i (room i h))
      (record { at = λ q k. sym (box_hi v at i (room i h)) ∙ (same_box j l).upper i h ∙ box_hi w at i (room i h) }))
    where
      room : (i : ℕ) → i < n → i < N
      room i h = omega (arith, a.numbers.vars_high)

  same_everywhere : EachField (Equal v w) (shape v)
  same_everywhere = each_field (shape v) (same_head o) (same_band o) same_unsafe (same_recovery o)

-- equal numbers have equal bytes
module _ (v w : List ℤ) where
  coded_same : (p : ℕ → Field) (k : ℕ) → Each (Equal v w) p k → coded p v k ≡ coded p w k
  unfolding coded
  coded_same p zero e = refl
  coded_same p (suc k) e = ap₂ ◌++◌ (coded_same p k (record { at = λ j l. e.at j (omega arith) })) (ap (encoded (p k).kind) (e.at k (omega arith)))

  module _ (s : Shape) where
    coded_all_same : (k : ℕ) → Each (EachOf (Equal v w) s.vars) (record_at s) k → coded_all s v k ≡ coded_all s w k
    unfolding coded_all
    coded_all_same zero e = refl
    coded_all_same (suc k) e =
        ap₂ ◌++◌ (coded_all_same k (record { at = λ r l. e.at r (omega arith) }))
        (ap (λ (bs : List ℕ). (mark (record_at s k)).0 ∷ ((mark (record_at s k)).1 ∷ bs)) (coded_same (fields_at s k) (field_count_at s k) (e.at k (omega arith))))

pub one_order : OneOrder
unfolding bytes_of
one_order σ v w a b o =
    let e = same_everywhere a b o in
    (record { kind = o.kind; same = λ r l j k. (e.at r l).at j k }, coded_all_same v w (shape v) (records (shape v)) e ∙ ap (λ (s : Shape). coded_all s w (records s)) (shape_is o))
