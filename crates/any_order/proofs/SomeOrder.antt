-- Boxes that all differ can be put in order (specs/OneOrder, `SomeOrder`): each goes to the place that the number of boxes before it says.
-- Assumes nothing.
use mathlib.Core.Path.{◌≡◌, sym, ◌∙◌, subst}
use mathlib.Core.Bool.{Bool, true}
use mathlib.Core.List.{List}
use mathlib.Core.Logic.{⊎_elim}
use Prim.Native.Nat.{ℕ, suc, ◌<◌}
use native.Mathlib.Omega.{arith}
use lib.IntN.{ℤ}
use Rattle.sheet_spec.specs.Slots.{vars, boxes, unsafe_box}
use Rattle.sheet_spec.specs.Order.{precedes, ascends_at}
use Rattle.sheet_spec.specs.Valid.{Ascending, Valid}
use Rattle.sheet_spec.proofs.Box.{is_false}
use Rattle.sheet_spec.proofs.Order.{not_itself, precedes_then, precedes_sides, either_way}
use Rattle.sheet_spec.proofs.Validity.{valid_accepted}
use Rattle.sheet_spec.proofs.RoundTrip.{read_write}
use Rattle.any_order.specs.Reordered.{Reordered}
use Rattle.any_order.specs.OneOrder.{Distinct, SomeOrder}
use Rattle.any_order.proofs.Permutations.{StrictOrder, rank, ranked, ranked_before}
use Rattle.any_order.proofs.Reordered.{vars_same, boxes_same, clear_moved}
use Rattle.any_order.proofs.EveryOrder.{every_order}

module _ (v : List ℤ) (d : Distinct v) where
  abbrev before : ℕ → ℕ → Bool
  before i j = precedes (vars v) (unsafe_box v i) (unsafe_box v j)

  strict : StrictOrder (boxes v) before
  strict = record {
    never = λ i l. is_false (before i i) (not_itself (vars v) (unsafe_box v i));
    chain = λ i j k. precedes_then (vars v) (unsafe_box v i) (unsafe_box v j) (unsafe_box v k);
    either = λ i j l h. ⊎_elim (λ same. absurd (d.apart i j l (omega arith) same)) (λ e. e) (either_way (vars v) (unsafe_box v i) (unsafe_box v j));
  }

  -- a sheet that has each box at its place ascends
  placed_ascends : (w : List ℤ) → Reordered (rank strict) v w → Ascending w
  unfolding ascends_at
  placed_ascends w o = record { at = λ j l. subst (λ (n : ℕ). precedes n (unsafe_box w j) (unsafe_box w (suc j)) ≡ true) (vars_same o) (next j (omega (arith, boxes_same o))) }
    where
      next : (j : ℕ) → suc j < boxes v → precedes (vars v) (unsafe_box w j) (unsafe_box w (suc j)) ≡ true
      next j l =
          let p = o.permutation in
          let h : j < boxes v = omega arith in
          let a = p.of_origin j h in
          let b = p.of_origin (suc j) l in
          subst (λ (x : ℕ). precedes (vars v) (unsafe_box w x) (unsafe_box w (suc j)) ≡ true) a
          (subst (λ (y : ℕ). precedes (vars v) (unsafe_box w (rank strict (p.origin j))) (unsafe_box w y) ≡ true) b
          (sym (precedes_sides (vars v) (o.moved (p.origin j) (p.origin_inside j h)) (o.moved (p.origin (suc j)) (p.origin_inside (suc j) l)))
          ∙ ranked_before strict (p.origin j) (p.origin (suc j)) (p.origin_inside j h) (p.origin_inside (suc j) l) (omega (arith, a, b))))

pub some_order : SomeOrder
some_order v wf d clear =
    let s = strict v d in
    let r = every_order (rank s) v wf (ranked s) in
    let a : Valid r.sheet = record { numbers = r.numbers; order = placed_ascends v d r.sheet r.reordered; clear = clear_moved r.reordered wf clear } in
    record { sheet = r.sheet; σ = rank s; reordered = r.reordered; valid = a; accepted = (read_write r.sheet (valid_accepted a)).0 }
