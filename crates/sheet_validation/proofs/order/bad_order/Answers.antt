-- `bad_order`: a no-go box and the one before. Assumes nothing.
use Rattle.std.proofs.Common.{suc, ◌≡◌, ◌∙◌, ◌+◌, ◌*◌, ◌-◌, List, ℤ, ℕ, Bool, ap, ap₂, sym, arith}
use Rattle.std.specs.Ordering.{is_lt}
use Rattle.std.specs.declared.cmp.Ordering.{Ordering}
use Rattle.sheet_spec.proofs.Order.{order_first, order_next}
use Rattle.sheet_spec.specs.Order.{compare_boxes}
use Rattle.sheet_spec.specs.File.{order_test}
use Rattle.sheet_spec.specs.Refusals.{Cause, refuse_unless}
use Rattle.sheet_spec.specs.Slots.{box_size, unsafe_slot, box_at}
use Rattle.sheet_validation.proofs.order.bad_order.Goals as goal

-- what the comparison x of box j with the one before says
tested : (n : ℕ) (v : List ℤ) (j : ℕ) {x : Ordering} {t : Bool} → (j ≡ 0 → ⊥)
    → x ≡ compare_boxes n (box_at v (unsafe_slot 0 + j * box_size - box_size)) (box_at v (unsafe_slot 0 + j * box_size)) → is_lt x ≡ t → refuse_unless t Cause.order ≡ order_test n v j
tested n v j later is less =
    let i = j - 1 in
    let next : suc i ≡ j = omega (arith, later) in
    let before : unsafe_slot 0 + j * box_size - box_size ≡ unsafe_slot i = omega arith in
    let here : unsafe_slot 0 + j * box_size ≡ unsafe_slot (suc i) = omega arith in
    ap (λ (t : Bool). refuse_unless t Cause.order) (sym less)
    ∙ order_next n v i (ap₂ (λ (s t : ℕ). compare_boxes n (box_at v s) (box_at v t)) (sym before) (sym here) ∙ sym is) ∙ ap (order_test n v) next

pub returns-then-j-eq0 : goal.returns-then-j-eq0
returns-then-j-eq0 c = order_first _ _ ∙ ap (order_test c.args.n c.args.v.now) (sym c.if-j-eq0.true)

pub returns-then-is_lt : goal.returns-then-is_lt
returns-then-is_lt c = tested c.args.n c.args.v.now c.args.j c.if-j-eq0.false c.compare_boxes.ensures (sym c.is_lt.ensures ∙ c.if-is_lt.true)

pub returns : goal.returns
returns c = tested c.args.n c.args.v.now c.args.j c.if-j-eq0.false c.compare_boxes.ensures (sym c.is_lt.ensures ∙ c.if-is_lt.false)
