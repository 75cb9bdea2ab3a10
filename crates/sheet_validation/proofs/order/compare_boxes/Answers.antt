-- `compare_boxes`: the sides of two boxes, variable by variable, up to one that differs. Assumes nothing.
use Rattle.std.proofs.Common.{◌≡◌, ◌∙◌, ◌+◌, ◌<◌, List, ℤ, ℕ, false, ap₂, refl, sym, arith, rules}
use Rattle.std.specs.Ordering.{int_cmp, ordering_then, is_ne}
use Rattle.std.specs.declared.cmp.Ordering.{Ordering}
use Rattle.std.specs.declared.cmp.Ordering.TheVariants.{Less, Equal, Greater}
use Rattle.sheet_spec.proofs.Box.{box_lo, box_hi}
use Rattle.sheet_spec.proofs.Order.{compare_none, compare_more, compare_decided}
use Rattle.sheet_spec.specs.Order.{compare, compare_boxes}
use Rattle.sheet_spec.specs.Slots.{◌!◌, N, box_at}
use Rattle.sheet_validation.proofs.order.compare_boxes.Goals as goal

-- what the comparison x of the sides of variable i says
turned : (v : List ℤ) (a b i : ℕ) {x lower upper : Ordering} → i < N → lower ≡ int_cmp (v ! (a + i)) (v ! (b + i)) → upper ≡ int_cmp (v ! (a + i + N)) (v ! (b + i + N))
    → x ≡ ordering_then lower upper → Equal ≡ compare_boxes i (box_at v a) (box_at v b) → x ≡ compare_boxes (i + 1) (box_at v a) (box_at v b)
unfolding compare
turned v a b i room l u is before =
    let lower = ap₂ int_cmp (sym (box_lo v a i room)) (sym (box_lo v b i room)) in
    let upper = ap₂ int_cmp (sym (box_hi v a i room)) (sym (box_hi v b i room)) in
    compare_more i (box_at v a) (box_at v b) (l ∙ lower) (u ∙ upper) is before

none : (x : Ordering) → is_ne x ≡ false → Equal ≡ x
none Less e = cc
none Equal e = refl
none Greater e = cc

pub loop-i-init : goal.loop-i-init
loop-i-init c = search (rules, compare_none)

pub returns-then-is_ne : goal.returns-then-is_ne
returns-then-is_ne c =
    compare_decided _ _ (sym c.is_ne.ensures ∙ c.if-is_ne.true) (omega arith)
    (turned c.args.v.now c.args.a c.args.b c.loop-i.i (omega arith) c.cmp-lower.ensures c.cmp-upper.ensures c.then-sides.ensures c.loop-i.invariant)

pub loop-i-preserved : goal.loop-i-preserved
loop-i-preserved c =
    none c.then-sides.result (sym c.is_ne.ensures ∙ c.if-is_ne.false)
    ∙ turned c.args.v.now c.args.a c.args.b c.loop-i.i (omega arith) c.cmp-lower.ensures c.cmp-upper.ensures c.then-sides.ensures c.loop-i.invariant
