-- `bad_edge`: the first band's edge, or a later one's. Assumes nothing.
use Rattle.std.proofs.Common.{suc, ◌≡◌, ◌∙◌, ◌+◌, ◌*◌, ◌-◌, ℕ, ap, refl, arith, rules, pos, ◌+ℤ◌, w64, to_z, of_z, FitsSigned}
use Rattle.integers.proofs.Z.{bound_lit, bound_read, bound_sum, fits64}
use Rattle.sheet_encoding.proofs.SlotNumber.{computed}
use Rattle.sheet_spec.specs.Fields.{test}
use Rattle.sheet_spec.specs.Layout.{edge_field}
use Rattle.sheet_spec.specs.Slots.{◌!◌, band_size, band_slot}
use Rattle.sheet_validation.proofs.bad_edge.Goals as goal

pub returns-then-k-eq0 : goal.returns-then-k-eq0
unfolding edge_field
returns-then-k-eq0 c =
    let e : 0 ≡ c.args.k = omega arith in
    c.in_range.ensures (edge_field 0) (omega arith) refl refl refl ∙ ap (λ (k : ℕ). test c.args.v.now (edge_field k)) e

pub returns : goal.returns
unfolding edge_field
returns c =
    let v = c.args.v.now in
    let j = c.args.k - 1 in
    let e : suc j ≡ c.args.k = omega (arith, c.if-k-eq0.false) in
    let s : band_slot 0 + c.args.k * band_size - band_size ≡ band_slot j = omega arith in
    let z = c.value-before.ensures in
    let f : FitsSigned w64 c.value-before.result = search rules in
    let one_more : FitsSigned w64 (to_z w64 (of_z w64 c.value-before.result) +ℤ pos 1) = fits64 (bound_sum (bound_read f z.1) (bound_lit _)) tt in
    c.in_range-2.ensures (edge_field (suc j)) (omega arith) (computed (z.0 ∙ ap (λ (i : ℕ). v ! i) s) z.1 (λ z. z +ℤ pos 1) one_more) refl refl
    ∙ ap (λ (k : ℕ). test v (edge_field k)) e
