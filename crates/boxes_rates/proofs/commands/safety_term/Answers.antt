-- `safety_term` gives the outer one of a coefficient's products with the two ends of a band's safety range. Assumes nothing.
use Rattle.std.proofs.Common.{rules, ◌≡◌, ◌∙◌, ap, ap₂, sym, subst, ℕ, ◌+◌, ℤ, ◌*ℤ◌, FitsSigned, w32, w64}
use mir.Facts.{to_z-of_z}
use Rattle.integers.specs.Bound.{Bound}
use Rattle.integers.proofs.Z.{from32, fits64}
use Rattle.sheet_spec.specs.Slots.{◌!◌, least_in_band, greatest_in_band}
use Rattle.machine_spec.specs.Machine.{baseline_end}
use Rattle.machine_spec.specs.Rate.{outer}
use Rattle.machine_spec.proofs.Face.{outer_one}
use Rattle.boxes_rates.specs.Limits.{term_limit}
use Rattle.boxes_rates.proofs.commands.safety_term.Goals as goal

pub returns : goal.returns
unfolding baseline_end
returns c =
    let v = c.args.sheet.now in
    let b = c.args.coefficient in
    let at = c.args.band in
    let least_fits : FitsSigned w32 (v ! (at + least_in_band)) = search rules in
    let greatest_fits : FitsSigned w32 (v ! (at + greatest_in_band)) = search rules in
    let least_near = c.product.ensures.1 in
    let greatest_near = c.product-2.ensures.1 in
    let least_is : c.product.result ≡ b *ℤ (v ! (at + least_in_band)) =
    c.product.ensures.0 ∙ ap₂ (λ (x y : ℤ). x *ℤ y) (to_z-of_z c.ranges.coefficient) (from32 least_fits) in
    let greatest_is : c.product-2.result ≡ b *ℤ (v ! (at + greatest_in_band)) =
    c.product-2.ensures.0 ∙ ap₂ (λ (x y : ℤ). x *ℤ y) (to_z-of_z c.ranges.coefficient) (from32 greatest_fits) in
    let outer_fits : FitsSigned w64 c.outer.result = search rules in
    let outer_is : c.outer.result ≡ outer c.args.up c.product.result c.product-2.result =
    c.outer.ensures ∙ simp (to_z-of_z, fits64 least_near tt, fits64 greatest_near tt) in
    λ B.
    rw (to_z-of_z outer_fits)
    (record {
      same = λ k p.
          outer_is ∙ ap₂ (outer c.args.up) least_is greatest_is
          ∙ ap₂ (λ (x y : ℤ). outer c.args.up (b *ℤ x) (b *ℤ y)) (ap (λ (j : ℕ). v ! (j + least_in_band)) p) (ap (λ (j : ℕ). v ! (j + greatest_in_band)) p);
      near = subst (λ (z : ℤ). Bound z term_limit) (sym outer_is) (outer_one (λ z. Bound z term_limit) c.args.up least_near greatest_near);
    })
