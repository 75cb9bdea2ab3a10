-- `span_term` gives the outer one of a coefficient's products with the ends of a span: one product, with the end that its sign chooses.
-- Assumes nothing.
use Rattle.std.proofs.Common.{rules, arith, ◌≡◌, ◌∙◌, ap, ℤ, FitsSigned, w64, ◌*ℤ◌}
use mir.Facts.{to_z-of_z}
use Rattle.integers.specs.Bound.{Bound}
use Rattle.integers.proofs.Z.{fits64}
use Rattle.boxes_arithmetic.specs.Limits.{word}
use Rattle.boxes_rates.specs.Limits.{outer_end}
use Rattle.boxes_rates.proofs.Terms.{outer_end_one, same_end, outer_product}
use Rattle.boxes_rates.proofs.row.span_term.Goals.{After-outer_end}
use Rattle.boxes_rates.proofs.row.span_term.Goals as goal

-- the end that is chosen
end_is : (c : After-outer_end) → c.outer_end.result ≡ outer_end c.args.up c.args.coefficient c.args.least c.args.greatest
end_is c =
    let a = c.args in
    same_end a.up _ a.coefficient _ a.least _ a.greatest _ c.outer_end.ensures
    (to_z-of_z c.ranges.coefficient) (grind (arith, to_z-of_z c.ranges.least)) (grind (arith, to_z-of_z c.ranges.greatest))

pub product-requires : goal.product-requires
product-requires c =
    let fits : FitsSigned w64 c.outer_end.result = search rules in
    rw (to_z-of_z fits, end_is c) (outer_end_one (λ (u : ℤ). Bound u word) c.args.up c.args.coefficient c.requires.1.0 c.requires.1.1)

pub returns : goal.returns
returns c =
    let near = c.product.ensures.1 in
    let fits : FitsSigned w64 c.outer_end.result = search rules in
    let end = end_is (goal.at.returns c).After-outer_end in
    rw (to_z-of_z (fits64 near tt)) (
      c.product.ensures.0
          ∙ simp (to_z-of_z, c.ranges.coefficient, fits) (ap (λ (u : ℤ). c.args.coefficient *ℤ u) end ∙ outer_product c.args.coefficient (λ (u : ℤ). u) c.args.least c.args.greatest c.requires.0 c.args.up),
      near,
    )
