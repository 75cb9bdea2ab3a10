-- `feedback_term` gives the outer one of a coefficient's products with the commands of a plain law that follows the state: one product, with the end
-- that its sign chooses, and nothing to work out where the coefficient is 0. What is known of the ends is noted with that end. Assumes nothing.
use Rattle.std.proofs.Common.{arith, ◌≡◌, ◌∙◌, ap, Bool, true, false, ℤ, pos, ◌*ℤ◌, FitsSigned, w64}
use lib.Dec.{lit≤}
use mir.Facts.{to_z-of_z}
use Rattle.integers.proofs.Z.{bits_is, bound_lit, bound_less, fits64}
use Rattle.sheet_spec.specs.declared.BandKind.TheVariants.{Feedback}
use Rattle.boxes_rates.proofs.Terms.{same_end}
use Rattle.boxes_rates.specs.Limits.{end_over, outer_end}
use Rattle.boxes_rates.proofs.Ends.{band_among, ends_ordered, no_term}
use Rattle.boxes_rates.proofs.Terms.{outer_product}
use Rattle.boxes_rates.proofs.commands.feedback_term.Goals as goal

-- a coefficient of 0
pub returns-then-coefficient-eq0-clause-baseline_term : goal.returns-then-coefficient-eq0-clause-baseline_term
returns-then-coefficient-eq0-clause-baseline_term c =
    let zero : c.args.coefficient ≡ pos 0 = bits_is c.ranges.coefficient c.if-coefficient-eq0.true in
    record { same = λ k p. no_term c.args.up _ _ zero; near = bound_less (bound_lit (pos 0)) (lit≤ tt) }

pub returns-clause-baseline_term : goal.returns-clause-baseline_term
returns-clause-baseline_term c =
    let a = c.args in
    let asked = c.requires.0 in
    let v = a.sheet.now in
    let B = a.over.now in
    let b = a.coefficient in
    let end = c.end_over-command.ensures.feedback_end in
    let end_fits : FitsSigned w64 c.end_over-command.result = fits64 end.near tt in
    let product_near = c.product.ensures.1 in
    let chosen : c.outer_end-end.result ≡ outer_end a.up b false true = same_end a.up _ b _ false _ true _ c.outer_end-end.ensures (to_z-of_z c.ranges.coefficient) (grind arith) (grind arith) in
    rw (to_z-of_z (fits64 product_near tt)) (record {
      same = λ k p.
          c.product.ensures.0
          ∙ simp (to_z-of_z, c.ranges.coefficient, end_fits)
          (ap (λ (u : ℤ). b *ℤ u) (end.same k p ∙ ap (λ (e : Bool). end_over Feedback e v k B) chosen)
          ∙ outer_product b (λ (e : Bool). end_over Feedback e v k B) false true (ends_ordered asked.sheet asked.kind B asked.sides.ordered k (band_among asked.sheet asked.slot k p)) a.up);
      near = product_near;
    })
