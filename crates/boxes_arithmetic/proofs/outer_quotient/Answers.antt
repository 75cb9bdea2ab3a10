-- `outer_quotient` gives the outermost so far where the dividend is no further out than that times the divisor, the cap where it is at or beyond
-- that times the divisor, and the quotient between them. Assumes nothing.
use Rattle.std.proofs.Common.{◌≡◌, sym, ap, ◌∙◌, Bool, not, rules, arith, w64, FitsSigned, ℤ, neg_ℤ, ◌*ℤ◌, to_z, of_z}
use Rattle.std.proofs.lemmas.Bool.{false≢true}
use mir.Facts.{to_z-of_z}
use Rattle.integers.proofs.Z.{bound_neg, bound_mul, fits64}
use Rattle.machine_spec.specs.Machine.{clamp}
use Rattle.machine_spec.specs.Rate.{neutral}
use Rattle.boxes_arithmetic.specs.Limits.{QuotientAsked, WithinAsked}
use Rattle.boxes_arithmetic.proofs.Bounds.{zero_less, between_bound}
use Rattle.boxes_arithmetic.proofs.Command.{compared, given, divided}
use Rattle.boxes_arithmetic.proofs.Capped.{most_bound, range, clamped_there, strictly_within}
use Rattle.boxes_arithmetic.proofs.Quotient.{divisor_bound, outer_stays, outer_moves}
use Rattle.boxes_arithmetic.proofs.outer_quotient.Goals as goal

module _ {cap q z : ℤ} (asked : QuotientAsked cap q z) where
  product_fits : FitsSigned w64 (z *ℤ q)
  product_fits = fits64 (bound_mul (between_bound asked.capped.small asked.capped.between) (divisor_bound asked.divisor)) tt

  negative_fits : FitsSigned w64 (neg_ℤ cap)
  negative_fits = fits64 (bound_neg asked.capped.small) tt

  most_fits : FitsSigned w64 (q *ℤ cap)
  most_fits = fits64 (most_bound asked) tt

-- the cap that a face goes towards
end_at : {up b : Bool} (cap : ℤ) → up ≡ b → neutral (not up) cap ≡ neutral (not b) cap
end_at cap e = ap (λ (b : Bool). neutral (not b) cap) e

-- the outermost so far
pub returns-then-no_further : goal.returns-then-no_further
returns-then-no_further c =
    let a = c.args in
    let said = simp (to_z-of_z, c.ranges.outermost, c.ranges.divisor, c.ranges.dividend, product_fits c.requires) at c.no_further.ensures in (
      to_z-of_z c.ranges.outermost
          ∙ outer_stays a.up a.cap a.outermost a.dividend a.divisor c.requires.capped c.requires.divisor.low (sym said ∙ c.if-no_further.true),
      λ e. absurd (false≢true e),
    )

pub is_clamped-requires : goal.is_clamped-requires
is_clamped-requires c = simp (to_z-of_z, c.ranges.cap, c.ranges.divisor, most_fits c.requires) (most_bound c.requires)

-- the cap that the face goes towards: of an upper face
pub returns-then-up : goal.returns-then-up
unfolding neutral
returns-then-up c =
    let a = c.args in
    let outside = simp (to_z-of_z, c.ranges.outermost, c.ranges.divisor, c.ranges.dividend, product_fits c.requires) at c.no_further.ensures in
    let beyond = simp (to_z-of_z, c.ranges.cap, c.ranges.divisor, c.ranges.dividend, most_fits c.requires) at c.is_clamped.ensures in
    let end_is : to_z w64 (of_z w64 a.cap) ≡ neutral (not a.up) a.cap = to_z-of_z c.ranges.cap ∙ sym (end_at a.cap c.if-up.true) in
    let moves = outer_moves a.up a.cap a.outermost a.dividend a.divisor c.requires.capped c.requires.divisor.low (sym outside ∙ c.if-no_further.false) in
    (end_is ∙ (sym (clamped_there c.requires a.up a.dividend (sym beyond ∙ c.if-is_clamped.true)) ∙ moves), λ e. end_is)

-- of a lower one
pub returns-else-up : goal.returns-else-up
unfolding neutral
returns-else-up c =
    let a = c.args in
    let outside = simp (to_z-of_z, c.ranges.outermost, c.ranges.divisor, c.ranges.dividend, product_fits c.requires) at c.no_further.ensures in
    let beyond = simp (to_z-of_z, c.ranges.cap, c.ranges.divisor, c.ranges.dividend, most_fits c.requires) at c.is_clamped.ensures in
    let end_is : neg_ℤ a.cap ≡ neutral (not a.up) a.cap = sym (end_at a.cap c.if-up.false) in
    let moves = outer_moves a.up a.cap a.outermost a.dividend a.divisor c.requires.capped c.requires.divisor.low (sym outside ∙ c.if-no_further.false) in
    simp (to_z-of_z, c.ranges.cap, zero_less, negative_fits c.requires)
    (end_is ∙ (sym (clamped_there c.requires a.up a.dividend (sym beyond ∙ c.if-is_clamped.true)) ∙ moves), λ e. end_is)

pub outward_div-requires : goal.outward_div-requires
outward_div-requires c =
    let a = c.args in
    let outside = simp (to_z-of_z, c.ranges.outermost, c.ranges.divisor, c.ranges.dividend, product_fits c.requires) at c.no_further.ensures in
    let beyond = simp (to_z-of_z, c.ranges.cap, c.ranges.divisor, c.ranges.dividend, most_fits c.requires) at c.is_clamped.ensures in
    simp (to_z-of_z, c.ranges.cap, c.ranges.divisor, zero_less, negative_fits c.requires)
    (given a.dividend (strictly_within c.requires a.up a.dividend (sym outside ∙ c.if-no_further.false) (sym beyond ∙ c.if-is_clamped.false)) (grind (arith, to_z-of_z c.ranges.dividend)))

-- the quotient
pub returns : goal.returns
unfolding clamp
returns c =
    let a = c.args in
    let outside = simp (to_z-of_z, c.ranges.outermost, c.ranges.divisor, c.ranges.dividend, product_fits c.requires) at c.no_further.ensures in
    let beyond = simp (to_z-of_z, c.ranges.cap, c.ranges.divisor, c.ranges.dividend, most_fits c.requires) at c.is_clamped.ensures in
    let moves = outer_moves a.up a.cap a.outermost a.dividend a.divisor c.requires.capped c.requires.divisor.low (sym outside ∙ c.if-no_further.false) in
    let inner : WithinAsked (neg_ℤ a.cap) a.cap a.dividend a.divisor = strictly_within c.requires a.up a.dividend (sym outside ∙ c.if-no_further.false) (sym beyond ∙ c.if-is_clamped.false) in
    let fits : FitsSigned w64 c.outward_div.result = search rules in (
      to_z-of_z fits
          ∙ (divided a.up _ _ a.dividend _ _ a.divisor c.outward_div.ensures (grind arith) (grind (arith, to_z-of_z c.ranges.dividend)) (to_z-of_z c.ranges.divisor)
          ∙ (sym ((compared (range c.requires) a.up a.dividend).between inner.above inner.below) ∙ moves)),
      λ e. absurd (false≢true e),
    )
