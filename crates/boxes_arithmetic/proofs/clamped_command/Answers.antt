-- `clamped_command` compares the dividend with the ends of the range times the divisor: at or beyond one the clamped quotient is that end, between
-- them it is the quotient. Assumes nothing.
use Rattle.std.proofs.Common.{sym, ◌∙◌, rules, arith, w64, FitsSigned, ℤ, ◌*ℤ◌}
use mir.Facts.{to_z-of_z}
use Rattle.integers.proofs.Z.{ints, fits64}
use Rattle.boxes_arithmetic.specs.Limits.{CommandAsked}
use Rattle.boxes_arithmetic.proofs.Command.{least_near, greatest_near, compared, given, divided}
use Rattle.boxes_arithmetic.proofs.clamped_command.Goals as goal

module _ {l h q : ℤ} (asked : CommandAsked l h q) where
  least_fits : FitsSigned w64 (q *ℤ l)
  least_fits = fits64 (least_near asked) tt

  greatest_fits : FitsSigned w64 (q *ℤ h)
  greatest_fits = fits64 (greatest_near asked) tt

-- at or below the least
pub returns-then-dividend-divisor : goal.returns-then-dividend-divisor
returns-then-dividend-divisor c =
    let test = simp (to_z-of_z, c.ranges.dividend, c.ranges.divisor, c.ranges.least, least_fits c.requires) at c.if-dividend-divisor.true in
    to_z-of_z c.ranges.least ∙ sym ((compared c.requires c.args.up c.args.dividend).low (omega (ints, test)))

pub overflow_mul-divisor-2 : goal.overflow_mul-divisor-2
overflow_mul-divisor-2 c = simp (to_z-of_z, c.ranges.divisor, c.ranges.greatest) (greatest_fits c.requires)

-- at or above the greatest
pub returns-then-divisor-greatest : goal.returns-then-divisor-greatest
returns-then-divisor-greatest c =
    let test = simp (to_z-of_z, c.ranges.dividend, c.ranges.divisor, c.ranges.greatest, greatest_fits c.requires) at c.if-divisor-greatest.true in
    to_z-of_z c.ranges.greatest ∙ sym ((compared c.requires c.args.up c.args.dividend).high (omega (ints, test)))

-- strictly between them
pub outward_div-requires : goal.outward_div-requires
outward_div-requires c =
    let above = simp (to_z-of_z, c.ranges.dividend, c.ranges.divisor, c.ranges.least, least_fits c.requires) at c.if-dividend-divisor.false in
    let below = simp (to_z-of_z, c.ranges.dividend, c.ranges.divisor, c.ranges.greatest, greatest_fits c.requires) at c.if-divisor-greatest.false in
    simp (to_z-of_z, c.ranges.least, c.ranges.greatest, c.ranges.divisor)
    (given c.args.dividend (record { range = c.requires; above = omega (ints, above); below = omega (ints, below) }) (grind (arith, to_z-of_z c.ranges.dividend)))

pub returns : goal.returns
returns c =
    let fits : FitsSigned w64 c.outward_div.result = search rules in
    let above = simp (to_z-of_z, c.ranges.dividend, c.ranges.divisor, c.ranges.least, least_fits c.requires) at c.if-dividend-divisor.false in
    let below = simp (to_z-of_z, c.ranges.dividend, c.ranges.divisor, c.ranges.greatest, greatest_fits c.requires) at c.if-divisor-greatest.false in
    let between = (compared c.requires c.args.up c.args.dividend).between (omega (ints, above)) (omega (ints, below)) in
    to_z-of_z fits ∙ divided c.args.up _ _ c.args.dividend _ _ c.args.divisor c.outward_div.ensures (grind arith) (grind (arith, to_z-of_z c.ranges.dividend)) (to_z-of_z c.ranges.divisor) ∙ sym between
