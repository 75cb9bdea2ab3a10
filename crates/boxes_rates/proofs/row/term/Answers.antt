-- `term` gives the outer one of a coefficient's products with the sides of a variable: one product, with the side at its place.
-- Assumes nothing.
use Rattle.std.proofs.Common.{rules, arith, ◌≡◌, refl, ◌∙◌, ap, sym, subst, true, false, Bool, List, ℕ, ◌+◌, ◌<◌, ℤ, FitsSigned, w32, w64, to_z, of_z, ◌*ℤ◌}
use mir.Facts.{to_z-of_z}
use Rattle.integers.specs.Bound.{Bound}
use Rattle.integers.proofs.Z.{up32, bound_of, bound_mul, fits64}
use Rattle.sheet_spec.specs.Slots.{◌!◌, N, box_size}
use Rattle.boxes_arithmetic.specs.Limits.{word}
use Rattle.boxes_rates.specs.Limits.{TermAsked, outer_end}
use Rattle.boxes_rates.proofs.Terms.{outer_end_one, same_end, outer_product}
use Rattle.boxes_rates.proofs.row.term.Goals.{After-outer_end-place}
use Rattle.boxes_rates.proofs.row.term.Goals as goal

-- the side at the place that is chosen
module _ (up : Bool) {a : ℤ} (fits : FitsSigned w32 a) {B : List ℤ} {j place : ℕ} (asked : TermAsked B j) (chosen : place ≡ outer_end up (to_z w32 (of_z w32 a)) j (j + N)) where
  place_is : place ≡ outer_end up a j (j + N)
  place_is = rw (to_z-of_z fits) at chosen

  below : place < box_size
  below = rw place_is (outer_end_one (λ (k : ℕ). k < box_size) up a (omega (arith, asked.room)) (omega (arith, asked.room)))

  near : Bound (B ! place) word
  near = subst (λ (k : ℕ). Bound (B ! k) word) (sym place_is) (outer_end_one (λ (k : ℕ). Bound (B ! k) word) up a (asked.near false) (asked.near true))

  product_fits : FitsSigned w64 (a *ℤ (B ! place))
  product_fits = fits64 (bound_mul (bound_of fits) near) tt

-- the place
chosen_is : (c : After-outer_end-place) → c.outer_end-place.result ≡ outer_end c.args.up (to_z w32 (of_z w32 c.args.coefficient)) c.args.j (c.args.j + N)
chosen_is c = same_end c.args.up _ _ _ c.args.j _ (c.args.j + N) _ c.outer_end-place.ensures refl (grind arith) (grind arith)

pub offset_bounds-over-place : goal.offset_bounds-over-place
offset_bounds-over-place c = let room = below c.args.up c.ranges.coefficient c.requires (chosen_is (goal.at.offset_bounds-over-place c).After-outer_end-place) in search rules

pub bounds-over-place : goal.bounds-over-place
bounds-over-place c = below c.args.up c.ranges.coefficient c.requires (chosen_is (goal.at.bounds-over-place c).After-outer_end-place)

pub overflow_mul-result : goal.overflow_mul-result
overflow_mul-result c =
    let side : FitsSigned w64 (c.args.over.now ! c.outer_end-place.result) = search rules in
    simp (to_z-of_z, c.ranges.coefficient, up32 c.ranges.coefficient, side) (product_fits c.args.up c.ranges.coefficient c.requires (chosen_is (goal.at.overflow_mul-result c).After-outer_end-place))

pub returns : goal.returns
returns c =
    let side : FitsSigned w64 (c.args.over.now ! c.outer_end-place.result) = search rules in
    let chosen = chosen_is (goal.at.returns c).After-outer_end-place in
    simp (to_z-of_z, c.ranges.coefficient, up32 c.ranges.coefficient, side, product_fits c.args.up c.ranges.coefficient c.requires chosen)
    (ap (λ (k : ℕ). c.args.coefficient *ℤ (c.args.over.now ! k)) (place_is c.args.up c.ranges.coefficient c.requires chosen)
    ∙ outer_product c.args.coefficient (λ (k : ℕ). c.args.over.now ! k) c.args.j (c.args.j + N) c.requires.ordered c.args.up)
