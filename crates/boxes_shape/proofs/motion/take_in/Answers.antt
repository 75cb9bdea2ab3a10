-- `take_in` tests the sides of a variable against those of a box, and makes the hull of both in the box. Assumes nothing.
use mir.Facts.{to_z-of_z}
use Rattle.std.proofs.Common.{◌≡◌, refl, sym, ap₂, ◌∙◌, Bool, true, false, ◌&&◌, ◌+◌, List, ℕ, ℤ, set, rules, w64, FitsSigned, to_z, of_z}
use Rattle.std.specs.Int.{int_min, int_max}
use Rattle.std.specs.Int.Signed.{le_z}
use Rattle.sheet_spec.specs.Slots.{N}
use Rattle.sheet_spec.specs.Box.{lo, hi}
use Rattle.boxes_arithmetic.proofs.Order.{int_min_is, int_max_is}
use Rattle.boxes_shape.specs.Limits.{TookIn}
use Rattle.boxes_shape.proofs.motion.take_in.Goals as goal

both : {a b c d : Bool} → d ≡ true → d ≡ a → c ≡ b → c ≡ (a && b)
both e p q = rw (sym p ∙ e) q

not_both : {a d : Bool} (b : Bool) → d ≡ false → d ≡ a → d ≡ (a && b)
not_both b e p = e ∙ rw (sym p ∙ e) refl

-- the lesser and the greater side, as the code has them
module _ {E : List ℤ} {i : ℕ} {low high least most : ℤ} (lesser : least ≡ int_min (lo E i) low) (greater : most ≡ int_max (hi E i) high) (fits : FitsSigned w64 least × FitsSigned w64 most) where
  took : {inside : Bool} → inside ≡ (le_z (lo E i) low && le_z high (hi E i)) → TookIn i low high E inside (set (set E i (to_z w64 (of_z w64 least))) (i + N) (to_z w64 (of_z w64 most)))
  took test = record {
    test = test;
    joined =
        ap₂
        (λ (x y : ℤ). set (set E i x) (i + N) y)
        (to_z-of_z fits.0 ∙ (lesser ∙ int_min_is (lo E i) low))
        (to_z-of_z fits.1 ∙ (greater ∙ int_max_is (hi E i) high));
  }

pub returns-then-lower_side-low : goal.returns-then-lower_side-low
returns-then-lower_side-low c =
    let box = c.args.work.now in
    let lower : FitsSigned w64 (lo box c.args.i) = search rules in
    let upper : FitsSigned w64 (hi box c.args.i) = search rules in
    let fits : FitsSigned w64 c.min.result × FitsSigned w64 c.max.result = search rules in
    let lesser = simp (to_z-of_z, lower, c.ranges.low) at c.min.ensures.value in
    let greater = simp (to_z-of_z, upper, c.ranges.high) at c.max.ensures.value in
    let low_is = ap₂ le_z (to_z-of_z lower) (to_z-of_z c.ranges.low) in
    took lesser greater fits (both c.if-lower_side-low.true low_is (ap₂ le_z (to_z-of_z c.ranges.high) (to_z-of_z upper)))

pub returns-else-lower_side-low : goal.returns-else-lower_side-low
returns-else-lower_side-low c =
    let box = c.args.work.now in
    let lower : FitsSigned w64 (lo box c.args.i) = search rules in
    let upper : FitsSigned w64 (hi box c.args.i) = search rules in
    let fits : FitsSigned w64 c.min.result × FitsSigned w64 c.max.result = search rules in
    let lesser = simp (to_z-of_z, lower, c.ranges.low) at c.min.ensures.value in
    let greater = simp (to_z-of_z, upper, c.ranges.high) at c.max.ensures.value in
    let low_is = ap₂ le_z (to_z-of_z lower) (to_z-of_z c.ranges.low) in
    took lesser greater fits (not_both _ c.if-lower_side-low.false low_is)
