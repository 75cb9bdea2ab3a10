-- `rounded`: floor or ceiling by the sign and the whole part, which is small enough to be negated. Assumes nothing.
use Rattle.std.proofs.Common.{rules, ◌≡◌, ℕ, ◌<◌, ◌^◌, Bool, true, false, sym, ◌∙◌, arith, ℤ, pos, neg_ℤ, ◌-ℤ◌, w64, to_z, of_z}
use mir.Facts.{to_z-of_z}
use Rattle.integers.proofs.Z.{told}
use Rattle.readings.proofs.Rounding.{farther, up_positive, down_positive, up_negative, down_negative, minus_fits, minus_is}
use Rattle.readings.proofs.rounded.Goals as goal

-- a whole part and the number next to it are small
farther_small : (whole : ℕ) (exact : Bool) → whole < 2 ^ 32 → farther whole exact < 2 ^ 33
farther_small whole true h = omega arith
farther_small whole false h = omega arith

-- a part as the code reads it back, and its negative
read : (R : ℤ) (f : ℕ) → f < 2 ^ 33 → R ≡ pos f → to_z w64 (of_z w64 R) ≡ pos f
read R f h e = rw e (told w64 (pos f) (omega arith))

negative : (R : ℤ) (f : ℕ) → f < 2 ^ 33 → R ≡ pos f → to_z w64 (of_z w64 (pos 0 -ℤ to_z w64 (of_z w64 R))) ≡ neg_ℤ (pos f)
negative R f h e = rw (read R f h e, to_z-of_z (minus_fits f h)) (minus_is f)

pub returns-in-true-true : goal.returns-in-true-true
returns-in-true-true c =
    let r = c.parts_of-parts.result in
    let small : r.whole < 2 ^ 32 = search rules in
    rw c.in-true-true.is-1 (negative c.near-near.result r.whole (omega arith) c.near-near.ensures ∙ sym (up_negative c.args.x r c.parts_of-parts.ensures c.in-true-true.is-0))

pub returns-in-true-false : goal.returns-in-true-false
returns-in-true-false c =
    let r = c.parts_of-parts.result in
    rw c.in-true-false.is-1
    (negative c.far-far.result (farther r.whole r.exact) (farther_small r.whole r.exact (search rules)) c.far-far.ensures
    ∙ sym (down_negative c.args.x r c.parts_of-parts.ensures c.in-true-false.is-0))

pub returns-in-false-true : goal.returns-in-false-true
returns-in-false-true c =
    let r = c.parts_of-parts.result in
    rw c.in-false-true.is-1
    (read c.far-far.result (farther r.whole r.exact) (farther_small r.whole r.exact (search rules)) c.far-far.ensures
    ∙ sym (up_positive c.args.x r c.parts_of-parts.ensures c.in-false-true.is-0))

pub returns-in-false-false : goal.returns-in-false-false
returns-in-false-false c =
    let r = c.parts_of-parts.result in
    let small : r.whole < 2 ^ 32 = search rules in
    rw c.in-false-false.is-1
    (read c.near-near.result r.whole (omega arith) c.near-near.ensures ∙ sym (down_positive c.args.x r c.parts_of-parts.ensures c.in-false-false.is-0))
