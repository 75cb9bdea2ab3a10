-- `meets` tests whether a box shares a state with one of the sheet. Assumes nothing.
use borrow.Author.Tests.{tests}
use Rattle.std.proofs.Common.{◌≡◌, refl, ◌∙◌, ◌&&◌, ℕ, ◌+◌, Bool, rules, arith, true, false}
use Rattle.std.specs.Int.Signed.{le_z}
use Rattle.std.proofs.lemmas.Iterator.{cases_from_all, YieldsList-from_range}
use Rattle.sheet_spec.specs.Slots.{◌!◌, N}
use Rattle.sheet_spec.specs.Box.{lo, hi, meets}
use Rattle.sheet_spec.proofs.Box.{all_same, box_lo, box_hi}
use Rattle.boxes_shape.proofs.Passing.{all_is}
use Rattle.boxes_shape.proofs.compare.meets.Goals as goal

pub returns : goal.returns
unfolding meets
returns c =
    let A = c.args.boxed.now in
    let v = c.args.sheet.now in
    let slot = c.args.slot in
    let n = c.args.n in
    let test : ℕ → Bool = λ (i : ℕ). le_z (lo A i) (v ! (slot + i + N)) && le_z (v ! (slot + i)) (hi A i) in
    all_is n test c.all.result
    (cases_from_all _ _ _ (λ i. test i ≡ true) (λ i. test i ≡ false) c.all.ensures.ran (YieldsList-from_range 0 n n refl (omega arith))
    (λ x q k. search (rules, tests)) (λ x q k. search (rules, tests)))
    ∙ all_same n _ _ (λ i h. rw (box_lo v slot i (omega (arith, c.requires.0)), box_hi v slot i (omega (arith, c.requires.0))) refl)
