-- `within` tests whether a box lies in another. Assumes nothing.
use borrow.Author.Tests.{tests}
use Rattle.std.proofs.Common.{◌≡◌, refl, ◌&&◌, ℕ, ℤ, Bool, rules, arith, w64, to_z, of_z, true, false}
use Rattle.std.specs.Int.Signed.{le_z}
use Rattle.std.proofs.lemmas.Iterator.{cases_from_all, YieldsList-from_range}
use Rattle.sheet_spec.specs.Box.{lo, hi}
use Rattle.machine_spec.specs.Box.{within}
use Rattle.boxes_shape.proofs.Passing.{all_is}
use Rattle.boxes_shape.proofs.compare.within.Goals as goal

-- a side, as the code reads it
abbrev read : ℤ → ℤ
read z = to_z w64 (of_z w64 z)

pub returns : goal.returns
unfolding within
returns c =
    let A = c.args.inner.now in
    let B = c.args.whole.now in
    let n = c.args.n in
    let test : ℕ → Bool = λ (i : ℕ). le_z (lo B i) (lo A i) && le_z (hi A i) (hi B i) in
    all_is n test c.all.result
    (cases_from_all _ _ _ (λ i. test i ≡ true) (λ i. test i ≡ false) c.all.ensures.ran (YieldsList-from_range 0 n n refl (omega arith))
    (λ x q k. search (rules, tests)) (λ x q k. search (rules, tests)))
