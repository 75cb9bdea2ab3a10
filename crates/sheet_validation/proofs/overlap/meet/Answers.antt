-- `meet`: whether two boxes of a sheet share a state, variable by variable. Assumes nothing.
use Rattle.std.proofs.Common.{rules, ◌≡◌, ◌∙◌, ◌+◌, ◌<◌, ℕ, ℤ, List, Bool, ap, ap₂, refl, sym, arith}
use Rattle.std.proofs.lemmas.Iterator.{YieldsList-from_range}
use Rattle.std.proofs.lemmas.Iterator.Search.{all_from_yields_List}
use Rattle.std.specs.Prelude.{◌&&◌}
use Rattle.std.specs.Int.Signed.{le_z}
use Rattle.sheet_spec.specs.Slots.{◌!◌, N, box_at}
use Rattle.sheet_spec.specs.Box.{lo, hi, meets}
use Rattle.sheet_spec.proofs.Box.{all_same, box_lo, box_hi}
use Rattle.sheet_validation.proofs.Ranges.{all_range}
use Rattle.sheet_validation.proofs.overlap.meet.Goals as goal
use borrow.Author.Tests.{tests}

-- the tests of variable i
abbrev both : List ℤ → ℕ → ℕ → ℕ → Bool
both v a b i = le_z (v ! (a + i)) (v ! (b + i + N)) && le_z (v ! (b + i)) (v ! (a + i + N))

both_are : (v : List ℤ) (a b i : ℕ) → i < N → both v a b i ≡ (le_z (lo (box_at v a) i) (hi (box_at v b) i) && le_z (lo (box_at v b) i) (hi (box_at v a) i))
both_are v a b i room = ap₂ ◌&&◌ (ap₂ le_z (sym (box_lo v a i room)) (sym (box_hi v b i room))) (ap₂ le_z (sym (box_lo v b i room)) (sym (box_hi v a i room)))

pub returns : goal.returns
unfolding meets
returns c =
    let a = c.args in
    let n = c.count.result in
    all_from_yields_List (both a.v.now a.a a.b) _ _ _ c.all.ensures.ran (YieldsList-from_range 0 n n refl (omega arith)) (λ x b q k. search (rules, tests))
    ∙ all_range n (both a.v.now a.a a.b) ∙ all_same n _ _ (λ i l. both_are a.v.now a.a a.b i (omega (arith, c.count.ensures.1)))
    ∙ ap (λ (k : ℕ). meets k (box_at a.v.now a.a) (box_at a.v.now a.b)) c.count.ensures.0
