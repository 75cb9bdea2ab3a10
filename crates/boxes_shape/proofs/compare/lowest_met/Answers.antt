-- `lowest_met` finds the first no-go box that a box meets. Assumes nothing.
use borrow.Author.Tests.{tests}
use Rattle.std.proofs.Common.{◌≡◌, ◌∙◌, ℕ, Bool, rules, true, false}
use Rattle.std.proofs.lemmas.Iterator.{first_from_Range}
use Rattle.sheet_spec.specs.Slots.{unsafe_box}
use Rattle.sheet_spec.specs.Box.{meets, lowest_met}
use Rattle.boxes_shape.proofs.Passing.{lowest_is_first}
use Rattle.boxes_shape.proofs.compare.lowest_met.Goals as goal

pub returns : goal.returns
unfolding lowest_met
returns c =
    let met : ℕ → Bool = λ (j : ℕ). meets c.args.n c.args.boxed.now (unsafe_box c.args.sheet.now j) in
    c.unwrap_or.ensures
    ∙ lowest_is_first c.args.count met c.find.result
    (first_from_Range _ _ _ _ (λ j. met j ≡ true) (λ j. met j ≡ false) c.find.ensures.ran (λ x q k. search (rules, tests)) (λ x q k. search (rules, tests)))
