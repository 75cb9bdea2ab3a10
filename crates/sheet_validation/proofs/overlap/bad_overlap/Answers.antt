-- `bad_overlap`: the recovery box beside each no-go box. Assumes nothing.
use Rattle.std.proofs.Common.{rules, ◌≡◌, ◌∙◌, ◌+◌, ◌*◌, ℕ, ℤ, List, Bool, ap, refl, sym, arith}
use Rattle.std.specs.Prelude.{not}
use Rattle.std.specs.List.{range_with_len, list_any}
use Rattle.std.proofs.lemmas.Iterator.{YieldsList-from_range}
use Rattle.std.proofs.lemmas.Iterator.Search.{any_from_yields_List}
use Rattle.sheet_spec.specs.Slots.{box_size, box_at, recovery_slot, unsafe_slot}
use Rattle.sheet_spec.specs.Box.{meets, clear}
use Rattle.sheet_spec.specs.File.{overlap_test}
use Rattle.sheet_spec.specs.Refusals.{Cause, refuse_unless}
use Rattle.sheet_validation.proofs.Ranges.{any_range}
use Rattle.sheet_validation.proofs.overlap.bad_overlap.Goals as goal
use borrow.Author.Tests.{tests}

-- no-go box j beside the recovery box
abbrev meets_at : ℕ → List ℤ → ℕ → Bool
meets_at n v j = meets n (box_at v recovery_slot) (box_at v (unsafe_slot 0 + j * box_size))

-- what the answer t of `any` says
told : (n : ℕ) (v : List ℤ) (count : ℕ) {t u : Bool} → t ≡ list_any (meets_at n v) (range_with_len 0 count) → t ≡ u → refuse_unless (not u) Cause.overlap ≡ overlap_test n v count
unfolding overlap_test clear
told n v count e is = ap (λ (u : Bool). refuse_unless (not u) Cause.overlap) (sym is ∙ e ∙ any_range count (meets_at n v))

pub returns-then-any : goal.returns-then-any
returns-then-any c =
    let a = c.args in
    told a.n a.v.now a.count
    (any_from_yields_List (meets_at a.n a.v.now) _ _ _ c.any.ensures.ran (YieldsList-from_range 0 a.count a.count refl (omega arith)) (λ x b q k. search (rules, tests)))
    c.if-any.true

pub returns : goal.returns
returns c =
    let a = c.args in
    told a.n a.v.now a.count
    (any_from_yields_List (meets_at a.n a.v.now) _ _ _ c.any.ensures.ran (YieldsList-from_range 0 a.count a.count refl (omega arith)) (λ x b q k. search (rules, tests)))
    c.if-any.false
