-- `finish` tests the last end box as the definition does. Assumes nothing.
use Rattle.std.proofs.Common.{◌≡◌, ℕ, sym, ap, ◌∙◌, arith}
use Rattle.sheet_spec.specs.Slots.{vars, recovery_box}
use Rattle.machine_spec.specs.Box.{within}
use Rattle.decision_attempt.proofs.Turn.{within_trim, finish_inside, finish_outside}
use Rattle.decision_attempt.proofs.finish.Goals as goal
use Rattle.decision_attempt.proofs.finish.Goals.{After-within}

-- what the test tells
inside_is : (c : After-within) → c.within.result ≡ within (vars c.args.sheet.now) c.args.end.now (recovery_box c.args.sheet.now)
inside_is c =
    let v = c.args.sheet.now in
    let E = c.args.end.now in
    let same = c.count-n.ensures in
    c.within.ensures ∙ ap (within c.count-n.result E) c.box_at-recovery.ensures
    ∙ within_trim _ E (recovery_box v) (omega (arith, same, c.requires.vars_high)) ∙ ap (λ (n : ℕ). within n E (recovery_box v)) same

pub returns-then-within : goal.returns-then-within
returns-then-within c = finish_inside c.args.sheet.now c.args.end.now _ (sym (inside_is (goal.at.returns-then-within c).After-within) ∙ c.if-within.true)

pub returns-else-within : goal.returns-else-within
returns-else-within c = finish_outside c.args.sheet.now c.args.end.now _ (sym (inside_is (goal.at.returns-else-within c).After-within) ∙ c.if-within.false)
