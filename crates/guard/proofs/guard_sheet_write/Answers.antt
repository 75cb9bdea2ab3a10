-- `guard_sheet_write`: the length that is answered is the sheet's. Assumes nothing.
use Rattle.std.proofs.Common.{refl, sym, ◌∙◌}
use Rattle.sheet_spec.proofs.FirstRefusal.{found_none}
use Rattle.sheet_spec.proofs.ReadWrite.{answers_length}
use Rattle.decision_spec.specs.Call.{refused_call}
use Rattle.decision_spec.specs.Calls.{write_call}
use Rattle.guard.proofs.guard_sheet_write.Goals as goal

pub returns-in-Ok-clause-value : goal.returns-in-Ok-clause-value
unfolding write_call
returns-in-Ok-clause-value c =
    let w = c.in-Ok.ensures in
    w.length ∙ answers_length _ _ _ (sym w.refusal) ∙ found_none refused_call _ w.refusal refl
