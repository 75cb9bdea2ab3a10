-- `write`: a number out of range is refused. Assumes nothing.
use Rattle.std.proofs.lemmas.Result.{err_from_is_err_and}
use Rattle.sheet_spec.proofs.Laws.{refused}
use Rattle.sheet_writer.proofs.FileTurn.{wrote_bad}
use Rattle.sheet.proofs.write.Goals as goal

pub returns-in_err-bad_sheet : goal.returns-in_err-bad_sheet
returns-in_err-bad_sheet c =
    let p = err_from_is_err_and c.from_residual.result c.from_residual.ensures.1 in
    rw (p.1, p.2) (wrote_bad _ _ _ c.in_err-bad_sheet.ensures (refused _))
