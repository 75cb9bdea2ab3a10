-- Where a run may start: the recovery box of an accepted sheet shares no state with a no-go box. Assumes nothing.
use native.Mathlib.Omega.{arith}
use Rattle.sheet_spec.specs.Slots.{vars, recovery_box}
use Rattle.sheet_spec.specs.Sheet.{values}
use Rattle.sheet_spec.proofs.Box.{differ}
use Rattle.sheet_spec.proofs.Valid.{valid}
use Rattle.machine_spec.specs.Box.{In}
use Rattle.machine_spec.proofs.Inside.{meets_by}
use Rattle.safety.specs.Run.{StartsClear}

pub starts_clear : StartsClear
starts_clear f accepted x start j h unsafe =
    let inside : In (vars (values f)) (recovery_box (values f)) x = record { low = λ i l. start.low i (omega arith); high = λ i l. start.high i (omega arith) } in
    differ (meets_by inside unsafe) ((valid f accepted).clear.at j (omega arith))
