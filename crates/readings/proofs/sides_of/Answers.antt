-- `sides_of`: a reading that is not there is refused. Assumes nothing.
use Rattle.std.proofs.Common.{sym, subst}
use Rattle.std.specs.declared.result.Result.TheVariants.{Err}
use Rattle.sheet_spec.specs.declared.refusals.Refusal.{Refusal}
use Rattle.readings_spec.specs.declared.Reading.{Reading}
use Rattle.readings.specs.Sides.{SidesOf}
use Rattle.readings.proofs.OneReading.{missing}
use Rattle.readings.proofs.sides_of.Goals as goal

pub returns-in-Missing : goal.returns-in-Missing
returns-in-Missing c = subst (λ (x : Reading). SidesOf x (Err Refusal.Missing)) (sym c.in-Missing.is) missing
