-- `write_law`: nothing is written of a fixed band's law. Assumes nothing.
use Rattle.std.proofs.Common.{refl}
use Rattle.sheet_spec.specs.Fields.{coded}
use Rattle.sheet_writer.proofs.record.write_law.Goals as goal

pub returns-in-Fixed : goal.returns-in-Fixed
unfolding coded
returns-in-Fixed c = rw c.in-Fixed.is refl
