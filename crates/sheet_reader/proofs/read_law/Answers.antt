-- `read_law`: the law of a band, by its kind. Assumes nothing.
use Rattle.sheet_spec.specs.Fields.{filled}
use Rattle.sheet_reader.proofs.read_law.Goals as goal

pub returns-in-Fixed : goal.returns-in-Fixed
unfolding filled
returns-in-Fixed c = rw c.in-Fixed.is
