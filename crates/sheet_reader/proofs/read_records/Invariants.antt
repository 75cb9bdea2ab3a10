-- `read_records`: every record, one after another. The invariant: those before the next one were read. Assumes nothing.
use Rattle.std.proofs.Common.{◌≡◌}
use Rattle.sheet_spec.specs.File.{filled_all}
use Rattle.sheet_reader.proofs.read_records.Given as goal

abbrev pub invariant-loop-record : goal.invariant-loop-record
invariant-loop-record l = (l.record-iterator.shape ≡ l.shape) × (l.v ≡ filled_all l.shape l.f l.record-iterator.r l.fn.v)
