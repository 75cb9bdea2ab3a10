-- `bad_file`: the marks and the numbers of every record. The invariant: those before the next one passed. Assumes nothing.
use Rattle.std.proofs.Common.{◌≡◌}
use Rattle.sheet_spec.specs.File.{bad_all, marked_at}
use Rattle.sheet_reader.proofs.bad_file.Given as goal

abbrev pub invariant-loop-record : goal.invariant-loop-record
invariant-loop-record l = (l.record-iterator.shape ≡ l.shape) × (bad_all (marked_at l.shape l.f) l.shape l.v l.record-iterator.r ≡ 0)
