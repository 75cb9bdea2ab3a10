-- `write_records`: the records before the next one are written. Assumes nothing.
use Rattle.std.proofs.Common.{◌≡◌}
use Rattle.std.proofs.lemmas.List.Edits.{sets}
use Rattle.sheet_spec.specs.File.{coded_all}
use Rattle.sheet_writer.proofs.write_records.Given as goal

abbrev pub invariant-loop-record : goal.invariant-loop-record
invariant-loop-record l = (l.record-iterator.shape ≡ l.shape) × (l.s ≡ sets l.fn.s 0 (coded_all l.shape l.v l.record-iterator.r))
