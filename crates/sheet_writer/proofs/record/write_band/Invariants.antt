-- `write_band`: the first i rows are written behind the law. Assumes nothing.
use Rattle.std.proofs.Common.{◌+◌, ◌*◌, ◌≡◌}
use Rattle.std.proofs.lemmas.List.Edits.{sets}
use Rattle.sheet_spec.specs.Slots.{law_in_band}
use Rattle.sheet_spec.specs.Fields.{coded}
use Rattle.sheet_spec.specs.Sizes.{letters}
use Rattle.sheet_spec.specs.Layout.{band_fields, law_count, row_count}
use Rattle.sheet_writer.proofs.record.write_band.Given as goal

abbrev pub invariant-loop-i : goal.invariant-loop-i
invariant-loop-i l = l.s ≡ sets l.fn.s letters (coded (band_fields l.n l.fn.kind l.k) l.v (law_in_band + (law_count l.fn.kind l.n + l.i * row_count l.n)))
