-- `bad_band`: the band up to its first `i` rows passes.
use Rattle.std.proofs.Common.{◌≡◌, ◌+◌, ◌*◌}
use Rattle.sheet_spec.specs.Fields.{bad}
use Rattle.sheet_spec.specs.Layout.{band_fields, law_count, row_count}
use Rattle.sheet_spec.specs.Slots.{law_in_band}
use Rattle.sheet_validation.proofs.bad_band.Given as goal

abbrev pub invariant-loop-i : goal.invariant-loop-i
invariant-loop-i l = 0 ≡ bad (band_fields l.n l.fn.kind l.k) l.v (law_in_band + (law_count l.fn.kind l.n + l.i * row_count l.n))
