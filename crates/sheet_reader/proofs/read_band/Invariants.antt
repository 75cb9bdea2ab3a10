-- `read_band`: a band's edge and safety range, its law, and its rows. The invariant: the first i rows were read, whatever the kind of a band
-- whose rows start there. Assumes nothing.
use Rattle.std.proofs.Common.{◌≡◌, ◌+◌, ◌*◌, List, ℤ}
use Rattle.sheet_spec.specs.declared.BandKind.{BandKind}
use Rattle.sheet_spec.specs.Slots.{law_in_band}
use Rattle.sheet_spec.specs.Sizes.{rows_at}
use Rattle.sheet_spec.specs.Fields.{filled}
use Rattle.sheet_spec.specs.Layout.{band_fields, law_count, row_count}
use Rattle.sheet_reader.proofs.read_band.Given as goal

abbrev pub invariant-loop-i : goal.invariant-loop-i
invariant-loop-i l =
    (b : BandKind) (w : List ℤ) → l.rows ≡ l.at + rows_at b l.n → l.initial.v ≡ filled (band_fields l.n b l.k) l.f l.at (law_in_band + law_count b l.n) w
    → l.v ≡ filled (band_fields l.n b l.k) l.f l.at (law_in_band + (law_count b l.n + l.i * row_count l.n)) w
