-- `bad_fields`: the tests of a record's fields, by its kind. Assumes nothing.
use Rattle.std.proofs.Common.{◌≡◌, ◌∙◌, List, ℤ, ℕ, ap, sym}
use Rattle.sheet_spec.specs.declared.Record.{Record}
use Rattle.sheet_spec.specs.Fields.{bad}
use Rattle.sheet_spec.specs.Layout.{field_count, fields}
use Rattle.sheet_validation.proofs.bad_fields.Goals as goal

-- the record y is x
those : (n : ℕ) (v : List ℤ) {x y : Record} {u : ℕ} → y ≡ x → u ≡ bad (fields n x) v (field_count n x) → u ≡ bad (fields n y) v (field_count n y)
those n v is e = e ∙ ap (λ (z : Record). bad (fields n z) v (field_count n z)) (sym is)

pub returns-in-Head : goal.returns-in-Head
unfolding fields
returns-in-Head c = those c.args.n c.args.v.now c.in-Head.is c.bad_caps.ensures

pub returns-in-Band : goal.returns-in-Band
unfolding fields
returns-in-Band c = those c.args.n c.args.v.now c.in-Band.is c.bad_band.ensures

pub returns-in-Unsafe : goal.returns-in-Unsafe
unfolding fields
returns-in-Unsafe c = those c.args.n c.args.v.now c.in-Unsafe.is c.bad_box.ensures

pub returns-in-Recovery : goal.returns-in-Recovery
unfolding fields
returns-in-Recovery c = those c.args.n c.args.v.now c.in-Recovery.is c.bad_box-in-Recovery.ensures
