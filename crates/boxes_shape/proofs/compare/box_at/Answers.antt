-- `box_at` copies a box out of the sheet's value. Assumes nothing.
use Rattle.std.proofs.Common.{◌≡◌, sym, ◌∙◌, ℕ, ◌+◌, rules, w32, w64, FitsSigned, to_z, of_z}
use Rattle.integers.proofs.Z.{from32}
use Rattle.sheet_spec.specs.Slots.{◌!◌, box_at}
use Rattle.sheet_spec.proofs.Box.{box_at_lem}
use Rattle.machine_spec.specs.Box.{trim}
use Rattle.boxes_shape.proofs.compare.box_at.Goals as goal

pub returns : goal.returns
unfolding trim
returns c = c.box_of.ensures (λ (place : ℕ). box_at c.args.sheet.now c.args.slot ! place) (λ place room z is.
    let v = c.args.sheet.now in
    let fits : FitsSigned w32 (v ! (c.args.slot + place)) = search rules in
    let read : z ≡ to_z w64 (of_z w64 (to_z w32 (of_z w32 (v ! (c.args.slot + place))))) = search rules in
    read ∙ from32 fits ∙ sym (box_at_lem v c.args.slot place room))
