-- `trim` sets what no variable has to 0. Assumes nothing.
use mir.Facts.{to_z-of_z}
use Rattle.std.proofs.Common.{◌≡◌, ◌∙◌, ℕ, rules, w64, FitsSigned, to_z, of_z}
use Rattle.sheet_spec.specs.Slots.{◌!◌}
use Rattle.machine_spec.specs.Box.{trim}
use Rattle.boxes_shape.proofs.compare.trim.Goals as goal

pub returns : goal.returns
unfolding trim
returns c = c.box_of.ensures (λ (place : ℕ). c.args.boxed.now ! place) (λ place room z is.
    let fits : FitsSigned w64 (c.args.boxed.now ! place) = search rules in
    let read : z ≡ to_z w64 (of_z w64 (c.args.boxed.now ! place)) = search rules in
    read ∙ to_z-of_z fits)
