-- `box_of` makes a box of the sides that it is given. Assumes nothing.
use mir.Facts.{to_z-of_z}
use Rattle.std.proofs.Common.{refl, ◌∙◌, ◌+◌, arith, rules, w64, FitsSigned}
use Rattle.sheet_spec.specs.Slots.{N}
use Rattle.machine_spec.specs.Box.{box_of}
use Rattle.machine_spec.proofs.Box.{sides_more}
use Rattle.boxes_shape.proofs.compare.box_of.Goals as goal

pub loop-i-init : goal.loop-i-init
unfolding box_of
loop-i-init g c = λ f is. refl

pub loop-i-preserved : goal.loop-i-preserved
loop-i-preserved g c = λ f is.
    let low : FitsSigned w64 c.side.result = search rules in
    let high : FitsSigned w64 c.side-in-loop-i.result = search rules in
    sides_more c.loop-i.i f _ (c.loop-i.invariant f is) (to_z-of_z low ∙ is c.loop-i.i (omega (arith, c.requires.0)) _ c.side.ensures)
    (to_z-of_z high ∙ is (c.loop-i.i + N) (omega (arith, c.requires.0)) _ c.side-in-loop-i.ensures)
