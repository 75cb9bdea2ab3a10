-- `join` makes the hull in place. Assumes nothing.
use mir.Facts.{to_z-of_z}
use Rattle.std.proofs.Common.{◌≡◌, ◌∙◌, rules, arith, w64, FitsSigned}
use Rattle.sheet_spec.specs.Box.{lo, hi}
use Rattle.machine_spec.specs.Box.{hull}
use Rattle.machine_spec.proofs.InPlace.{with_none, with_all}
use Rattle.boxes_shape.proofs.Turn.{joined_more}
use Rattle.boxes_shape.proofs.motion.join.Goals as goal

pub loop-i-init : goal.loop-i-init
loop-i-init c = with_none _ _ _

pub loop-i-preserved : goal.loop-i-preserved
loop-i-preserved c =
    let i = c.loop-i.i in
    let low : FitsSigned w64 (lo c.args.other.now i) = search rules in
    let high : FitsSigned w64 (hi c.args.other.now i) = search rules in
    joined_more c.args.out.now c.args.other.now i (omega arith) c.loop-i.invariant (to_z-of_z low) (to_z-of_z high) c.take_in.ensures

pub returns : goal.returns
unfolding hull
returns c =
    let all : c.loop-i.i ≡ c.args.n = omega (arith, c.requires.0) in
    (rw all at c.loop-i.invariant) ∙ with_all _ _ c.args.n _ c.requires.0 c.requires.1
