-- `arrive` moves the box `at`, makes the working box the same and `path` the hull of both ends. Assumes nothing.
use Rattle.std.proofs.Common.{◌≡◌, refl, sym, ap, ◌∙◌, true, false, ◌<◌, arith}
use Rattle.sheet_spec.specs.Slots.{N}
use Rattle.machine_spec.specs.Box.{hull, moved}
use Rattle.machine_spec.proofs.InPlace.{with_none, with_all}
use Rattle.boxes_shape.proofs.Sides.{side_movable}
use Rattle.boxes_shape.proofs.Arrival.{path_is, low_was, high_was, turn}
use Rattle.boxes_shape.proofs.motion.arrive.Goals as goal

pub loop-i-init : goal.loop-i-init
loop-i-init c = record { at = with_none _ _ _; work = with_none _ _ _; path = with_none _ _ _ }

pub arrive_side-requires : goal.arrive_side-requires
arrive_side-requires c =
    let more : c.loop-i.i < c.args.n = omega arith in
    let room : c.loop-i.i < N = omega arith in
    (omega arith, side_movable c.requires.0 false c.loop-i.i more (low_was c.loop-i.invariant room) refl)

pub arrive_side-requires-in-loop-i : goal.arrive_side-requires-in-loop-i
arrive_side-requires-in-loop-i c =
    let more : c.loop-i.i < c.args.n = omega arith in
    let room : c.loop-i.i < N = omega arith in
    (omega arith, side_movable c.requires.0 true c.loop-i.i more (high_was c.loop-i.invariant room c.arrive_side.ensures) refl)

pub loop-i-preserved : goal.loop-i-preserved
loop-i-preserved c =
    let room : c.loop-i.i < N = omega arith in
    turn c.loop-i.invariant room c.arrive_side.ensures c.arrive_side-in-loop-i.ensures

pub returns : goal.returns
unfolding moved
returns c =
    let inv = c.loop-i.invariant in
    let a = c.args in
    let all : c.loop-i.i ≡ a.n = omega (arith, c.requires.0.room) in
    let room = c.requires.0.room in
    let end = (rw all at inv.at) ∙ with_all _ _ a.n _ room c.requires.1.at in
    record {
      end = end;
      work = (rw all at inv.work) ∙ (with_all _ _ a.n _ room c.requires.1.work ∙ sym end);
      path = path_is a.at.now a.ticks a.rates.now a.n room (rw all at inv.path) c.requires.1.path ∙ ap (hull a.n a.at.now) (sym end);
    }
