-- `reach` does what the definition's reach does. Assumes nothing.
use Rattle.std.proofs.Common.{ℕ, ◌+◌, ◌≤◌, refl, ap, ◌∙◌, arith}
use mathlib.Core.Path.{subst}
use Rattle.sheet_spec.specs.Slots.{N, vars}
use Rattle.sheet_spec.proofs.Box.{differ}
use Rattle.machine_spec.specs.Box.{hull}
use Rattle.machine_spec.proofs.InPlace.{trim_as_hull}
use Rattle.machine_spec.proofs.Facts as facts
use Rattle.machine_spec.proofs.Ranges.{sized_less}
use Rattle.boxes_step.specs.Limits.{step_limit}
use Rattle.boxes_step.specs.Allowance.{is_limited, allowed}
use Rattle.boxes.specs.ReachResult.{is_ended, covered_of, Names, Arrived}
use Rattle.boxes.proofs.Bounds.{StepBounds, tested_bounds}
use Rattle.boxes.proofs.Turn.{reaching_starts, reaching_ends, reaching_stops, reaching_on}
use Rattle.boxes.proofs.steps.reach.Goals as goal
use Rattle.boxes.proofs.steps.reach.Goals.{After-join}

pub loop-left-init : goal.loop-left-init
loop-left-init c = record {
  fewer = omega arith;
  counts = omega arith;
  work = refl;
  trimmed = c.requires.trimmed;
  swept = c.requires.trimmed;
  path = c.requires.trimmed;
  sized = c.requires.start;
  reaching = reaching_starts (is_limited c.args.plan.allowance) (allowed c.args.plan.allowance) _ _ c.args.plan.width _ c.args.ticks c.args.count;
}

-- a step did not end
pub returns-in-Err : goal.returns-in-Err
unfolding is_ended
returns-in-Err c =
    let done = c.tested_step.ensures in
    record {
      same = reaching_stops c.loop-left.invariant.reaching _ _ _ (omega arith) done.same _ _ c.in-Err.is;
      names = subst (Names _) c.in-Err.is done.names;
      covered = λ yes. absurd (differ yes refl);
      trimmed = done.trimmed;
    }

-- after a tested step that ended, whose swept box was joined
module _ (c : After-join) where
  room : vars c.args.sheet.now ≤ N
  room = facts.room c.requires.plan.plant.sheet

  arrived : Arrived (vars c.args.sheet.now) c.loop-left.end c.tested_step.new.at c.tested_step.new.work c.tested_step.new.swept
  unfolding is_ended
  arrived = c.tested_step.ensures.arrived (ap is_ended c.in-Ok.is)

  bounds : StepBounds (vars c.args.sheet.now) (step_limit c.loop-left.left) c.loop-left.left c.in-Ok.covered.ticks c.tested_step.new.at × (c.in-Ok.covered.count ≤ c.loop-left.counted + 73)
  bounds =
      let asked = c.requires in
      let inv = c.loop-left.invariant in
      tested_bounds inv.reaching (record { sheet = asked.plan.plant.sheet; law = asked.plan.plant.law }) asked.plan.some asked.plan.most inv.sized (omega (arith, inv.fewer, asked.ticks)) (omega arith) _ _ _ c.tested_step.ensures.same _ c.in-Ok.is

pub overflow_sub-left : goal.overflow_sub-left
overflow_sub-left c = (bounds (goal.at.overflow_sub-left c).After-join).0.most

pub loop-left-smaller : goal.loop-left-smaller
loop-left-smaller c = let b = bounds (goal.at.loop-left-smaller c).After-join in omega (arith, b.0.some, b.0.most)

pub loop-left-preserved : goal.loop-left-preserved
loop-left-preserved c =
    let inv = c.loop-left.invariant in
    let at = (goal.at.loop-left-preserved c).After-join in
    let b = bounds at in
    let joined = c.join.ensures ∙ ap (λ (n : ℕ). hull n c.loop-left.swept c.tested_step.new.swept) c.requires.plan.plant.n in
    record {
      fewer = omega (arith, inv.fewer);
      counts = omega (arith, inv.counts, b.1, b.0.some, b.0.most);
      work = (arrived at).work;
      trimmed = c.tested_step.ensures.trimmed;
      swept = trim_as_hull _ c.loop-left.swept _ (room at) joined;
      path = trim_as_hull _ c.loop-left.end _ (room at) (arrived at).swept;
      sized = sized_less (omega (arith, b.0.most, inv.fewer, c.requires.ticks)) b.0.end;
      reaching = reaching_on inv.reaching _ _ _ (omega arith) c.tested_step.ensures.same _ c.in-Ok.is b.0.some b.0.most (arrived at).swept _ joined;
    }

-- no ticks are left
pub returns : goal.returns
unfolding covered_of Names
returns c =
    let inv = c.loop-left.invariant in
    record { same = reaching_ends inv.reaching (omega arith); names = tt; covered = λ yes. refl; trimmed = inv.trimmed }
