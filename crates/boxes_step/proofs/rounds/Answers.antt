-- `rounds` does what eight rounds of the definition do. Assumes nothing.
use Rattle.std.proofs.Common.{ap, ◌∙◌, arith}
use Rattle.sheet_spec.specs.Slots.{vars}
use Rattle.sheet_spec.proofs.Box.{differ}
use Rattle.machine_spec.specs.Box.{within}
use Rattle.machine_spec.proofs.InPlace.{trim_as}
use Rattle.machine_spec.proofs.Facts.{room}
use Rattle.machine_spec.proofs.Inside.{inside_refl, inside_within}
use Rattle.machine_spec.proofs.Ranges.{near_less, near_as, rates_near}
use Rattle.boxes_step.specs.Allowance.{is_limited, allowed}
use Rattle.boxes_step.proofs.Bounds.{grown_near, grown_holds}
use Rattle.boxes_step.proofs.Turn.{settles_first, rounding_starts, rounding_ends, rounding_exhausted, rounding_settles, rounding_on}
use Rattle.boxes_step.proofs.rounds.Goals as goal

pub loop-init : goal.loop-init
loop-init c =
    let asked = c.requires in
    let a = c.args in
    record {
      counts = omega arith;
      trimmed = trim_as (vars a.sheet.now) asked.work asked.trimmed;
      rates = asked.rates;
      holds = ap (within (vars a.sheet.now) a.start.now) asked.work ∙ inside_within (inside_refl a.start.now);
      near = near_as asked.work (near_less (omega arith) asked.start.near);
      rounding = rounding_starts (is_limited a.allowance) (allowed a.allowance) _ a.ticks a.count asked.work;
      first = λ one. asked.work;
    }

-- no round is left
pub returns-then-is_exhausted : goal.returns-then-is_exhausted
returns-then-is_exhausted c =
    let inv = c.loop.invariant in
    record {
      same = rounding_exhausted inv.rounding (omega arith) _ c.is_exhausted.ensures _ c.if-is_exhausted.true;
      trimmed = inv.trimmed;
      rates = inv.rates;
    }

-- the round settled
pub returns-then-settled : goal.returns-then-settled
returns-then-settled c =
    let a = c.args in
    let done = c.round-settled.ensures in
    record {
      same = rounding_settles c.loop.invariant.rounding (omega arith) _ c.is_exhausted.ensures c.if-is_exhausted.false _ done.settled _ done.rated c.if-settled.true;
      trimmed = done.trimmed;
      rates = near_as done.rated (rates_near c.requires.plant.sheet a.plant.law a.start.now a.ticks c.loop.work);
    }

pub loop-preserved : goal.loop-preserved
loop-preserved c =
    let a = c.args in
    let asked = c.requires in
    let inv = c.loop.invariant in
    let done = c.round-settled.ensures in
    let grew = done.grew c.if-settled.false in
    record {
      counts = omega (arith, inv.counts);
      trimmed = done.trimmed;
      rates = near_as done.rated (rates_near asked.plant.sheet a.plant.law a.start.now a.ticks c.loop.work);
      holds = ap (within _ a.start.now) grew ∙ grown_holds _ asked.plant.sheet a.start.now _ a.ticks inv.holds;
      near = near_as grew (grown_near _ asked.plant.sheet a.ticks (omega (arith, asked.most)) asked.start.near inv.near);
      rounding = rounding_on inv.rounding (omega arith) _ c.is_exhausted.ensures c.if-is_exhausted.false _ done.settled _ grew c.if-settled.false;
      first = λ one. absurd (differ (done.settled ∙ settles_first _ a.start.now a.ticks (room asked.plant.sheet) one (inv.first one)) c.if-settled.false);
    }

-- eight rounds did not settle
pub returns : goal.returns
returns c =
    let inv = c.loop.invariant in
    record { same = rounding_ends inv.rounding _ (omega arith); trimmed = inv.trimmed; rates = inv.rates }
