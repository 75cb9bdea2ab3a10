-- `step` does what the definition's step does. Assumes nothing.
use Rattle.std.proofs.Common.{rules, ◌≡◌, Err, refl, arith}
use Rattle.boxes_step.specs.Allowance.{is_limited, allowed}
use Rattle.boxes_step.specs.declared.StepFault.TheVariants.{Unsettled}
use Rattle.boxes_step.proofs.Bounds.{halving_count}
use Rattle.boxes_step.proofs.Turn.{halving_starts, halving_ends, halving_finest, halving_on}
use Rattle.boxes_step.proofs.step.Goals as goal

pub loop-after-init : goal.loop-after-init
loop-after-init c =
    let asked = c.requires in
    let a = c.args in
    record {
      shorter = omega arith;
      counts = omega arith;
      work = asked.work;
      rates = asked.rates;
      halving = halving_starts (is_limited a.allowance) (allowed a.allowance) _ _ a.width a.count asked.some;
    }

-- the rounds settled, or none was left
pub returns-in_default : goal.returns-in_default
returns-in_default c =
    let done = c.rounds-r.ensures in
    record {
      same = halving_ends c.loop-after.invariant.halving c.rounds-r.result _ done.same (λ i q. search rules);
      trimmed = done.trimmed;
      rates = done.rates;
    }

pub returns-in_default-2 : goal.returns-in_default-2
returns-in_default-2 c =
    let done = c.rounds-r.ensures in
    record {
      same = halving_ends c.loop-after.invariant.halving c.rounds-r.result _ done.same (λ i q. search rules);
      trimmed = done.trimmed;
      rates = done.rates;
    }

-- a step of one tick did not settle; it does not happen
pub returns-then-ticks-le1 : goal.returns-then-ticks-le1
returns-then-ticks-le1 c =
    let done = c.rounds-r.ensures in
    record {
      same = halving_finest c.loop-after.invariant.halving c.rounds-r.result _ done.same c.in-Err-Unsettled.after (search rules) c.if-ticks-le1.true;
      trimmed = done.trimmed;
      rates = done.rates;
    }

pub loop-after-preserved : goal.loop-after-preserved
loop-after-preserved c =
    let done = c.rounds-r.ensures in
    let inv = c.loop-after.invariant in
    let unsettled : c.rounds-r.result ≡ Err (Unsettled c.in-Err-Unsettled.after) = search rules in
    let counted = halving_count inv.halving c.rounds-r.result _ done.same c.in-Err-Unsettled.after unsettled in
    record {
      shorter = omega (arith, inv.shorter);
      counts = omega (arith, counted, inv.counts);
      work = refl;
      rates = done.rates;
      halving = halving_on inv.halving c.rounds-r.result _ done.same c.in-Err-Unsettled.after unsettled c.if-ticks-le1.false;
    }
