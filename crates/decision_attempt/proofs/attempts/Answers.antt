-- `attempts` does what the definition's attempts do. Assumes nothing.
use Rattle.std.proofs.Common.{rules, ◌≡◌, Err, sym, ◌∙◌, arith}
use Rattle.decision_attempt.specs.declared.Fault.TheVariants.{Failed, Exhausted}
use Rattle.decision_attempt.proofs.Turn.{failed_count, attempting_starts, attempting_keeps, attempting_spent, attempting_finest, attempting_on}
use Rattle.decision_attempt.proofs.attempts.Goals as goal
use Rattle.decision_attempt.proofs.attempts.Goals.{in-Ok, in-Err-Exhausted, in-Err-Failed}

pub loop-rounds-init : goal.loop-rounds-init
loop-rounds-init c = record { narrower = omega arith; counts = omega arith; attempting = attempting_starts _ c.args.width c.requires.some }

-- failed at a width over 1
pub loop-rounds-preserved : goal.loop-rounds-preserved
loop-rounds-preserved c =
    let asked = c.requires in
    let inv = c.loop-rounds.invariant in
    let failed : c.attempt.result ≡ Err (Failed c.in-Err-Failed.field-0-0 c.in-Err-Failed.count) = search rules in
    let counted =
    failed_count c.args.allowance c.args.phases.now c.args.start.now c.loop-rounds.w c.loop-rounds.counted asked.sheet inv.attempting.some (omega (arith, inv.narrower, asked.most)) asked.ticks
    (sym c.attempt.ensures ∙ failed) in
    record {
      narrower = omega (arith, inv.narrower);
      counts = omega (arith, inv.counts, counted);
      attempting = attempting_on inv.attempting _ _ c.attempt.ensures _ _ failed c.if-w-le1.false;
    }

-- kept, spent, or failed at width 1
pub returns-in-loop-rounds : goal.returns-in-loop-rounds
returns-in-loop-rounds c =
    let at = c.loop-rounds.invariant.attempting in
    elim c.match-attempt.branch [
      | in-Ok w ↦ rw w.verdict-is (attempting_keeps at _ _ c.attempt.ensures _ w.in-Ok.is)
      | in-Err-Exhausted w ↦
          let spent : c.attempt.result ≡ Err (Exhausted w.in-Err-Exhausted.count) = search rules in
          rw w.verdict-is (attempting_spent at _ _ c.attempt.ensures _ spent)
      | in-Err-Failed w ↦
          let failed : c.attempt.result ≡ Err (Failed w.in-Err-Failed.field-0-0 w.in-Err-Failed.count) = search rules in
          rw w.verdict-is (attempting_finest at _ _ c.attempt.ensures _ _ failed w.if-w-le1.true)
    ]
