-- `attempt` does what the definition's attempt does, but for the box. Assumes nothing.
use Rattle.std.proofs.Common.{rules, ◌≡◌, ℕ, ◌+◌, ◌<◌, ◌≤◌, List, [], ◌∷◌, ℤ, Err, get_or, drop, length, ap, ◌∙◌, arith}
use mathlib.Core.Path.{subst}
use lib.ListN.{drop_of_length-le}
use Rattle.std.specs.declared.option.Option.{Option}
use Rattle.machine_spec.specs.declared.Law.TheVariants.{Baseline}
use Rattle.machine_spec.proofs.Ranges.{sized_less}
use Rattle.boxes_step.specs.Allowance.{is_limited, allowed}
use Rattle.decision_spec.specs.declared.Phase.{Phase}
use Rattle.decision_spec.specs.Decision.{phase, ticks_of}
use Rattle.decision_attempt.specs.AttemptResult.{fault_of, summary}
use Rattle.decision_attempt.proofs.Turn.{next_phase, Following, following_starts, following_ends, following_on, following_stops}
use Rattle.decision_attempt.proofs.attempt.Goals as goal

module _ (allowance : Option ℕ) (ps : List Phase) (v S : List ℤ) (w c : ℕ) (E : List ℤ) (d : ℕ) where
  -- the phases `rest` are left at the box E after d rounds
  abbrev Left : List Phase → Type 0
  Left rest = Following (is_limited allowance) (allowed allowance) v w ps S c rest E d

  module _ (k : ℕ) (left : Left (drop k ps)) where
    next_left : k < length ps → Left (get_or ps k (phase Baseline 0) ∷ drop (k + 1) ps)
    next_left more = subst Left (next_phase ps k _ more) left

    none_left : length ps ≤ k → Left []
    none_left all = let none : drop k ps ≡ [] = drop_of_length-le ps {i = k} all in subst Left none left

pub loop-phase-init : goal.loop-phase-init
loop-phase-init c =
    let asked = c.requires.attempts in
    record { trimmed = asked.trimmed; following = following_starts _ _ _ _ c.args.phases.now _ _ asked.ticks asked.laws asked.start }

pub reach_phase-requires : goal.reach_phase-requires
unfolding ticks_of
reach_phase-requires c =
    let asked = c.requires in
    let all = asked.attempts in
    let k = next_left c.args.allowance _ _ _ _ _ _ _ c.loop-phase.phase-index c.loop-phase.invariant.following c.loop-phase-test.true in
    record {
      sheet = all.sheet;
      start = sized_less (omega arith) k.sized;
      trimmed = c.loop-phase.invariant.trimmed;
      law = k.laws.0;
      ticks = omega (arith, k.few);
      counts = omega (arith, k.counts, asked.counts);
      some = all.some;
      most = all.most;
    }

-- a phase did not end
pub returns-in_err-covered : goal.returns-in_err-covered
returns-in_err-covered c =
    let done = c.reach_phase.ensures in
    let k = next_left c.args.allowance _ _ _ _ _ _ _ c.loop-phase.phase-index c.loop-phase.invariant.following c.loop-phase-test.true in
    let fault : c.from_residual.result ≡ Err (fault_of c.in_err-covered.field-0.0) = search rules in
    fault ∙ following_stops _ _ _ _ k _ _ _ done.same _ c.in_err-covered.was done.names

pub loop-phase-preserved : goal.loop-phase-preserved
loop-phase-preserved c =
    let done = c.reach_phase.ensures in
    let all = c.requires.attempts in
    let k = next_left c.args.allowance _ _ _ _ _ _ _ c.loop-phase.phase-index c.loop-phase.invariant.following c.loop-phase-test.true in
    record { trimmed = done.trimmed; following = following_on _ _ _ _ k _ _ _ done.same _ c.in_ok-covered.was all.sheet all.some all.most }

-- every phase ended
pub returns : goal.returns
returns c =
    c.finish.ensures
    ∙ ap (summary {A = List ℤ} _)
    (following_ends _ _ _ _ (none_left c.args.allowance _ _ _ _ _ _ _ c.loop-phase.phase-index c.loop-phase.invariant.following c.loop-phase-test.false))
