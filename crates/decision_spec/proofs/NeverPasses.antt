-- A recovery box on a no-go box: the first swept box of every attempt holds the recovery box, so it shares a state with that no-go box. Assumes nothing.
use mathlib.Core.Path.{◌≡◌, refl, subst}
use mathlib.Core.Bool.{true, false}
use mathlib.Core.List.{List}
use Prim.Native.Nat.{ℕ, ◌<◌}
use native.Mathlib.Omega.{arith}
use lib.Dec.{T}
use lib.IntN.{ℤ}
use Rattle.sheet_spec.specs.Slots.{vars, boxes, ρ, recovery_box, unsafe_box}
use Rattle.sheet_spec.specs.Box.{meets, clear}
use Rattle.sheet_spec.specs.Valid.{ValidNumbers, RecoveryClear, Overlapping}
use Rattle.sheet_spec.proofs.Box.{is_false, not_clear}
use Rattle.sheet_spec.proofs.Validity.{exactly_valid, overlap_refused}
use Rattle.machine_spec.specs.declared.Law.TheVariants.{Baseline}
use Rattle.machine_spec.specs.Machine.{machine}
use Rattle.machine_spec.proofs.Facts.{room}
use Rattle.machine_spec.proofs.Inside.{Inside, inside_meets, inside_within, hull_left}
use Rattle.boxes_spec.specs.Step.{unsafe, and_then, Step, swept}
use Rattle.boxes_spec.proofs.Stages.{Failed}
use Rattle.boxes_spec.proofs.Settled.{Hits, first_place, reach_blocked}
use Rattle.decision_spec.specs.Decision.{phase_reach, phase, follow, attempt, recovery_phases, recovery_of, Reply, is_keep}
use Rattle.decision_spec.specs.NeverPasses.{FailsAtOnce, NeverPasses, OverlapFails, NothingLost}
use Rattle.decision_spec.proofs.Attempts.{all_fail}

module _ {v : List ℤ} (wf : ValidNumbers v) (j : ℕ) (h : j < boxes v) (shares : meets (vars v) (recovery_box v) (unsafe_box v j) ≡ true) where
  -- a swept box holds the box that its step starts from
  holds : (t : Step) → Inside (vars v) (recovery_box v) (swept (machine v Baseline) (recovery_box v) t)
  unfolding swept
  holds t = hull_left (room wf) (recovery_box v) t.end

  blocked : (w c : ℕ) → 0 < w → Failed (Hits (machine v Baseline) (clear (vars v) v (boxes v)) w (first_place (recovery_box v) (ρ v))) (phase_reach false 0 v w (phase Baseline (ρ v)) (recovery_box v) c)
  blocked w c z =
      reach_blocked (machine v Baseline) (clear (vars v) v (boxes v)) w (room wf) z (recovery_box v) (ρ v) c wf.ρ_low
      (λ t. not_clear (vars v) v (boxes v) _ j h (inside_meets (unsafe_box v j) (holds t) shares))

  fails_at_once : (w c : ℕ) → 0 < w → FailsAtOnce v (attempt false 0 v w (recovery_phases v) (recovery_box v) c)
  unfolding attempt follow recovery_phases and_then
  fails_at_once w c z =
      let f = blocked w c z in
      let hits = f.holds in
      record {
        swept = swept (machine v Baseline) (recovery_box v) hits.step;
        rounds = f.count;
        fails = rw (f.same, hits.reason) refl;
        holds = inside_within (holds hits.step);
      }

  never_passes : NeverPasses v
  unfolding recovery_of
  never_passes =
      let answer =
      all_fail (λ w c. attempt false 0 v w (recovery_phases v) (recovery_box v) c)
      (λ w c z. let f = fails_at_once w c z in record { why = unsafe (ρ v) f.swept; count = f.rounds; same = f.fails; holds = tt }) (ρ v) (ρ v) 0 wf.ρ_low (omega arith) in
      record { attempts = λ w c z. fails_at_once w c (omega arith); rounds = answer.rounds; check = answer.same }

pub overlap_fails : OverlapFails
overlap_fails v wf j h shares = never_passes wf j (omega arith) shares

-- ---- so nothing is lost

overlapping_fails : {v : List ℤ} → Overlapping v → NeverPasses v
overlapping_fails o = never_passes o.numbers o.box o.below o.shares

-- a sheet that passes its check has a recovery box that is clear
pub passed_clear : {v : List ℤ} → ValidNumbers v → T (is_keep (recovery_of v)) → RecoveryClear v
unfolding is_keep
passed_clear {v} wf passed = record {
  at = λ j h. is_false (meets (vars v) (recovery_box v) (unsafe_box v j)) (λ shares. subst (λ (r : Reply). T (is_keep r)) (never_passes wf j h shares).check passed);
}

pub nothing_lost : NothingLost
nothing_lost = record {
  read = λ f e. overlapping_fails (overlap_refused.only f e);
  write = λ v array e. overlapping_fails ((exactly_valid v array).overlap.0 e);
  runs = λ v wf order passed. record { numbers = wf; order = order; clear = passed_clear wf passed };
}
