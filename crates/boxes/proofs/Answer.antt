-- A reach that is not refused: what holds of it, that it ends, and what it answers. Assumes nothing.
use mathlib.Core.Path.{◌≡◌, sym, ap, ◌∙◌}
use mathlib.Core.Bool.{false}
use mathlib.Core.List.{List}
use Prim.Native.Nat.{ℕ, ◌≤◌, ◌<◌}
use native.Mathlib.Omega.{arith}
use lib.IntN.{ℤ}
use Rattle.std.specs.declared.result.Result.TheVariants.{Ok, Err}
use Rattle.sheet_spec.specs.Limits.{max_ticks, max_width, max_side}
use Rattle.sheet_spec.specs.Slots.{vars}
use Rattle.sheet_spec.specs.Valid.{ValidNumbers}
use Rattle.sheet_spec.specs.Box.{clear}
use Rattle.sheet_spec.proofs.Box.{differ, clear_none}
use Rattle.sheet_spec.proofs.Laws.{goes_on}
use Rattle.machine_spec.specs.Box.{Sized, trim}
use Rattle.machine_spec.specs.declared.Law.{Law}
use Rattle.machine_spec.specs.Machine.{machine}
use Rattle.machine_spec.specs.Accepted.{Lawful}
use Rattle.machine_spec.proofs.Facts.{room}
use Rattle.machine_spec.proofs.Inside.{trim_holds, inside_ordered}
use Rattle.machine_spec.proofs.Ranges.{trim_near, sized_as}
use Rattle.boxes_step.specs.declared.Covered.{Covered}
use Rattle.boxes.specs.declared.steps.Stopped.{Stopped}
use Rattle.boxes.specs.declared.steps.Stopped.TheVariants.{Unsettled, Unsafe, Exhausted}
use Rattle.boxes.specs.ReachResult.{Outcome, result_of, reached_of}
use Rattle.boxes_spec.specs.Step.{ok}
use Rattle.boxes_spec.specs.Reach.{Reached, reach, reach_refusal, refused, answer, reach_of}
use Rattle.boxes_spec.proofs.Refusals.{reach_passes}
use Rattle.boxes_spec.proofs.Ranges.{lawful, start_sized}
use Rattle.boxes_spec.proofs.Settled.{reach_takes}
use Rattle.boxes_spec.proofs.Stages.{has_value}

-- what holds of a reach of T ticks at the width w from S that is not refused, on the sheet v
pub record Reachable (v : List ℤ) (T w : ℕ) (S : List ℤ) : Type 0 where
  pub some : 0 < w
  pub most : w ≤ max_width
  pub ticks : T ≤ max_ticks
  pub start : Sized (vars v) max_side S

-- the reach is not refused
pub record Passed (v : List ℤ) (ticks w : ℕ) (l : Law) (B : List ℤ) : Type 0 where
  pub is : 0 ≡ reach_refusal v ticks w l B

-- what stopped has no value
stopped_not : (E W : List ℤ) (o : Stopped) (r : Reached) (c : ℕ) → reached_of E W (Err o) ≡ ok r c → ⊥
unfolding result_of
stopped_not E W (Unsettled d) r c e = cc
stopped_not E W (Unsafe t j d) r c e = cc
stopped_not E W (Exhausted d) r c e = cc

module _ {v : List ℤ} (wf : ValidNumbers v) {ticks w : ℕ} {l : Law} {B : List ℤ} (passed : Passed v ticks w l B) where
  pub law_allowed : Lawful v l
  law_allowed = lawful v l (reach_passes v ticks w l B (sym passed.is)).law

  -- the law, the number of variables and the start box as the code has them
  module _ {k : Law} (q : k ≡ l) {n : ℕ} (p : n ≡ vars v) {S : List ℤ} (s : S ≡ trim n B) where
    start_is : S ≡ trim (vars v) B
    start_is = s ∙ ap (λ (i : ℕ). trim i B) p

    pub reachable : Reachable v ticks w S
    reachable =
        let passes = reach_passes v ticks w l B (sym passed.is) in
        let asked = start_sized (vars v) B passes.start in
        record {
          some = passes.some;
          most = passes.most;
          ticks = passes.few;
          start = sized_as start_is (record { near = trim_near (room wf) asked.near; ordered = inside_ordered (trim_holds (room wf) B) asked.ordered });
        }

    -- a reach came to o
    module _ (o : Outcome) (E W : List ℤ) (same : reached_of E W o ≡ reach false 0 (machine v k) (clear (vars v) v 0) w S ticks 0) where
      pub reach_ended : (r : Covered) → o ≡ Ok r → record { refusal = 0; end = E; swept = W; rounds = r.count } ≡ reach_of v ticks w l B
      unfolding reach_of answer result_of
      reach_ended r ended =
          ap (λ (x : Outcome). answer (reached_of E W x)) (sym ended)
          ∙ ap answer (same ∙ ap (λ (X : List ℤ). reach false 0 (machine v k) (clear (vars v) v 0) w X ticks 0) start_is ∙ ap (λ (x : Law). reach false 0 (machine v x) (clear (vars v) v 0) w (trim (vars v) B) ticks 0) q)
          ∙ sym (goes_on refused _ (sym passed.is))

      -- there is no allowance, and no box to keep clear of
      pub reach_ends : (x : Stopped) → o ≡ Err x → ⊥
      reach_ends x stopped =
          let takes = reach_takes false 0 (machine v k) (clear (vars v) v 0) w 9 (room wf) reachable.some (omega (arith, reachable.most)) S ticks 0 in
          let r = has_value (λ why s. differ (clear_none (vars v) v _) s.hits.hits) takes in
          stopped_not E W x r.value r.count (ap (reached_of E W) (sym stopped) ∙ same ∙ r.same)
