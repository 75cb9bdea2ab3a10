-- `tested_step` does what the definition's tested step does, and leaves the step's end box and swept box. Assumes nothing.
use Rattle.std.proofs.Common.{rules, ◌≡◌, ℕ, Ok, Err, ◌<◌, ◌≤◌, List, ℤ, min, refl, sym, ap, ◌∙◌, arith}
use mathlib.Core.Path.{subst}
use Rattle.sheet_spec.specs.Slots.{N, vars}
use Rattle.sheet_spec.specs.Box.{lowest_met}
use Rattle.sheet_spec.proofs.Box.{differ}
use Rattle.machine_spec.specs.Machine.{machine}
use Rattle.machine_spec.proofs.InPlace.{trim_moved, trim_as, trimmed_by}
use Rattle.machine_spec.proofs.Facts as facts
use Rattle.machine_spec.proofs.Ranges.{near_less, near_by, zero_near, sized_less}
use Rattle.boxes_shape.specs.Limits.{Movable, Trimmed, ArriveDone}
use Rattle.boxes_spec.specs.Step.{step}
use Rattle.boxes_step.specs.declared.Covered.{Covered}
use Rattle.boxes_step.specs.declared.StepFault.{StepFault}
use Rattle.boxes_step.specs.declared.StepFault.TheVariants as fault
use Rattle.boxes_step.specs.StepResult.{Stepped, StepDone}
use Rattle.boxes.specs.declared.steps.ReachPlan.{ReachPlan}
use Rattle.boxes.specs.declared.steps.Stopped.TheVariants.{Unsafe}
use Rattle.boxes.specs.Limits.{TestedAsked}
use Rattle.boxes.specs.ReachPlan.{machine_on, clear_on, lowest_on}
use Rattle.boxes_step.specs.Allowance.{is_limited, allowed}
use Rattle.boxes.specs.ReachResult.{Outcome, stopped_of, is_ended, Names, TestedDone}
use Rattle.boxes.proofs.Bounds.{step_ticks}
use Rattle.boxes.proofs.Turn.{Stepping, tested_stopped, tested_clear, tested_unsafe, is_clear, is_not_clear}
use Rattle.boxes.proofs.steps.tested_step.Goals as goal

-- a step of length k from A, of which the width and the ticks left are the bounds
module _ {p : ReachPlan} {v : List ℤ} {left c : ℕ} {A E P : List ℤ} (asked : TestedAsked p v left c A E P) {k : ℕ} (length : k ≡ min p.width left)
    {r : Stepped} {F R : List ℤ} (done : StepDone (vars v) A (step (is_limited p.allowance) (allowed p.allowance) (machine v p.plant.law) A k c) r F R) where
  -- the plant's number of variables is the sheet's
  vars_are : p.plant.n ≡ vars v
  vars_are = asked.plan.plant.n

  room : vars v ≤ N
  room = facts.room asked.plan.plant.sheet

  stepping : Stepping (is_limited p.allowance) (allowed p.allowance) (machine_on p v) p.width A left c r R
  stepping = record { same = done.same ∙ ap (λ (i : ℕ). step (is_limited p.allowance) (allowed p.allowance) (machine v p.plant.law) A i c) length }

  -- no length settled, or no round was left
  stopped_done : (f : StepFault) → r ≡ Err f → {o : Outcome} → o ≡ Err (stopped_of f) → TestedDone p v left c A o A F P
  unfolding is_ended Names
  stopped_done f q stopped = subst (λ (o : Outcome). TestedDone p v left c A o A F P) (sym stopped) (done_by f q)
    where
      done_by : (f : StepFault) → r ≡ Err f → TestedDone p v left c A (Err (stopped_of f)) A F P
      done_by (fault.Unsettled d) q = record { same = tested_stopped stepping (clear_on p v) _ _ (fault.Unsettled d) q; names = tt; arrived = λ no. absurd (differ no refl); trimmed = asked.trimmed }
      done_by (fault.Exhausted d) q = record { same = tested_stopped stepping (clear_on p v) _ _ (fault.Exhausted d) q; names = tt; arrived = λ no. absurd (differ no refl); trimmed = asked.trimmed }

  module _ (s : Covered) (q : r ≡ Ok s) where
    movable : Movable p.plant.n A s.ticks R
    movable =
        let most = step_ticks stepping room asked.plan.some asked.plan.most asked.due s q in
        record {
          room = omega (arith, vars_are, room);
          ticks = omega (arith, most, asked.plan.most);
          start = near_by (sym vars_are) (near_less (omega arith) asked.start.near);
          rates = near_by (sym vars_are) done.rates;
        }

    moves_trimmed : Trimmed p.plant.n F A P
    moves_trimmed = let n = sym vars_are in record { work = trimmed_by n done.trimmed; at = trimmed_by n asked.trimmed; path = trimmed_by n asked.swept }

    -- it arrived at the end box B, with the working box G and the swept box Q
    module _ {B G Q : List ℤ} (arrival : ArriveDone p.plant.n A s.ticks R B G Q) {number : ℕ} (lowest : number ≡ lowest_met p.plant.n v p.boxes Q) where
      arrived : ArriveDone (vars v) A s.ticks R B G Q
      arrived = subst (λ (n : ℕ). ArriveDone n A s.ticks R B G Q) vars_are arrival

      number_is : number ≡ lowest_on p v Q
      number_is = lowest ∙ ap (λ (n : ℕ). lowest_met n v p.boxes Q) vars_are

      -- the swept box is not clear
      unsafe_done : number < p.boxes → TestedDone p v left c A (Err (Unsafe left number s.count)) B G Q
      unfolding is_ended Names
      unsafe_done h = record {
        same = tested_unsafe stepping (clear_on p v) s q arrived.end arrived.path number (is_not_clear _ _ _ Q number_is h);
        names = number_is;
        arrived = λ no. absurd (differ no refl);
        trimmed = trim_as (vars v) arrived.end (trim_moved (vars v) room A s.ticks R);
      }

      -- it is clear
      clear_done : p.boxes ≤ number → TestedDone p v left c A (Ok s) B G Q
      unfolding Names
      clear_done h = record {
        same = tested_clear stepping (clear_on p v) s q arrived.end arrived.path (is_clear _ _ _ Q number_is h);
        names = tt;
        arrived = λ yes. record { work = arrived.work; swept = arrived.path };
        trimmed = trim_as (vars v) arrived.end (trim_moved (vars v) room A s.ticks R);
      }

pub step-requires : goal.step-requires
step-requires c =
    let asked = c.requires in
    let length = c.min-width.ensures in
    record {
      plant = asked.plan.plant;
      some = omega (arith, length, asked.plan.some, asked.due);
      most = omega (arith, length, asked.plan.most);
      counts = omega (arith, length, asked.counts);
      start = sized_less (omega (arith, length)) asked.start;
      trimmed = asked.trimmed;
      work = asked.work;
      rates = zero_near _ _;
    }

-- the step did not settle
pub returns-in_err-covered : goal.returns-in_err-covered
returns-in_err-covered c = stopped_done c.requires c.min-width.ensures c.step.ensures c.in_err-covered.field-0.0 c.in_err-covered.was (search rules)

pub arrive-requires : goal.arrive-requires
arrive-requires c = (
  movable c.requires c.min-width.ensures c.step.ensures c.in_ok-covered.covered c.in_ok-covered.was,
  moves_trimmed c.requires c.min-width.ensures c.step.ensures c.in_ok-covered.covered c.in_ok-covered.was,
)

pub returns-then-number-plan : goal.returns-then-number-plan
returns-then-number-plan c =
    unsafe_done c.requires c.min-width.ensures c.step.ensures c.in_ok-covered.covered c.in_ok-covered.was c.arrive.ensures c.lowest_met-number.ensures c.if-number-plan.true

pub returns : goal.returns
returns c =
    clear_done c.requires c.min-width.ensures c.step.ensures c.in_ok-covered.covered c.in_ok-covered.was c.arrive.ensures c.lowest_met-number.ensures c.if-number-plan.false
