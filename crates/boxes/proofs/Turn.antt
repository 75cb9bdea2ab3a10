-- A turn of the definitions for a turn of the code's loops: a tested step, and the tested steps of a reach. Assumes nothing.
use mathlib.Core.Path.{◌≡◌, refl, sym, ap, ◌∙◌}
use mathlib.Core.Bool.{Bool, true, false, not}
use mathlib.Core.List.{List}
use Prim.Native.Nat.{ℕ, suc, ◌-◌, ◌≤◌, ◌<◌, min}
use native.Mathlib.Omega.{arith}
use native.Mathlib.Nat.{le_refl}
use borrow.Author.Tests.{le-leb, lt-leb, le-ltb, lt-ltb}
use lib.Dec.{leb, ltb}
use lib.IntN.{ℤ}
use Rattle.integers.proofs.Tests.{pick_yes, pick_no, suc_of}
use Rattle.sheet_spec.specs.Box.{lowest_met, clear}
use Rattle.machine_spec.specs.Box.{hull, moved}
use Rattle.machine_spec.specs.Machine.{Machine, vars_of}
use Rattle.std.specs.declared.result.Result.TheVariants.{Ok, Err}
use Rattle.boxes_step.specs.declared.Covered.{Covered}
use Rattle.boxes_step.specs.declared.StepFault.{StepFault}
use Rattle.boxes_step.specs.declared.StepFault.TheVariants as fault
use Rattle.boxes_step.specs.StepResult.{Stepped, step_of}
use Rattle.boxes.specs.declared.steps.Stopped.{Stopped}
use Rattle.boxes.specs.declared.steps.Stopped.TheVariants.{Unsettled, Unsafe, Exhausted}
use Rattle.boxes_spec.specs.Step.{Result, ok, failed, unsafe, and_then, Step, step, swept}
use Rattle.boxes_spec.specs.Reach.{Reached, tested_step, steps, reach}
use Rattle.boxes.specs.ReachResult.{Outcome, stopped_of, result_of, tested_step_of, reached_of}
use Rattle.sheet_spec.proofs.Box.{differ, any_is}

-- ---- a tested step

-- a step from S with `left` ticks left after c rounds came to r, with the rates R
pub record Stepping (l : Bool) (a : ℕ) (m : Machine) (w : ℕ) (S : List ℤ) (left c : ℕ) (r : Stepped) (R : List ℤ) : Type 0 where
  pub same : step_of (vars_of m) S R r ≡ step l a m S (min w left) c

module _ {l : Bool} {a : ℕ} {m : Machine} {w : ℕ} {S : List ℤ} {left c : ℕ} {r : Stepped} {R : List ℤ} (h : Stepping l a m w S left c r R) (clear : List ℤ → Bool) where
  abbrev tested : Step → ℕ → Result Step
  tested t d = elim (clear (swept m S t)) [ true ↦ ok t d | false ↦ failed (unsafe left (swept m S t)) d ]

  tested_is : (o : Stepped) → r ≡ o → and_then (step_of (vars_of m) S R o) tested ≡ tested_step l a m clear w S left c
  unfolding tested_step
  tested_is o q = ap (λ (x : Stepped). and_then (step_of (vars_of m) S R x) tested) (sym q) ∙ ap (λ (g : Result Step). and_then g tested) h.same

  pub tested_stopped : (E P : List ℤ) (f : StepFault) → r ≡ Err f → tested_step_of E P (Err (stopped_of f)) ≡ tested_step l a m clear w S left c
  unfolding step_of result_of and_then
  tested_stopped E P (fault.Unsettled d) q = tested_is (Err (fault.Unsettled d)) q
  tested_stopped E P (fault.Exhausted d) q = tested_is (Err (fault.Exhausted d)) q

  -- it settled with the end box E and the swept box P
  module _ (s : Covered) (q : r ≡ Ok s) {E P : List ℤ} (e : E ≡ moved (vars_of m) S s.ticks R) (p : P ≡ hull (vars_of m) S E) where
    tested_tested : tested (record { ticks = s.ticks; end = E }) s.count ≡ tested_step l a m clear w S left c
    unfolding step_of and_then
    tested_tested = ap (λ (F : List ℤ). tested (record { ticks = s.ticks; end = F }) s.count) e ∙ tested_is (Ok s) q

    pub tested_clear : clear P ≡ true → tested_step_of E P (Ok s) ≡ tested_step l a m clear w S left c
    unfolding result_of swept
    tested_clear z = sym (pick_yes (clear (hull (vars_of m) S E)) _ _ (ap clear (sym p) ∙ z)) ∙ tested_tested

    pub tested_unsafe : (number : ℕ) → clear P ≡ false → tested_step_of E P (Err (Unsafe left number s.count)) ≡ tested_step l a m clear w S left c
    unfolding result_of swept
    tested_unsafe number z =
        ap (λ (B : List ℤ). failed (unsafe left B) s.count) p
        ∙ sym (pick_no (clear (hull (vars_of m) S E)) _ _ (ap clear (sym p) ∙ z)) ∙ tested_tested

-- the test of a swept box by the lowest number of a no-go box that it meets
module _ (n : ℕ) (v : List ℤ) (count : ℕ) (P : List ℤ) {number : ℕ} (is : number ≡ lowest_met n v count P) where
  clear_is : clear n v count P ≡ not (ltb number count)
  unfolding clear lowest_met
  clear_is = ap not (any_is count _ ∙ ap (λ (j : ℕ). ltb j count) (sym is))

  pub is_clear : count ≤ number → clear n v count P ≡ true
  is_clear h = clear_is ∙ ap not (le-ltb number count h)

  pub is_not_clear : number < count → clear n v count P ≡ false
  is_not_clear h = clear_is ∙ ap not (lt-ltb number count h)

-- ---- the reach

-- a reach of T ticks from A after c rounds, where the loop has come to S with `left` ticks left after d rounds, and swept W
pub record Reaching (l : Bool) (a : ℕ) (m : Machine) (clear : List ℤ → Bool) (w : ℕ) (A : List ℤ) (T c : ℕ) (S W : List ℤ) (left d : ℕ) : Type 0 where
  pub fuel : ℕ
  pub enough : left ≤ fuel
  pub same : reach l a m clear w A T c ≡ steps l a m clear w (suc fuel) S W left d

pub reaching_starts : (l : Bool) (a : ℕ) (m : Machine) (clear : List ℤ → Bool) (w : ℕ) (A : List ℤ) (T c : ℕ) → Reaching l a m clear w A T c A A T c
unfolding reach
reaching_starts l a m clear w A T c = record { fuel = T; enough = le_refl T; same = refl }

module _ {l : Bool} {a : ℕ} {m : Machine} {clear : List ℤ → Bool} {w : ℕ} {A : List ℤ} {T c : ℕ} {S W : List ℤ} {left d : ℕ} (h : Reaching l a m clear w A T c S W left d) where
  pub reaching_ends : left ≡ 0 → reached_of S W (Ok (record { ticks = T; count = d })) ≡ reach l a m clear w A T c
  unfolding steps result_of
  reaching_ends z = sym (h.same ∙ pick_yes (leb left 0) _ _ (le-leb left 0 (omega arith)))

  -- a tested step from S came to r, with the end box E and the swept box P
  module _ (r : Outcome) (E P : List ℤ) (some : 0 < left) (e : tested_step_of E P r ≡ tested_step l a m clear w S left d) where
    abbrev rest : Step → ℕ → Result Reached
    rest t i = steps l a m clear w h.fuel t.end (hull (vars_of m) W (swept m S t)) (left - t.ticks) i

    reach_turn : reach l a m clear w A T c ≡ and_then (tested_step_of E P r) rest
    unfolding steps
    reach_turn = h.same ∙ pick_no (leb left 0) _ _ (lt-leb left 0 some) ∙ ap (λ (g : Result Step). and_then g rest) (sym e)

    pub reaching_stops : (F : List ℤ) (o : Stopped) → r ≡ Err o → reached_of F P (Err o) ≡ reach l a m clear w A T c
    unfolding result_of and_then
    reaching_stops F o q = sym (reach_turn ∙ ap (λ (x : Outcome). and_then (tested_step_of E P x) rest) q ∙ stops o)
      where
        stops : (o : Stopped) → and_then (tested_step_of E P (Err o)) rest ≡ reached_of F P (Err o)
        stops (Unsettled i) = refl
        stops (Unsafe t j i) = refl
        stops (Exhausted i) = refl

    -- it ended, and X is what is swept then
    pub reaching_on : (s : Covered) → r ≡ Ok s → 0 < s.ticks → s.ticks ≤ left → P ≡ hull (vars_of m) S E → (X : List ℤ) → X ≡ hull (vars_of m) W P
        → Reaching l a m clear w A T c E X (left - s.ticks) s.count
    unfolding result_of and_then swept
    reaching_on s q u v p X x = record {
      fuel = h.fuel - 1;
      enough = omega (arith, h.enough);
      same = reach_turn ∙ ap (λ (o : Outcome). and_then (tested_step_of E P o) rest) q
          ∙ ap (λ (B : List ℤ). steps l a m clear w h.fuel E B (left - s.ticks) s.count) (sym (x ∙ ap (hull (vars_of m) W) p))
          ∙ ap (λ (j : ℕ). steps l a m clear w j E X (left - s.ticks) s.count) (suc_of h.fuel (omega (arith, h.enough)));
    }
