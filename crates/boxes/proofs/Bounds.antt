-- How far the counts and the boxes of steps and reaches go. Assumes nothing.
use mathlib.Core.Path.{◌≡◌, sym, ap, ◌∙◌}
use mathlib.Core.Bool.{Bool}
use mathlib.Core.List.{List}
use Prim.Native.Nat.{ℕ, ◌+◌, ◌*◌, ◌≤◌, ◌<◌, min}
use native.Mathlib.Omega.{arith}
use lib.IntN.{ℤ}
use Rattle.sheet_spec.specs.Limits.{max_width, max_cap, max_edge}
use Rattle.sheet_spec.specs.Slots.{N}
use Rattle.machine_spec.specs.Box.{Sized}
use Rattle.machine_spec.specs.Machine.{Machine, vars_of}
use Rattle.machine_spec.specs.Accepted.{Accepted}
use Rattle.machine_spec.proofs.Facts.{room}
use Rattle.std.specs.declared.result.Result.TheVariants.{Ok}
use Rattle.boxes_step.specs.declared.Covered.{Covered}
use Rattle.boxes_step.specs.StepResult.{Stepped, step_of}
use Rattle.boxes_spec.specs.Step.{ok}
use Rattle.boxes_spec.specs.Reach.{Reached, tested_step, reach}
use Rattle.boxes.specs.ReachResult.{Outcome, result_of, tested_step_of}
use Rattle.boxes.proofs.Turn.{Stepping, Reaching}
use Rattle.boxes_spec.proofs.Stages.{value_of}
use Rattle.boxes_spec.proofs.Settled.{step_takes, first_place, tested_takes, reach_takes}
use Rattle.machine_spec.proofs.Ranges.{sized_less}
use Rattle.boxes_spec.proofs.Ranges.{settled_sized, steps_sized}

-- a step covers at most its width
pub step_ticks : {l : Bool} {a : ℕ} {m : Machine} {w : ℕ} {S : List ℤ} {left c : ℕ} {r : Stepped} {R : List ℤ} → Stepping l a m w S left c r R
    → vars_of m ≤ N → 0 < w → w ≤ max_width → 0 < left → (s : Covered) → r ≡ Ok s → s.ticks ≤ w
unfolding step_of
step_ticks {l} {a} {m} {w} {S} {left} {c} {R = R} h room z u f s q =
    let g = value_of (step_takes l a m S room (min w left) c 9 (omega arith) (omega arith)) (sym h.same ∙ ap (step_of (vars_of m) S R) q) in
    omega (arith, g.0.most)

-- ---- steps and reaches

-- a step from a box with sides up to b covers t of the ticks left and ends at E, which is not empty
pub record StepBounds (n b left t : ℕ) (E : List ℤ) : Type 0 where
  pub some : 0 < t
  pub most : t ≤ left
  pub end : Sized n (b + t * max_cap) E

-- a tested step that ended
pub tested_bounds : {l : Bool} {a : ℕ} {m : Machine} {clear : List ℤ → Bool} {w : ℕ} {A : List ℤ} {T c : ℕ} {S W : List ℤ} {left d b : ℕ}
    → Reaching l a m clear w A T c S W left d → Accepted m → 0 < w → w ≤ max_width → Sized (vars_of m) b S → b + left * max_cap ≤ max_edge → 0 < left
    → (r : Outcome) (E P : List ℤ) → tested_step_of E P r ≡ tested_step l a m clear w S left d → (o : Covered) → r ≡ Ok o → StepBounds (vars_of m) b left o.ticks E × (o.count ≤ d + 73)
unfolding result_of
tested_bounds {l} {a} {m} {clear} {w} {S = S} {left = left} {d = d} k wf z u s h f r E P e o q =
    let g = value_of (tested_takes l a m clear w 9 (room wf.sheet) z (omega arith) (first_place S left) d f) (sym e ∙ ap (tested_step_of E P) q) in
    let settled = g.0.0 in (record { some = settled.some; most = omega (arith, settled.most); end = settled_sized wf s (omega arith) settled }, g.1.few)

-- a reach that ended: its end box is where the next one starts
pub reach_sized : (l : Bool) (a : ℕ) (m : Machine) (clear : List ℤ → Bool) (w : ℕ) (S : List ℤ) (T c : ℕ) {b d : ℕ} {r : Reached}
    → Accepted m → 0 < w → w ≤ max_width → Sized (vars_of m) b S → b + T * max_cap ≤ max_edge → reach l a m clear w S T c ≡ ok r d → Sized (vars_of m) (b + T * max_cap) r.end × (d ≤ c + 73 * T)
reach_sized l a m clear w S T c wf z u s h e =
    let g = value_of (reach_takes l a m clear w 9 (room wf.sheet) z (omega arith) S T c) e in
    (sized_less (omega arith) (steps_sized wf g.0.path s h), g.1.few)
