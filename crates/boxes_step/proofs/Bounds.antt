-- How far the counts and the boxes of rounds go. Assumes nothing.
use mathlib.Core.Path.{◌≡◌, sym, ap, ◌∙◌}
use mathlib.Core.Bool.{Bool, true}
use mathlib.Core.List.{List}
use Prim.Native.Nat.{ℕ, ◌+◌, ◌*◌, ◌≤◌}
use native.Mathlib.Omega.{arith}
use lib.IntN.{ℤ}
use Rattle.sheet_spec.specs.Limits.{max_cap}
use Rattle.sheet_spec.specs.Valid.{ValidNumbers}
use Rattle.machine_spec.specs.Box.{Near, within}
use Rattle.machine_spec.specs.Machine.{Machine, vars_of}
use Rattle.machine_spec.proofs.Facts.{room}
use Rattle.machine_spec.proofs.Inside.{inside_trans, within_inside, inside_within, hull_left}
use Rattle.machine_spec.proofs.Ranges.{near_less, hull_near}
use Rattle.std.specs.declared.result.Result.TheVariants.{Err}
use Rattle.boxes_step.specs.declared.StepFault.TheVariants.{Unsettled}
use Rattle.boxes_spec.specs.Step.{lifted, grown, rounds}
use Rattle.boxes_step.specs.StepResult.{Stepped, step_of}
use Rattle.boxes_step.proofs.Turn.{Halving}
use Rattle.boxes_spec.proofs.Stages.{failure_of_lem}
use Rattle.boxes_spec.proofs.Settled.{starts, rounds_take}
use Rattle.boxes_spec.proofs.Ranges.{lifted_near}

-- eight rounds add at most eight
pub halving_count : {l : Bool} {a : ℕ} {m : Machine} {S : List ℤ} {w c k d : ℕ} → Halving l a m S w c k d
    → (r : Stepped) (R : List ℤ) → step_of (vars_of m) S R r ≡ rounds l a m S k 8 S d → (i : ℕ) → r ≡ Err (Unsettled i) → i ≤ d + 8
unfolding step_of
halving_count {l} {a} {m} {S} {k = k} {d = d} h r R e i q = (failure_of_lem (rounds_take l a m S k 8 S d h.some starts) (sym e ∙ ap (step_of (vars_of m) S R) q)).1.few

-- how far the next working box goes
pub grown_near : (m : Machine) → ValidNumbers m.sheet → {S E : List ℤ} (k : ℕ) {b c : ℕ} → b + k * max_cap ≤ c → Near (vars_of m) b S → Near (vars_of m) c E → Near (vars_of m) c (grown m S k E)
unfolding grown
grown_near m wf {E = E} k h s e = hull_near (room wf) e (near_less (omega arith) (lifted_near m wf k s E))

-- it holds the start box if this one does
pub grown_holds : (m : Machine) → ValidNumbers m.sheet → (S E : List ℤ) (k : ℕ) → within (vars_of m) S E ≡ true → within (vars_of m) S (grown m S k E) ≡ true
unfolding grown
grown_holds m wf S E k h = inside_within (inside_trans (within_inside S E h) (hull_left (room wf) E (lifted m S k E)))
