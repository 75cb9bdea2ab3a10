-- What the code tries, as the definitions' decision and recovery check. Assumes nothing.
use mathlib.Core.Path.{◌≡◌, refl}
use mathlib.Core.List.{List, [], ◌∷◌}
use Prim.Native.Nat.{ℕ, max}
use lib.IntN.{ℤ}
use Rattle.std.specs.declared.option.Option.TheVariants.{Some, None}
use Rattle.sheet_spec.specs.Slots.{δ, α, ρ, recovery_box}
use Rattle.machine_spec.specs.declared.Law.{Law}
use Rattle.machine_spec.specs.declared.Law.TheVariants.{Baseline}
use Rattle.decision_spec.specs.Decision.{phase, attempts, last_reply, decision_phases, decision_of, recovery_phases, recovery_of}
use Rattle.decision_attempt.specs.AttemptResult.{attempt_of}

-- the law that is asked for, for δ ticks, then the baseline for α
pub plan_decides : (v B : List ℤ) (l : Law) (allowed : ℕ) {first plain width : ℕ} → first ≡ δ v → plain ≡ α v → width ≡ max first plain
    → last_reply (attempts (attempt_of (Some allowed) (phase l first ∷ phase Baseline plain ∷ []) v B) width width 0) ≡ decision_of v B l allowed
unfolding decision_of decision_phases
plan_decides v B l allowed first_is plain_is width_is = rw (width_is, first_is, plain_is) refl

-- the baseline for ρ ticks
pub plan_checks : (v : List ℤ) {start : List ℤ} {ticks : ℕ} → start ≡ recovery_box v → ticks ≡ ρ v
    → last_reply (attempts (attempt_of None (phase Baseline ticks ∷ []) v start) ticks ticks 0) ≡ recovery_of v
unfolding recovery_of recovery_phases
plan_checks v start_is ticks-is = rw (start_is, ticks-is) refl
