-- The theorem speaks of the example runs. Assumes nothing.
use mathlib.Core.Path.{◌≡◌, refl}
use mathlib.Core.Bool.{Bool, true, false}
use mathlib.Core.List.{[], ◌∷◌}
use Prim.Native.Nat.{◌+◌}
use lib.Dec.{lit<, lit≤}
use lib.IntN.{pos}
use Rattle.sheet_spec.specs.Slots.{recovery_box, unsafe_box}
use Rattle.sheet_spec.specs.Sheet.{values}
use Rattle.sheet_spec.specs.SheetA.{file_a}
use Rattle.machine_spec.specs.Box.{In}
use Rattle.machine_spec.specs.declared.Law.{Law}
use Rattle.machine_spec.specs.declared.Law.TheVariants.{Baseline, Span}
use Rattle.sheet_spec.proofs.Box.{differ, all_at}
use Rattle.safety.specs.Run.{law_at, Safe}
use Rattle.safety.proofs.Run.{safe_runs}
use Rattle.safety.proofs.RunTest.{holds_in}
use Rattle.safety.proofs.ExampleRuns.{periods_a, states_a, file_b, periods_b, states_b, periods_c, states_c, file_d, periods_d, states_d, opened, run_a, run_b, run_c, run_d}

safe_a : Safe file_a periods_a states_a
unfolding opened
safe_a = safe_runs file_a tt periods_a states_a (holds_in 1 (recovery_box (values file_a)) (states_a 0) refl) run_a

safe_b : Safe file_b periods_b states_b
unfolding opened
safe_b = safe_runs file_b tt periods_b states_b (holds_in 2 (recovery_box (values file_b)) (states_b 0) refl) run_b

safe_c : Safe file_a periods_c states_c
unfolding opened
safe_c = safe_runs file_a tt periods_c states_c (holds_in 1 (recovery_box (values file_a)) (states_c 0) refl) run_c

safe_d : Safe file_d periods_d states_d
unfolding opened
safe_d = safe_runs file_d tt periods_d states_d (holds_in 1 (recovery_box (values file_d)) (states_d 0) refl) run_d

-- sheet A's no-go box holds 130, but neither the first state of the run nor the last, after tick 28
forbidden_a : In 1 (unsafe_box (values file_a) 0) (pos 130 ∷ [])
unfolding opened
forbidden_a = holds_in 1 (unsafe_box (values file_a) 0) (pos 130 ∷ []) refl

clear_a : (In 1 (unsafe_box (values file_a) 0) (states_a 0) → ⊥) × (In 1 (unsafe_box (values file_a) 0) (states_a 28) → ⊥)
unfolding opened
clear_a = (safe_a.safe 0 (lit≤ tt) 0 (lit< tt), safe_a.safe 28 (lit≤ tt) 0 (lit< tt))

-- and the same of sheet B's first no-go box, whose second variable is 45 or more, and the last state, after tick 12
forbidden_b : In 2 (unsafe_box (values file_b) 0) (pos 0 ∷ pos 45 ∷ [])
unfolding opened
forbidden_b = holds_in 2 (unsafe_box (values file_b) 0) (pos 0 ∷ pos 45 ∷ []) refl

clear_b : (In 2 (unsafe_box (values file_b) 0) (states_b 0) → ⊥) × (In 2 (unsafe_box (values file_b) 0) (states_b 12) → ⊥)
unfolding opened
clear_b = (safe_b.safe 0 (lit≤ tt) 0 (lit< tt), safe_b.safe 12 (lit≤ tt) 0 (lit< tt))

-- nor the last state of the run under a law that follows the state, after tick 8
clear_d : In 1 (unsafe_box (values file_d) 0) (states_d 8) → ⊥
unfolding opened
clear_d = safe_d.safe 8 (lit≤ tt) 0 (lit< tt)

abbrev pub plain : Law → Bool
plain Baseline = true
plain (Span a b) = false

pub plain_is : (l : Law) → plain l ≡ true → l ≡ Baseline
plain_is Baseline e = refl
plain_is (Span a b) e = absurd (differ e refl)

-- the α ticks after the kept period end at tick 8, inside the third period
back_b : In 2 (recovery_box (values file_b)) (states_b 8)
unfolding opened
back_b = safe_b.returns 0 (lit< tt) tt (lit≤ tt) (λ t h. plain_is (law_at file_b periods_b (3 + t)) (all_at 5 (λ t. plain (law_at file_b periods_b (3 + t))) t refl h))

-- and these α ticks end at tick 8 too
back_d : In 1 (recovery_box (values file_d)) (states_d 8)
unfolding opened
back_d = safe_d.returns 0 (lit< tt) tt (lit≤ tt) (λ t h. plain_is (law_at file_d periods_d (4 + t)) (all_at 4 (λ t. plain (law_at file_d periods_d (4 + t))) t refl h))
