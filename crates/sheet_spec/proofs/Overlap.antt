-- Laws about the test that the recovery box shares no state with a no-go box. Assumes nothing.
use mathlib.Core.Path.{◌≡◌, refl, sym, ap}
use mathlib.Core.Bool.{Bool, true, false}
use mathlib.Core.List.{List}
use Prim.Native.Nat.{ℕ, ◌≤◌, ◌<◌}
use native.Mathlib.Omega.{arith}
use lib.IntN.{ℤ}
use Rattle.sheet_spec.specs.Slots.{recovery_box, unsafe_box}
use Rattle.sheet_spec.specs.Box.{meets, clear}
use Rattle.sheet_spec.specs.Refusals.{Cause, number, refuse_unless}
use Rattle.sheet_spec.specs.File.{overlap_test}
use Rattle.sheet_spec.proofs.Box.{not_clear}
use Rattle.sheet_spec.proofs.Laws.{unless_below}

module _ (n : ℕ) (v : List ℤ) (count : ℕ) where
  pub overlap_met : (j : ℕ) → j < count → meets n (recovery_box v) (unsafe_box v j) ≡ true → number Cause.overlap ≡ overlap_test n v count
  unfolding overlap_test
  overlap_met j h e = sym (ap (λ (t : Bool). refuse_unless t Cause.overlap) (not_clear n v count (recovery_box v) j h e))

  pub overlap_clear : clear n v count (recovery_box v) ≡ true → 0 ≡ overlap_test n v count
  unfolding overlap_test
  overlap_clear e = sym (ap (λ (t : Bool). refuse_unless t Cause.overlap) e)

  pub overlap_most : overlap_test n v count ≤ number Cause.overlap
  unfolding overlap_test
  overlap_most = unless_below (clear n v count (recovery_box v)) Cause.overlap (omega arith)

  pub overlap_found : overlap_test n v count ≡ number Cause.overlap → clear n v count (recovery_box v) ≡ false
  unfolding overlap_test
  overlap_found = by (clear n v count (recovery_box v))
    where
      by : (t : Bool) → refuse_unless t Cause.overlap ≡ number Cause.overlap → t ≡ false
      by true e = let z : ⊥ = omega arith in absurd z
      by false e = refl
