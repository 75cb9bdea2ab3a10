-- The sides of a start box: one variable more. Assumes nothing.
use mathlib.Core.Path.{◌≡◌, refl}
use mathlib.Core.Bool.{true, false}
use mathlib.Core.List.{List}
use Prim.Native.Nat.{ℕ, ◌+◌, ◌<◌}
use lib.IntN.{ℤ}
use Rattle.sheet_spec.specs.Box.{all}
use Rattle.sheet_spec.proofs.Box.{all_more, all_stop}
use Rattle.sheet_spec.specs.Refusals.{Cause, number}
use Rattle.sheet_spec.proofs.Laws.{unless_zero}
use Rattle.boxes_spec.specs.Reach.{side_in, sides_refusal}

module _ (n : ℕ) (B : List ℤ) where
  sides_pass : sides_refusal n B ≡ 0 → all n (side_in B) ≡ true
  unfolding sides_refusal
  sides_pass passed = unless_zero (all n (side_in B)) Cause.start passed

  pub sides_none : sides_refusal 0 B ≡ 0
  unfolding sides_refusal all
  sides_none = refl

  pub sides_more : sides_refusal n B ≡ 0 → side_in B n ≡ true → sides_refusal (n + 1) B ≡ 0
  unfolding sides_refusal
  sides_more passed ranged = rw (all_more n (side_in B) (sides_pass passed) ranged) refl

  pub sides_stop : (i : ℕ) → i < n → side_in B i ≡ false → number Cause.start ≡ sides_refusal n B
  unfolding sides_refusal
  sides_stop i i<n out = rw (all_stop n (side_in B) i i<n out) refl
