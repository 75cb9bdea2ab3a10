-- The numbers of a row as the code reads them. Assumes nothing.
use mathlib.Core.Path.{◌≡◌, ap, ◌∙◌}
use mathlib.Core.List.{List}
use Prim.Native.Nat.{ℕ, ◌+◌, ◌^◌, ◌<◌}
use native.Mathlib.Omega.{arith}
use lib.IntN.{ℤ}
use lib.Signed.{mag}
use mir.Syntax.{w32, w64}
use mir.Val.{hbits, to_z, of_z}
use borrow.Author.Rules.{sfits_of}
use Rattle.integers.specs.Bound.{Bound}
use Rattle.integers.proofs.Z.{bound_of}
use Rattle.sheet_spec.specs.Slots.{◌!◌, N}
use Rattle.boxes_arithmetic.specs.Limits.{word}
use Rattle.boxes_arithmetic.proofs.Bounds.{wide}

-- the j-th number after a row's b, as the code reads it
module _ (v : List ℤ) (at j : ℕ) (h : mag (v ! (at + (N + j))) < 2 ^ hbits w32) where
  place : at + (N + j) ≡ at + N + j
  place = omega arith

  pub row_read : to_z w64 (of_z w64 (to_z w32 (of_z w32 (v ! (at + (N + j)))))) ≡ v ! (at + N + j)
  row_read = wide _ h ∙ ap (λ (i : ℕ). v ! i) place

  pub row_bound : Bound (v ! (at + N + j)) word
  row_bound = rw (← place) (bound_of {w = w32} (sfits_of h))
