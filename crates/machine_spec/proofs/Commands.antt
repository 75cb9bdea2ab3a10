-- A tick uses one command for all variables (document 01, "The machine on a sheet"): two changes that are each allowed under a
-- command of the safety range, but not both under the same one, are no tick. Assumes nothing.
use mathlib.Core.Path.{◌≡◌, refl}
use mathlib.Core.Bool.{true, false}
use mathlib.Core.List.{List, [], ◌∷◌, ◌++◌}
use Prim.Native.Nat.{ℕ, zero, suc, ◌-◌, ◌<◌}
use native.Mathlib.Omega.{arith}
use lib.Dec.{lit<}
use lib.IntN.{ℤ, pos, negsuc, ◌+ℤ◌, ◌-ℤ◌}
use lib.ListN.{replicate}
use lib.Signed.{◌≤ℤ◌}
use Rattle.integers.specs.Order.{min_z}
use Rattle.integers.specs.Division.{floor_div, ceil_div}
use Rattle.integers.proofs.Z.{ints, flat, le_true, min_is, max_is}
use Rattle.integers.proofs.Division.{floor_hi, ceil_lo}
use Rattle.sheet_spec.specs.Slots.{N, law_size, row_at}
use Rattle.machine_spec.specs.declared.Law.TheVariants.{Baseline, Span}
use Rattle.machine_spec.specs.Machine.{Machine, machine, row_of, offered_at, clamp, numerator, change, Allowed, Tick}
use Rattle.machine_spec.proofs.Everything.{everything}

-- two variables and one band; each variable changes by the command, which lies in 0..1
abbrev row : List ℤ
row = replicate N (pos 0) ++ (pos 1 ∷ pos 0 ∷ pos 0 ∷ pos 1 ∷ [])

abbrev v : List ℤ
v = (pos 2 ∷ pos 1 ∷ pos 1 ∷ pos 0 ∷ pos 4 ∷ pos 4 ∷ pos 4 ∷ pos 0 ∷ pos 1 ∷ pos 5 ∷ pos 5 ∷ replicate (N - 2) (pos 0))
    ++ (negsuc 1999999 ∷ pos 0 ∷ pos 1 ∷ replicate law_size (pos 0) ++ (row ++ row))

abbrev m : Machine
m = machine v Baseline

commands : (x : List ℤ) → (offered_at false m 0 x ≡ pos 0) × (offered_at true m 0 x ≡ pos 1)
unfolding everything
commands x = (refl, refl)

-- of a span both ends are offered
of_span : (x : List ℤ) → (offered_at false (machine v (Span (pos 2) (pos 3))) 0 x ≡ pos 2) × (offered_at true (machine v (Span (pos 2) (pos 3))) 0 x ≡ pos 3)
unfolding everything
of_span x = (refl, refl)

-- from 0 and 0 to 1 and 0: the first variable's change is allowed under the command 1, the second's under the command 0
abbrev x : List ℤ
x = pos 0 ∷ pos 0 ∷ []

abbrev y : List ℤ
y = pos 1 ∷ pos 0 ∷ []

each_alone : Allowed m 0 x (pos 1) 0 (pos 1) × Allowed m 0 x (pos 0) 1 (pos 0)
unfolding everything
each_alone = (record { above = le_true _ _ refl; below = le_true _ _ refl }, record { above = le_true _ _ refl; below = le_true _ _ refl })

-- where 1 is allowed, 0 is not
apart : (z : ℤ) → pos 1 ≤ℤ change true (pos 5) (row_at row 0) z → change false (pos 5) (row_at row 0) z ≤ℤ pos 0 → ⊥
unfolding change clamp
apart z h k =
    let c = ceil_div (z +ℤ pos 0) 1 in
    let f = floor_div (z -ℤ pos 0) 1 in
    omega (
      ints,
      h,
      k,
      max_is (negsuc 4) (min_z c (pos 5)),
      min_is c (pos 5),
      simp flat at (ceil_lo (z +ℤ pos 0) 1 (lit< tt)),
      max_is (negsuc 4) (min_z f (pos 5)),
      min_is f (pos 5),
      simp flat at (floor_hi (z -ℤ pos 0) 1 (lit< tt)),
    )

-- so no command allows both changes
no_command : (k : ℕ) → k < 1 → (u : ℤ) → Allowed m k x u 0 (pos 1) → Allowed m k x u 1 (pos 0) → ⊥
unfolding everything
no_command zero h u a b = apart (numerator 2 (row_of m 0 0) x u) a.below b.above
no_command (suc k) h u a b = absurd (omega arith)

pub no_tick : Tick m x y → ⊥
no_tick t = no_command t.band t.among _ (t.change 0 (lit< tt)) (t.change 1 (lit< tt))
