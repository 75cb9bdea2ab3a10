-- The third example run goes by a span of commands and by no single one. Assumes nothing.
use mathlib.Core.List.{[], ◌∷◌}
use Prim.Native.Nat.{ℕ, zero, suc, ◌<◌}
use native.Mathlib.Omega.{arith}
use lib.Dec.{lit<}
use lib.IntN.{ℤ, pos, negsuc, ◌+ℤ◌, ◌-ℤ◌, ◌*ℤ◌}
use lib.Signed.{◌≤ℤ◌}
use Rattle.integers.specs.Order.{min_z}
use Rattle.integers.specs.Division.{floor_div, ceil_div}
use Rattle.integers.proofs.Z.{ints, flat, min_is, max_is}
use Rattle.integers.proofs.Division.{floor_hi, ceil_lo}
use Rattle.sheet_spec.specs.Slots.{δ}
use Rattle.sheet_spec.specs.Sheet.{values}
use Rattle.sheet_spec.specs.SheetA.{file_a}
use Rattle.machine_spec.specs.Machine.{Machine, machine, one_command, clamp, Allowed}
use Rattle.boxes_spec.proofs.Sound.{Ticks}
use Rattle.safety.proofs.ExampleRuns.{states_c, opened}

-- sheet A under one command
abbrev under : ℤ → Machine
under u = machine (values file_a) (one_command u)

-- where sheet A's state may fall by 5 its row's number is at most −81, and where it may rise by 5, at least 81
falls : (z : ℤ) → clamp (pos 5) (floor_div (z -ℤ pos 0) 20) ≤ℤ negsuc 4 → z ≤ℤ negsuc 80
unfolding clamp
falls z h =
    let f = floor_div (z -ℤ pos 0) 20 in
    omega (ints, h, max_is (negsuc 4) (min_z f (pos 5)), min_is f (pos 5), simp flat at (floor_hi (z -ℤ pos 0) 20 (lit< tt)))

rises : (z : ℤ) → pos 5 ≤ℤ clamp (pos 5) (ceil_div (z +ℤ pos 0) 20) → pos 81 ≤ℤ z
unfolding clamp
rises z h =
    let c = ceil_div (z +ℤ pos 0) 20 in
    omega (ints, h, max_is (negsuc 4) (min_z c (pos 5)), min_is c (pos 5), simp flat at (ceil_lo (z +ℤ pos 0) 20 (lit< tt)))

-- its row's number at the state x under the command u
number : ℤ → ℤ → ℤ
number x u = ((pos 0 +ℤ negsuc 0 *ℤ x) +ℤ pos 4 *ℤ u) +ℤ pos 0

-- from 0 to −5, and from −5 to 0
down : (u w : ℤ) (k : ℕ) → k < 1 → Allowed (under u) k (pos 0 ∷ []) w 0 (negsuc 4) → number (pos 0) w ≤ℤ negsuc 80
unfolding opened number
down u w zero h a = falls (number (pos 0) w) a.above
down u w (suc k) h a = absurd (omega arith)

up : (u w : ℤ) (k : ℕ) → k < 1 → Allowed (under u) k (negsuc 4 ∷ []) w 0 (pos 5) → pos 81 ≤ℤ number (negsuc 4) w
unfolding opened number
up u w zero h a = rises (number (negsuc 4) w) a.below
up u w (suc k) h a = absurd (omega arith)

-- no command does both
apart : (w z : ℤ) → z ≤ℤ w → number (pos 0) w ≤ℤ negsuc 80 → pos 81 ≤ℤ number (negsuc 4) z → ⊥
unfolding number
apart w z same low high = omega (ints, same, simp flat at low, simp flat at high)

-- NO SINGLE COMMAND has the first period of the run
pub no_single : (u : ℤ) → Ticks (under u) states_c (δ (values file_a)) → ⊥
unfolding opened
no_single u ticks =
    let first = ticks 0 (lit< tt) in
    let second = ticks 1 (lit< tt) in
    apart first.used second.used
    (omega (ints, second.offered.high, first.offered.low))
    (down u first.used first.band first.among (first.change 0 (lit< tt)))
    (up u second.used second.band second.among (second.change 0 (lit< tt)))
