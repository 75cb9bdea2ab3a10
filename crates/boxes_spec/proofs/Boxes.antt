-- The boxes of the rounds of a step (document 01, "One lifted step"): four ticks of sheet A under the command 25, from 0. Assumes nothing.
use mathlib.Core.Path.{◌≡◌, refl}
use mathlib.Core.Bool.{true, false}
use mathlib.Core.List.{List, ◌∷◌, ◌++◌}
use Prim.Native.Nat.{◌-◌}
use lib.IntN.{ℤ, pos}
use lib.ListN.{replicate}
use Rattle.sheet_spec.specs.Slots.{N}
use Rattle.sheet_spec.specs.Sheet.{values}
use Rattle.sheet_spec.specs.SheetA.{file_a}
use Rattle.sheet_spec.specs.Box.{lo, hi}
use Rattle.machine_spec.specs.Machine.{Machine, machine, one_command}
use Rattle.boxes_spec.specs.Step.{lifted, settles, end_box, grown, swept}
use Rattle.boxes_spec.proofs.Everything.{everything}

-- a box of one variable
abbrev box : ℤ → ℤ → List ℤ
box l h = (l ∷ replicate (N - 1) (pos 0)) ++ (h ∷ replicate (N - 1) (pos 0))

abbrev m : Machine
m = machine (values file_a) (one_command (pos 25))

abbrev start : List ℤ
start = box (pos 0) (pos 0)

-- the working box is the start box: both rates are 5, so M is the hull of 0 and of 15, and the step does not settle
pub first_round : (lo (lifted m start 4 start) 0 ≡ pos 0) × (hi (lifted m start 4 start) 0 ≡ pos 15) × (settles m start 4 start ≡ false)
unfolding everything
first_round = (refl, refl, refl)

abbrev working : List ℤ
working = grown m start 4 start

-- the working box is 0..15: the rates are 4 and 5, so M is the hull of 0 and of 12..15, and the step settles
pub second_round : (lo working 0 ≡ pos 0) × (hi working 0 ≡ pos 15) × (hi (lifted m start 4 working) 0 ≡ pos 15) × (settles m start 4 working ≡ true)
unfolding everything
second_round = (refl, refl, refl, refl)

-- the end box is 16..20, the swept box 0..20
pub step_end : (lo (end_box m start 4 working) 0 ≡ pos 16) × (hi (end_box m start 4 working) 0 ≡ pos 20)
unfolding everything
step_end = (refl, refl)

pub step_swept : (lo (swept m start (record { ticks = 4; end = box (pos 16) (pos 20) })) 0 ≡ pos 0) × (hi (swept m start (record { ticks = 4; end = box (pos 16) (pos 20) })) 0 ≡ pos 20)
unfolding everything
step_swept = (refl, refl)
