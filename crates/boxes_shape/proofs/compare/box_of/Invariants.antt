-- `box_of`: after i turns, the first i variables have their sides. Assumes nothing.
use Rattle.std.proofs.Common.{◌≡◌, ℕ, ◌+◌, ◌<◌, ℤ}
use Rattle.sheet_spec.specs.Slots.{N, box_size}
use Rattle.machine_spec.specs.Box.{box_of}
use Rattle.boxes_shape.proofs.compare.box_of.Given as goal

abbrev pub invariant-loop-i : goal.invariant-loop-i
invariant-loop-i g l = (f : ℕ → ℤ) → ((place : ℕ) → place < box_size → (z : ℤ) → goal.F-post g l.side place z → z ≡ f place) → l.sides ≡ box_of l.i f (λ i. f (i + N))
