-- A side that can be moved, also one of a box that can be moved. Assumes nothing.
use mathlib.Core.Path.{◌≡◌}
use mathlib.Core.Bool.{Bool}
use mathlib.Core.List.{List}
use Prim.Native.Nat.{ℕ, ◌<◌}
use lib.IntN.{ℤ}
use Rattle.machine_spec.specs.Box.{side}
use Rattle.boxes_shape.specs.Limits.{Movable, SideMovable}

pub movable_as : {x y : ℤ} {k : ℕ} {r s : ℤ} → SideMovable y k s → x ≡ y → r ≡ s → SideMovable x k r
movable_as movable e f = record { side = rw e movable.side; ticks = movable.ticks; rate = rw f movable.rate }

pub side_movable : {n : ℕ} {A : List ℤ} {k : ℕ} {R : List ℤ} → Movable n A k R → (up : Bool) (i : ℕ) → i < n → {x r : ℤ} → x ≡ side up A i → r ≡ side up R i → SideMovable x k r
side_movable movable up i h e f = movable_as (record { side = movable.start.at up i h; ticks = movable.ticks; rate = movable.rates.at up i h }) e f
