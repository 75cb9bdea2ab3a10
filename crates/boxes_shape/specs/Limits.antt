-- What the code that moves boxes asks of its caller, and what it leaves.
use Rattle.std.specs.Prelude.{◌≡◌, Bool, ◌&&◌, List, ℕ, ◌+◌, ◌≤◌, ℤ, pos, ◌+ℤ◌, ◌*ℤ◌, set}
use Rattle.std.specs.Int.Signed.{le_z}
use Rattle.integers.specs.Bound.{Bound}
use Rattle.integers.specs.Order.{min_z, max_z}
use Rattle.sheet_spec.specs.Limits.{max_ticks, max_cap}
use Rattle.sheet_spec.specs.Slots.{◌!◌, N}
use Rattle.sheet_spec.specs.Box.{lo, hi}
use Rattle.machine_spec.specs.Box.{Near, trim, hull, moved}
use Rattle.machine_spec.specs.Rate.{outer}
use Rattle.boxes_arithmetic.specs.Limits.{limit}

-- the side x can be moved by T of the rate r
pub record SideMovable (x : ℤ) (T : ℕ) (r : ℤ) : Type 0 where
  pub side : Bound x limit
  pub ticks : T ≤ max_ticks
  pub rate : Bound r max_cap

-- the box A of n variables can be moved by T of the rates R
pub record Movable (n : ℕ) (A : List ℤ) (T : ℕ) (R : List ℤ) : Type 0 where
  pub room : n ≤ N
  pub ticks : T ≤ max_ticks
  pub start : Near n limit A
  pub rates : Near n max_cap R

-- the boxes that `arrive` writes have 0 at places that no variable has
pub record Trimmed (n : ℕ) (E A P : List ℤ) : Type 0 where
  pub work : trim n E ≡ E
  pub at : trim n A ≡ A
  pub path : trim n P ≡ P

-- A moved by T of the rates R is B, the working box F is that too, and P is the hull of both ends
pub record ArriveDone (n : ℕ) (A : List ℤ) (T : ℕ) (R B F P : List ℤ) : Type 0 where
  pub end : B ≡ moved n A T R
  pub work : F ≡ B
  pub path : P ≡ hull n A B

-- ---- of one variable or side

-- the sides `low` and `high` of variable i are tested against those of E, and joined to them in F
pub record TookIn (i : ℕ) (low high : ℤ) (E : List ℤ) (inside : Bool) (F : List ℤ) : Type 0 where
  pub test : inside ≡ (le_z (lo E i) low && le_z high (hi E i))
  pub joined : F ≡ set (set E i (min_z (lo E i) low)) (i + N) (max_z (hi E i) high)

-- A's side at a place, moved by T of its rate
abbrev pub moved_side : List ℤ → ℕ → List ℤ → ℕ → ℤ
moved_side A T R place = A ! place +ℤ pos T *ℤ R ! place

-- A, the working box E and the path P become B, F and Q: at one place, as `ArriveDone` says of all
pub record ArriveSideDone (up : Bool) (place : ℕ) (A : List ℤ) (T : ℕ) (R E P B F Q : List ℤ) : Type 0 where
  pub end : B ≡ set A place (moved_side A T R place)
  pub work : F ≡ set E place (moved_side A T R place)
  pub path : Q ≡ set P place (outer up (A ! place) (moved_side A T R place))
