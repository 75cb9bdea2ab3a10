-- Boxes of states: what they hold, how they compare, grow and move. All of it computes. sheet_spec/specs/Box says what a box is.
use Rattle.std.specs.Prelude.{Bool, true, false, ◌&&◌, List, ℕ, zero, suc, ◌+◌, ◌<◌, ℤ, pos, ◌+ℤ◌, ◌*ℤ◌, ◌≤ℤ◌, set, replicate}
use Rattle.std.specs.Int.Signed.{le_z}
use Rattle.integers.specs.Bound.{Bound}
use Rattle.integers.specs.Order.{min_z, max_z}
use Rattle.sheet_spec.specs.Slots.{◌!◌, N, box_size}
use Rattle.sheet_spec.specs.Box.{lo, hi, all}

-- ---- for each i below n

unfoldable pub sum : ℕ → (ℕ → ℤ) → ℤ
sum zero f = pos 0
sum (suc n) f = sum n f +ℤ f n

-- the box with the lower sides f and the upper sides g
unfoldable pub box_of : ℕ → (ℕ → ℤ) → (ℕ → ℤ) → List ℤ
box_of zero f g = replicate box_size (pos 0)
box_of (suc n) f g = set (set (box_of n f g) n (f n)) (n + N) (g n)

-- ---- boxes

-- the lower (`false`) or the upper (`true`) side of variable i
abbrev pub side : Bool → List ℤ → ℕ → ℤ
side false B i = lo B i
side true B i = hi B i

-- no side of a variable is greater than b, without its sign
pub record Near (n b : ℕ) (B : List ℤ) : Type 0 where
  pub at : (up : Bool) (i : ℕ) → i < n → Bound (side up B i) b

-- no variable's lower side is above its upper one
pub record Ordered (n : ℕ) (B : List ℤ) : Type 0 where
  pub at : (i : ℕ) → i < n → lo B i ≤ℤ hi B i

-- a box that is not empty, and whose sides are at most b
pub record Sized (n b : ℕ) (B : List ℤ) : Type 0 where
  pub near : Near n b B
  pub ordered : Ordered n B

-- the box holds the state: each variable lies from its lower to its upper side, both counted
pub record In (n : ℕ) (B x : List ℤ) : Type 0 where
  pub low : (i : ℕ) → i < n → lo B i ≤ℤ x ! i
  pub high : (i : ℕ) → i < n → x ! i ≤ℤ hi B i

-- B, with what no variable has set to 0
unfoldable pub trim : ℕ → List ℤ → List ℤ
trim n B = box_of n (lo B) (hi B)

unfoldable pub hull : ℕ → List ℤ → List ℤ → List ℤ
hull n A B = box_of n (λ i. min_z (lo A i) (lo B i)) (λ i. max_z (hi A i) (hi B i))

-- A lies in B
unfoldable pub within : ℕ → List ℤ → List ℤ → Bool
within n A B = all n (λ i. le_z (lo B i) (lo A i) && le_z (hi A i) (hi B i))

-- each face of A moved by `ticks` of its rates
unfoldable pub moved : ℕ → List ℤ → ℕ → List ℤ → List ℤ
moved n A ticks r = box_of n (λ i. lo A i +ℤ pos ticks *ℤ lo r i) (λ i. hi A i +ℤ pos ticks *ℤ hi r i)
