-- A box of readings holds every number and every state that the readings allow. Assumes nothing.
use mathlib.Core.Path.{◌≡◌, sym, ap, ◌∙◌}
use mathlib.Core.Bool.{true, false}
use Prim.Native.Nat.{ℕ, ◌<◌}
use native.Mathlib.Nat.{mul_comm}
use native.Mathlib.Omega.{arith}
use lib.IntN.{ℤ, pos, ◌+ℤ◌, ◌-ℤ◌, ◌*ℤ◌}
use lib.Signed.{◌≤ℤ◌}
use lib.Ieee.{Float}
use Rattle.integers.proofs.Z.{ints, flat, le_by, mul_mono, mul_assoc}
use Rattle.integers.proofs.Division.{floor_lo, ceil_hi}
use Rattle.sheet_spec.specs.Slots.{◌!◌}
use Rattle.sheet_spec.proofs.Laws.{first_none}
use Rattle.readings_spec.specs.Causes.{Cause}
use Rattle.readings_spec.proofs.Causes.{number_is}
use Rattle.machine_spec.specs.Machine.{outward_div}
use Rattle.machine_spec.proofs.Box.{sides_lo, sides_hi}
use Rattle.readings_spec.specs.declared.Reading.TheVariants.{Point, Pair, Missing}
use Rattle.readings_spec.specs.Exact.{unit, scaled, rounded, whole}
use Rattle.readings_spec.specs.Reading.{reading_side, reading_refusal, reading_at, readings_refusal, readings_box}
use Rattle.readings_spec.specs.Allowed.{Allows, HoldsNumbers, HoldsStates}
use Rattle.readings_spec.proofs.Exact.{unit_pos}

-- ---- from units to whole numbers, for any number u of units

module _ (u : ℕ) (U : 0 < u) where
  -- a/u ≤ b/u
  pub cancel : (a b : ℤ) → (pos u *ℤ a) ≤ℤ (pos u *ℤ b) → a ≤ℤ b
  cancel a b h = le_by a b (λ n.
      let d = mul_mono (pos u) (b +ℤ pos 1) a (omega ints) (simp flat (omega ints)) in
      omega (ints, simp flat at d, simp flat at h))

  swap : (q : ℕ) (s : ℤ) → pos q *ℤ (pos u *ℤ s) ≡ pos u *ℤ (pos q *ℤ s)
  swap q s = sym (mul_assoc (pos q) (pos u) s) ∙ ap (λ (k : ℕ). pos k *ℤ s) (mul_comm q u) ∙ mul_assoc (pos u) (pos q) s

  -- a lower side that is not above `least`, and an upper one that is not below `greatest`
  below_all : (side least z : ℤ) (q : ℕ) → (pos u *ℤ side) ≤ℤ least → (pos q *ℤ least) ≤ℤ (pos u *ℤ z) → (pos q *ℤ side) ≤ℤ z
  below_all side least z q h k =
      let d : (pos u *ℤ (pos q *ℤ side)) ≤ℤ (pos q *ℤ least) = rw (swap q side) at (mul_mono (pos q) (pos u *ℤ side) least (omega ints) h) in
      cancel (pos q *ℤ side) z (omega ints)

  above_all : (side greatest z : ℤ) (q : ℕ) → greatest ≤ℤ (pos u *ℤ side) → (pos u *ℤ z) ≤ℤ (pos q *ℤ greatest) → z ≤ℤ (pos q *ℤ side)
  above_all side greatest z q h k =
      let d : (pos q *ℤ greatest) ≤ℤ (pos u *ℤ (pos q *ℤ side)) = rw (swap q side) at (mul_mono (pos q) greatest (pos u *ℤ side) (omega ints) h) in
      cancel z (pos q *ℤ side) (omega ints)

  -- floor(value) − ceil(tolerance), and ceil(value) + ceil(tolerance)
  lower_point : (f c v t : ℤ) → (pos u *ℤ f) ≤ℤ v → t ≤ℤ (pos u *ℤ c) → (pos u *ℤ (f -ℤ c)) ≤ℤ (v -ℤ t)
  lower_point f c v t h k = simp flat (omega (ints, simp flat at h, simp flat at k))

  upper_point : (g c v t : ℤ) → v ≤ℤ (pos u *ℤ g) → t ≤ℤ (pos u *ℤ c) → (v +ℤ t) ≤ℤ (pos u *ℤ (g +ℤ c))
  upper_point g c v t h k = simp flat (omega (ints, simp flat at h, simp flat at k))

-- ---- floor and ceiling of a float

pub floor_is : (x : Float) → whole (rounded false x) ≤ℤ scaled x
unfolding rounded outward_div
floor_is x = floor_lo (scaled x) unit unit_pos

pub ceil_is : (x : Float) → scaled x ≤ℤ whole (rounded true x)
unfolding rounded outward_div
ceil_is x = ceil_hi (scaled x) unit unit_pos

-- ---- the claims

pub holds_numbers : HoldsNumbers
unfolding reading_side Allows reading_refusal
holds_numbers (Point m) none z q Q a =
    let v = m.value in
    let t = m.tolerance in (
      below_all unit unit_pos (rounded false v -ℤ rounded true t) (scaled v -ℤ scaled t) z q (lower_point unit unit_pos (rounded false v) (rounded true t) (scaled v) (scaled t) (floor_is v) (ceil_is t)) a.low,
      above_all unit unit_pos (rounded true v +ℤ rounded true t) (scaled v +ℤ scaled t) z q (upper_point unit unit_pos (rounded true v) (rounded true t) (scaled v) (scaled t) (ceil_is v) (ceil_is t)) a.high,
    )
holds_numbers (Pair l u) none z q Q a =
    (below_all unit unit_pos (rounded false l) (scaled l) z q (floor_is l) a.low, above_all unit unit_pos (rounded true u) (scaled u) z q (ceil_is u) a.high)
holds_numbers Missing none z q Q a = absurd (number_is Cause.missing none)

pub holds_states : HoldsStates
unfolding readings_refusal readings_box
holds_states n rs few none x a = record {
  low = λ i h. rw (sides_lo (λ i. reading_side false (reading_at rs i)) (λ i. reading_side true (reading_at rs i)) n i few h) (let d = simp flat at (one i h).0 in omega ints);
  high = λ i h. rw (sides_hi (λ i. reading_side false (reading_at rs i)) (λ i. reading_side true (reading_at rs i)) n i few h) (let d = simp flat at (one i h).1 in omega ints);
}
  where
    one : (i : ℕ) → i < n → ((pos 1 *ℤ reading_side false (reading_at rs i)) ≤ℤ x ! i) × (x ! i ≤ℤ (pos 1 *ℤ reading_side true (reading_at rs i)))
    one i h = holds_numbers (reading_at rs i) ((first_none (λ i. reading_refusal (reading_at rs i)) n none).at i h) (x ! i) 1 (omega arith) (a i h)
