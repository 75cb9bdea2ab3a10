-- Worked goals: how each law of this crate is used. Assumes nothing.
use mathlib.Core.Path.{◌≡◌}
use mathlib.Core.Bool.{Bool, true, false}
use mathlib.Core.List.{List, [], ◌∷◌}
use Prim.Native.Nat.{ℕ, ◌+◌, ◌<◌}
use native.Mathlib.Omega.{arith}
use lib.Dec.{T}
use lib.ListN.{length, get_or, set}
use lib.Seq.{sets}
use lib.IntN.{ℤ, pos, negsuc, ◌+ℤ◌, ◌-ℤ◌, ◌*ℤ◌}
use lib.Signed.{le_z, ◌≤ℤ◌, ◌<ℤ◌}
use mir.Syntax.{w64, w32, w16}
use mir.Val.{SFits}
use Rattle.integers.specs.Order.{min_z, max_z}
use Rattle.integers.specs.Bound.{Bound}
use Rattle.integers.specs.Bytes.{Bytes, encode, decode}
use Rattle.integers.specs.Division.{floor_div, ceil_div}
use Rattle.integers.proofs.Z.{ints, flat, sum, sub, range, mul_mono, flat-min, ne_read, square, span_lo, span_hi, bound_sum, bound_mul, bound_lit, fits64}
use Rattle.integers.proofs.Division.{floor_most, floor_mono, floor_only, floor_le_ceil, ceil_least, ceil_only}
use Rattle.integers.proofs.Bytes.{decode_encode, encode_decode}
use Rattle.integers.proofs.Lists.{sets_append, set_front, entry}
use Rattle.integers.proofs.Tests.{pick_yes}

-- both ways of each: `simp flat (omega ints)` for the goal's own sums, `sum x y` for a listed one
g1 : (lo x a y : ℤ) → lo ≤ℤ x → a ≤ℤ y → (lo +ℤ a) ≤ℤ (x +ℤ y)
g1 lo x a y h k = simp flat (omega ints)

g1' : (lo x a y : ℤ) → lo ≤ℤ x → a ≤ℤ y → (lo +ℤ a) ≤ℤ (x +ℤ y)
g1' lo x a y h k = omega (ints, sum lo a, sum x y)

g2 : (x y z : ℤ) → x <ℤ y → (x +ℤ z) <ℤ (y +ℤ z)
g2 x y z h = simp flat (omega ints)

g3 : (x y z : ℤ) → (x +ℤ y) +ℤ z ≡ x +ℤ (z +ℤ y)
g3 x y z = simp flat (omega ints)

g4 : (x y : ℤ) → (x -ℤ y) ≤ℤ pos 5 → x ≤ℤ (y +ℤ pos 5)
g4 x y h = simp flat (omega (ints, simp flat at h))

g4' : (x y : ℤ) → (x -ℤ y) ≤ℤ pos 5 → x ≤ℤ (y +ℤ pos 5)
g4' x y h = simp flat (omega (ints, sub x y))

-- j·r stepping
g5 : (lo x y r j : ℤ) → (lo +ℤ j *ℤ r) ≤ℤ x → r ≤ℤ y → (lo +ℤ (j +ℤ pos 1) *ℤ r) ≤ℤ (x +ℤ y)
g5 lo x y r j h k = simp flat (omega (ints, simp flat at h))

g5' : (lo x y r : ℤ) (j : ℕ) → (lo +ℤ pos j *ℤ r) ≤ℤ x → r ≤ℤ y → (lo +ℤ pos (j + 1) *ℤ r) ≤ℤ (x +ℤ y)
g5' lo x y r j h k = simp flat (omega (ints, simp flat at h))

g5_strict : (lo x y r : ℤ) (j : ℕ) → (lo +ℤ pos j *ℤ r) <ℤ x → r ≤ℤ y → (lo +ℤ pos (j + 1) *ℤ r) <ℤ (x +ℤ y)
g5_strict lo x y r j h k = simp flat (omega (ints, simp flat at h))

-- ring
g6 : (x y : ℤ) → (x +ℤ y) *ℤ (x -ℤ y) ≡ x *ℤ x -ℤ y *ℤ y
g6 x y = simp flat (omega ints)

-- ranges
g7 : (x y : ℤ) → SFits w32 x → SFits w32 y → SFits w64 (x +ℤ y)
g7 x y h k = simp flat (omega (ints, range h, range k))

g8 : (x y : ℤ) → negsuc 2999999 ≤ℤ x → x ≤ℤ pos 3000000 → negsuc 999 ≤ℤ y → y ≤ℤ pos 1000 → SFits w64 (x -ℤ y)
g8 x y a b c d = simp flat (omega ints)

-- refutation
g9 : (x y : ℤ) → x <ℤ y → y ≤ℤ x → ⊥
g9 x y h k = omega ints

g10 : (x y : ℤ) → x ≤ℤ y → y ≤ℤ x → x ≡ y
g10 x y h k = omega ints

-- one more
g11 : (x y : ℤ) → x <ℤ y → (x +ℤ pos 1) ≤ℤ y
g11 x y h = simp flat (omega ints)

-- an equation in hand
g12 : (x y z r : ℤ) → r ≡ x +ℤ y → z ≤ℤ y → pos 0 ≤ℤ x → z ≤ℤ r
g12 x y z r e h k = omega (ints, sum x y)

-- the lesser and the greater
g13 : (x y z : ℤ) → z ≤ℤ x → z ≤ℤ y → (z +ℤ pos 1) ≤ℤ (min_z x y +ℤ pos 1)
g13 x y z h k = simp flat-min (omega ints)

g14 : (x y z : ℤ) → min_z x y ≤ℤ (max_z y z)
g14 x y z = simp flat-min (omega ints)

g15 : (k x y : ℤ) → pos 0 ≤ℤ k → x ≤ℤ y → (k *ℤ x) ≤ℤ (k *ℤ y)
g15 k x y h q = mul_mono k x y h q

-- what wants a fact more
g16 : (x y : ℤ) → (x ≡ y → ⊥) → x ≤ℤ y → (x +ℤ pos 1) ≤ℤ y
g16 x y n h = simp flat (omega (ints, ne_read x y n))

g17 : (x y : ℤ) → pos 0 ≤ℤ (x *ℤ x +ℤ y *ℤ y)
g17 x y = omega (ints, square x, square y, sum (x *ℤ x) (y *ℤ y))

g18 : (a lo hi x : ℤ) → lo ≤ℤ x → x ≤ℤ hi → (min_z (a *ℤ lo) (a *ℤ hi) ≤ℤ (a *ℤ x)) × ((a *ℤ x) ≤ℤ max_z (a *ℤ lo) (a *ℤ hi))
g18 a lo hi x h k = (span_lo a lo hi x h k, span_hi a lo hi x h k)

g19 : (x y : ℤ) → (x +ℤ y) ≤ℤ pos 3 → (y +ℤ x) ≤ℤ pos 4
g19 x y h = simp flat (omega (ints, simp flat at h))

g20 : (x y : ℤ) → pos 2 *ℤ x ≡ pos 2 *ℤ y → x ≡ y
g20 x y e = omega (ints, simp flat at e)

g21 : (x y : ℤ) → (x ≤ℤ y) × (y ≤ℤ pos 3) → x ≤ℤ pos 3
g21 x y h = omega ints

-- no overflow: from the bounds of the parts to the range of the whole
g22 : (x y : ℤ) → Bound x 3000000 → Bound y 1000 → SFits w64 (x +ℤ pos 1000 *ℤ y)
g22 x y h k = fits64 (bound_sum h (bound_mul (bound_lit (pos 1000)) k)) tt

-- outward division: monotone, unique, greatest and least
g23 : (x y : ℤ) → x ≤ℤ y → floor_div x 4 ≤ℤ floor_div (y +ℤ pos 1) 4
g23 x y h = floor_mono x (y +ℤ pos 1) 4 (omega arith) (simp flat (omega ints))

g24 : (z : ℤ) → pos 8 ≤ℤ z → z <ℤ pos 12 → pos 2 ≡ floor_div z 4
g24 z h k = floor_only z (pos 2) 4 (omega arith) h k

g25 : (z : ℤ) → pos 8 <ℤ z → z ≤ℤ pos 12 → pos 3 ≡ ceil_div z 4
g25 z h k = ceil_only z (pos 3) 4 (omega arith) k h

g26 : (z f c : ℤ) → (pos 4 *ℤ f) ≤ℤ z → z ≤ℤ (pos 4 *ℤ c) → f ≤ℤ c
g26 z f c h k = omega (ints, floor_most z f 4 (omega arith) h, floor_le_ceil z 4 (omega arith), ceil_least z c 4 (omega arith) k)

-- two's complement, there and back
g27 : (z : ℤ) → SFits w16 z → decode w16 (encode w16 z) ≡ z
g27 z h = decode_encode w16 z h

g28 : (bs : List ℕ) → length bs ≡ 4 → Bytes bs → encode w32 (decode w32 bs) ≡ bs
g28 bs e h = encode_decode w32 bs e h

-- lists: two pieces one after the other, a loop that fills, a table
g29 : (l : List ℕ) → sets (sets l 5 (1 ∷ 2 ∷ [])) (5 + 2) (3 ∷ []) ≡ sets l 5 (1 ∷ 2 ∷ 3 ∷ [])
g29 l = sets_append l 5 (1 ∷ 2 ∷ []) (3 ∷ [])

g30 : (l : List ℤ) → 1 < length l → get_or l 0 (pos 0) ≡ pos 7 → (k : ℕ) → k < 2 → get_or (set l 1 (pos 7)) k (pos 0) ≡ pos 7
g30 l h e k q = set_front l 1 (pos 7) h (λ j r. let z : j ≡ 0 = omega arith in rw z e) k q

g31 : (i : ℕ) → i < 3 → T (le_z (get_or (pos 1 ∷ pos 4 ∷ negsuc 0 ∷ []) i (pos 0)) (pos 4))
g31 i h = entry (λ z. le_z z (pos 4)) (pos 1 ∷ pos 4 ∷ negsuc 0 ∷ []) tt i h

-- a test whose outcome is known
g32 : (b : Bool) → b ≡ true → ◌≡◌ {A = ℕ} (elim b as (λ _. ℕ) [ true ↦ 1 | false ↦ 2 ]) 1
g32 b e = pick_yes b 1 2 e
