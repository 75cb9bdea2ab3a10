-- One more number, for a turn of the code's loops over a sheet's numbers and over a box's sides. Assumes nothing.
use mathlib.Core.Path.{◌≡◌, ap, ◌∙◌}
use mathlib.Core.List.{List, [], ◌∷◌}
use Prim.Native.Nat.{ℕ, ◌+◌, ◌*◌}
use native.Mathlib.Numerals.{add-one}
use native.Mathlib.Omega.{arith}
use lib.IntN.{ℤ}
use lib.ListN.{set, length}
use lib.Seq.{sets}
use mir.Syntax.{w32, w64}
use mir.Val.{SFits, to_z, of_z}
use mir.Facts.{to_z-of_z}
use Rattle.integers.specs.Bound.{Bound}
use Rattle.integers.proofs.Z.{fits, fits64}
use Rattle.integers.proofs.Lists.{sets_append}
use Rattle.sheet_spec.specs.Slots.{◌!◌}
use Rattle.sheet_spec.specs.Fields.{i32, encoded}
use Rattle.sheet_spec.specs.Box.{lo, hi}
use Rattle.boxes_spec.specs.Reach.{max_reached}
use Rattle.decision_spec.specs.Numbers.{number_bytes, sides_of}
use Rattle.decision_spec.proofs.Numbers.{bytes_length, sides_length}

-- ---- numbers to bytes

pub bytes_more : (l : List ℕ) (zs : List ℤ) (k : ℕ) {m : List ℕ} → m ≡ sets l 0 (number_bytes zs k) → sets m (4 * k) (encoded i32 (zs ! k)) ≡ sets l 0 (number_bytes zs (k + 1))
unfolding number_bytes
bytes_more l zs k e =
    let n : 4 * k ≡ 0 + length (number_bytes zs k) = omega (arith, bytes_length zs k) in
    rw (add-one, e, n) (sets_append l 0 (number_bytes zs k) (encoded i32 (zs ! k)))

-- ---- sides to numbers

pub sides_more : (l : List ℤ) (at i : ℕ) (B : List ℤ) {v : List ℤ} {x y : ℤ} → v ≡ sets l at (sides_of i B) → x ≡ lo B i → y ≡ hi B i
    → set (set v (at + 2 * i) x) (at + 2 * i + 1) y ≡ sets l at (sides_of (i + 1) B)
unfolding sides_of
sides_more l at i B e p q =
    let n : at + 2 * i ≡ at + length (sides_of i B) = omega (arith, sides_length i B) in
    rw (add-one (at + 2 * i), add-one i, e, p, q, n) (sets_append l at (sides_of i B) (lo B i ∷ hi B i ∷ []))

-- a side as 32 bits
pub side_fits : {z : ℤ} → Bound z max_reached → SFits w32 (to_z w64 (of_z w64 z))
side_fits b = rw (to_z-of_z (fits64 b tt)) (fits {w = w32} b tt)

pub side_is : {z : ℤ} → Bound z max_reached → to_z w32 (of_z w32 (to_z w64 (of_z w64 z))) ≡ z
side_is b = ap (λ (x : ℤ). to_z w32 (of_z w32 x)) (to_z-of_z (fits64 b tt)) ∙ to_z-of_z (fits {w = w32} b tt)
