-- How a float's digits give the whole part of its size, and how the whole part gives floor and ceiling. Assumes nothing.
use mathlib.Core.Path.{◌≡◌, refl, sym, ap, ap₂, ◌∙◌, subst}
use mathlib.Core.Bool.{Bool, true, false, cond}
use Prim.Native.Nat.{ℕ, zero, suc, ◌+◌, ◌-◌, ◌*◌, ◌/◌, ◌%◌, ◌^◌, ◌≤◌, ◌<◌, min}
use native.Mathlib.Nat.{lt_of_lt_of_le, mul_assoc, zero-mul, mul-add, div-add-mod, div-add-mod', mod-lt, div-eq_of_lt, mod-eq_of_lt, mul-mod_left, add-zero, eq_of_mul-eq-mul_right}
use native.Mathlib.Omega.{arith}
use lib.Dec.{eqb, leb}
use lib.IntN.{ℤ, pos, neg_ℤ, ◌-ℤ◌}
use lib.Ieee.{Float}
use mir.Syntax.{w64}
use mir.Val.{SFits}
use lib.Pow.{pow-add, pow_pos, pow_mono, shl_lt, shl-shr, shr-shr, split}
use borrow.Author.Tests.{eq-eqb, ne_eqb, eqb-true, eqb-false, leb-true, leb-false}
use Rattle.integers.specs.Division.{floor_div, ceil_div}
use Rattle.integers.proofs.Z.{ints, flat}
use Rattle.integers.proofs.Division.{floor_only}
use Rattle.machine_spec.specs.Machine.{outward_div}
use Rattle.readings_spec.specs.Exact.{unit, signed, rounded}
use Rattle.readings_spec.proofs.Exact.{unit_pos}
use Rattle.readings.specs.declared.Parts.{Parts}
use Rattle.readings.specs.Rounding.{PartsOf}

-- ---- the whole part

-- a significand of 24 digits, moved by `place`, of which p digits stand behind the point
module _ (sig place p : ℕ) (size : sig < 2 ^ 24) where
  abbrev w : ℕ
  w = sig / 2 ^ p

  -- what is moved out and back
  back_small : w * 2 ^ p % 2 ^ 32 ≡ w * 2 ^ p
  back_small = mod-eq_of_lt (let l : w * 2 ^ p < 2 ^ 32 = omega (arith, split sig p) in l)

  -- the point lies among the digits
  module _ (at : place + p ≡ 149) where
    unit_is : 2 ^ p * 2 ^ place ≡ unit
    unit_is = sym (pow-add 2 p place) ∙ ap (λ (k : ℕ). 2 ^ k) (let e : p + place ≡ 149 = omega arith in e)

    among_whole : w ≡ sig * 2 ^ place / unit
    among_whole =
        sym (ap (λ (k : ℕ). k / 2 ^ p) (shl-shr sig place)) ∙ shr-shr (sig * 2 ^ place) place p ∙ ap (λ (k : ℕ). sig * 2 ^ place / 2 ^ k) at

    moved : w * 2 ^ p * 2 ^ place ≡ w * unit
    moved = mul_assoc w (2 ^ p) (2 ^ place) ∙ ap (λ (k : ℕ). w * k) unit_is

    among_exact : eqb (w * 2 ^ p) sig ≡ eqb (sig * 2 ^ place % unit) 0
    among_exact = by (eqb (w * 2 ^ p) sig) refl
      where
        by : (t : Bool) → eqb (w * 2 ^ p) sig ≡ t → t ≡ eqb (sig * 2 ^ place % unit) 0
        by true e =
            let q : sig * 2 ^ place ≡ w * unit = ap (λ (k : ℕ). k * 2 ^ place) (sym (eqb-true (w * 2 ^ p) sig e)) ∙ moved in
            sym (eq-eqb (sig * 2 ^ place % unit) 0 (ap (λ (k : ℕ). k % unit) q ∙ mul-mod_left w unit))
        by false e =
            let other = eqb-false (w * 2 ^ p) sig e in
            sym (ne_eqb (sig * 2 ^ place % unit) 0 (λ z.
            let q : sig * 2 ^ place ≡ w * unit = sym (div-add-mod' (sig * 2 ^ place) unit) ∙ ap₂ (λ (a b : ℕ). a * unit + b) (sym among_whole) z ∙ add-zero (w * unit) in
            other (eq_of_mul-eq-mul_right (2 ^ place) (pow_pos place) (w * 2 ^ p) sig (moved ∙ sym q))))

  -- all digits are behind it
  module _ (all : p ≡ 24) (at : place + 24 ≤ 149) where
    none : w ≡ 0
    none = div-eq_of_lt (subst (λ (k : ℕ). sig < 2 ^ k) (sym all) size)

    below_one : sig * 2 ^ place < unit
    below_one = lt_of_lt_of_le (shl_lt 24 place size) (pow_mono (let l : 24 + place ≤ 149 = omega arith in l))

    behind_whole : w ≡ sig * 2 ^ place / unit
    behind_whole = none ∙ sym (div-eq_of_lt below_one)

    behind_exact : eqb (w * 2 ^ p) sig ≡ eqb (sig * 2 ^ place % unit) 0
    behind_exact =
        ap (λ (k : ℕ). eqb (k * 2 ^ p) sig) none ∙ ap (λ (k : ℕ). eqb k sig) (zero-mul (2 ^ p)) ∙ by (eqb sig 0) refl
        ∙ sym (ap (λ (k : ℕ). eqb k 0) (mod-eq_of_lt below_one))
      where
        by : (t : Bool) → eqb sig 0 ≡ t → eqb 0 sig ≡ eqb (sig * 2 ^ place) 0
        by true e = let z : sig ≡ 0 = eqb-true sig 0 e in rw z (sym (eq-eqb (0 * 2 ^ place) 0 (zero-mul (2 ^ place))))
        by false e =
            let other = eqb-false sig 0 e in
            ne_eqb 0 sig (λ z. other (sym z))
            ∙ sym (ne_eqb (sig * 2 ^ place) 0 (λ z. other (eq_of_mul-eq-mul_right (2 ^ place) (pow_pos place) sig 0 (z ∙ sym (zero-mul (2 ^ place))))))

  -- as many digits as a float has, or fewer
  pub whole_part : p ≡ min 24 (149 - place) → place ≤ 149 → (w ≡ sig * 2 ^ place / unit) × (eqb (w * 2 ^ p % 2 ^ 32) sig ≡ eqb (sig * 2 ^ place % unit) 0)
  whole_part e l = by (leb (place + 24) 149) refl
    where
      by : (t : Bool) → leb (place + 24) 149 ≡ t → (w ≡ sig * 2 ^ place / unit) × (eqb (w * 2 ^ p % 2 ^ 32) sig ≡ eqb (sig * 2 ^ place % unit) 0)
      by true t =
          let at : place + 24 ≤ 149 = leb-true (place + 24) 149 t in
          let all : p ≡ 24 = omega arith in
          (behind_whole all at, ap (λ (k : ℕ). eqb k sig) back_small ∙ behind_exact all at)
      by false t =
          let past : 149 < place + 24 = leb-false (place + 24) 149 t in
          let at : place + p ≡ 149 = omega arith in
          (among_whole at, ap (λ (k : ℕ). eqb k sig) back_small ∙ among_exact at)

-- ---- floor and ceiling by the whole part

-- the whole part, or the next whole number where something is left
abbrev pub farther : ℕ → Bool → ℕ
farther whole exact = cond exact whole (whole + 1)

neg_neg : (n : ℕ) → neg_ℤ (neg_ℤ (pos n)) ≡ pos n
neg_neg zero = refl
neg_neg (suc n) = refl

module _ (size q : ℕ) (Q : 0 < q) where
  abbrev far : ℕ
  far = farther (size / q) (eqb (size % q) 0)

  -- q times it is not below the size, and less than q above it
  far_range : (size ≤ q * far) × (q * far < size + q)
  far_range = by (eqb (size % q) 0) refl
    where
      pos_of : (size % q ≡ 0 → ⊥) → 0 < size % q
      pos_of other = omega arith

      by : (t : Bool) → eqb (size % q) 0 ≡ t → (size ≤ q * farther (size / q) t) × (q * farther (size / q) t < size + q)
      by true e = let z = eqb-true (size % q) 0 e in (omega (arith, div-add-mod size q), omega (arith, div-add-mod size q))
      by false e =
          let other = eqb-false (size % q) 0 e in
          (omega (arith, div-add-mod size q, mod-lt size Q, mul-add q (size / q) 1), omega (arith, div-add-mod size q, mul-add q (size / q) 1, pos_of other))

  below_zero : floor_div (neg_ℤ (pos size)) q ≡ neg_ℤ (pos far)
  below_zero =
      let r = far_range in
      sym (floor_only (neg_ℤ (pos size)) (neg_ℤ (pos far)) q Q (simp flat (omega (ints, r.0))) (simp flat (omega (ints, r.1))))

  pub positive_floor : outward_div false (signed false size) q ≡ pos (size / q)
  unfolding outward_div floor_div
  positive_floor = refl

  pub positive_ceil : outward_div true (signed false size) q ≡ pos far
  unfolding outward_div ceil_div
  positive_ceil = ap neg_ℤ below_zero ∙ neg_neg far

  pub negative_floor : outward_div false (signed true size) q ≡ neg_ℤ (pos far)
  unfolding outward_div
  negative_floor = below_zero

  pub negative_ceil : outward_div true (signed true size) q ≡ neg_ℤ (pos (size / q))
  unfolding outward_div ceil_div floor_div
  negative_ceil = ap (λ (z : ℤ). neg_ℤ (floor_div z q)) (neg_neg size)

-- ---- of a float, by its parts

module _ (x : Float) (r : Parts) (of : PartsOf x r) where
  abbrev out : Parts → ℕ
  out r = farther r.whole r.exact

  value_is : (ceiling s : Bool) → r.negative ≡ s → rounded ceiling x ≡ outward_div ceiling (signed s of.size) unit
  unfolding rounded
  value_is ceiling s e = ap (λ (z : ℤ). outward_div ceiling z unit) (of.value ∙ ap (λ (t : Bool). signed t of.size) e)

  far_is : far of.size unit unit_pos ≡ out r
  far_is = ap₂ (λ (a : ℕ) (b : Bool). farther a b) (sym of.whole) (sym of.exact)

  pub up_positive : r.negative ≡ false → rounded true x ≡ pos (out r)
  up_positive e = value_is true false e ∙ positive_ceil of.size unit unit_pos ∙ ap pos far_is

  pub down_positive : r.negative ≡ false → rounded false x ≡ pos r.whole
  down_positive e = value_is false false e ∙ positive_floor of.size unit unit_pos ∙ ap pos (sym of.whole)

  pub up_negative : r.negative ≡ true → rounded true x ≡ neg_ℤ (pos r.whole)
  up_negative e = value_is true true e ∙ negative_ceil of.size unit unit_pos ∙ ap (λ (k : ℕ). neg_ℤ (pos k)) (sym of.whole)

  pub down_negative : r.negative ≡ true → rounded false x ≡ neg_ℤ (pos (out r))
  down_negative e = value_is false true e ∙ negative_floor of.size unit unit_pos ∙ ap (λ (k : ℕ). neg_ℤ (pos k)) far_is

-- ---- a negative number in the code

pub minus_fits : (n : ℕ) → n < 2 ^ 33 → SFits w64 (pos 0 -ℤ pos n)
minus_fits n h = simp flat (omega ints)

pub minus_is : (n : ℕ) → pos 0 -ℤ pos n ≡ neg_ℤ (pos n)
minus_is n = simp flat (omega ints)
