-- The sides of a reading as the code comes to them: by the cause of a refusal, or by floor and ceiling. Assumes nothing.
use mathlib.Core.Path.{◌≡◌, refl, sym, ap₂, ◌∙◌}
use mathlib.Core.Bool.{Bool, true, false, ◌&&◌}
use lib.Dec.{T}
use lib.IntN.{ℤ, pos, neg_ℤ, ◌+ℤ◌, ◌-ℤ◌}
use lib.Signed.{le_z, lt_z, ◌≤ℤ◌, le_z_yes}
use lib.Ieee.{Float, binary32, fits, lt}
use mir.Syntax.{w64}
use mir.Val.{SFits, to_z, of_z}
use mir.Facts.{to_z-of_z}
use Rattle.integers.specs.Bound.{Bound}
use Rattle.integers.proofs.Z.{ints, bound_sum, bound_sub, fits64, op64}
use Rattle.sheet_spec.specs.Limits.{max_reading, max_tolerance}
use Rattle.sheet_spec.specs.declared.refusals.Refusal.{Refusal}
use Rattle.sheet_spec.specs.Refusals.{refusal_number}
use Rattle.sheet_spec.proofs.Box.{and_both, le_is}
use Rattle.readings_spec.specs.declared.Reading.{Reading}
use Rattle.readings_spec.specs.declared.Reading.TheVariants.{Point, Pair, Missing}
use Rattle.readings_spec.specs.declared.Measurement.{Measurement}
use Rattle.readings_spec.specs.Exact.{finite, scaled, whole, between}
use Rattle.readings_spec.specs.Reading.{value_in, tolerance_in, reading_refusal}
use Rattle.readings_spec.proofs.Exact.{lt_scaled, lt_le_z, ge_le_z}
use Rattle.readings_spec.proofs.Sides.{ends, value_finite}
use Rattle.std.specs.declared.result.Result.TheVariants.{Err}
use Rattle.readings.specs.Sides.{SidesOf}

-- ---- a tolerance that is in range is a value in range

both_le : {a b c : ℤ} → a ≤ℤ b → b ≤ℤ c → a ≤ℤ c
both_le h k = omega ints

pub tolerance_value : (x : Float) → tolerance_in x ≡ true → value_in x ≡ true
unfolding tolerance_in value_in between
tolerance_value x inside =
    let e = ends (pos 0) (pos max_tolerance) x inside in
    let f = (and_both (finite x) (le_z (whole (pos 0)) (scaled x)) (and_both (finite x && le_z (whole (pos 0)) (scaled x)) (le_z (scaled x) (whole (pos max_tolerance))) inside).0).0 in
    rw (
      f,
      le_is (whole (neg_ℤ (pos max_reading))) (scaled x) (both_le (le_z_yes {a = whole (neg_ℤ (pos max_reading))} {b = whole (pos 0)} tt) e.0),
      le_is (scaled x) (whole (pos max_reading)) (both_le e.1 (le_z_yes {a = whole (pos max_tolerance)} {b = whole (pos max_reading)} tt)),
    ) refl

-- ---- refusals

refused : (k : Refusal) (x : Reading) → refusal_number k ≡ reading_refusal x → SidesOf x (Err k)
refused k x e = record { refusal = e; lower = tt; upper = tt }

and_no : (b : Bool) → b && false ≡ false
and_no true = refl
and_no false = refl

pub missing : SidesOf Missing (Err Refusal.Missing)
unfolding reading_refusal
missing = refused Refusal.Missing Missing refl

module _ (m : Measurement) where
  pub bad_value : value_in m.value ≡ false → SidesOf (Point m) (Err Refusal.Reading)
  unfolding reading_refusal
  bad_value e = refused Refusal.Reading (Point m) (rw e refl)

  pub bad_tolerance : tolerance_in m.tolerance ≡ false → SidesOf (Point m) (Err Refusal.Reading)
  unfolding reading_refusal
  bad_tolerance e = refused Refusal.Reading (Point m) (rw (e, and_no (value_in m.value)) refl)

module _ (l u : Float) where
  pub bad_lower : value_in l ≡ false → SidesOf (Pair l u) (Err Refusal.Reading)
  unfolding reading_refusal
  bad_lower e = refused Refusal.Reading (Pair l u) (rw e refl)

  pub bad_upper : value_in u ≡ false → SidesOf (Pair l u) (Err Refusal.Reading)
  unfolding reading_refusal
  bad_upper e = refused Refusal.Reading (Pair l u) (rw (e, and_no (value_in l)) refl)

  pub reversed : le_z (scaled l) (scaled u) ≡ false → SidesOf (Pair l u) (Err Refusal.Reading)
  unfolding reading_refusal
  reversed e = refused Refusal.Reading (Pair l u) (rw (e, and_no (value_in l && value_in u)) refl)

-- ---- a pair in order, by the order of floats

module _ (l u : Float) (fl : T (fits binary32 l)) (fu : T (fits binary32 u)) (il : value_in l ≡ true) (iu : value_in u ≡ true) where
  order_is : lt u l ≡ lt_z (scaled u) (scaled l)
  order_is = lt_scaled u l fu fl (rw (value_finite u iu) tt) (rw (value_finite l il) tt)

  pub out_of_order : lt u l ≡ true → le_z (scaled l) (scaled u) ≡ false
  out_of_order e = lt_le_z (scaled u) (scaled l) (sym order_is ∙ e)

  pub in_order : lt u l ≡ false → le_z (scaled l) (scaled u) ≡ true
  in_order e = ge_le_z (scaled u) (scaled l) (sym order_is ∙ e)

-- ---- numbers in the code

-- a rounded value is read back as it is
pub read_back : {A a : ℤ} → A ≡ a → Bound a max_reading → to_z w64 (of_z w64 A) ≡ a
read_back p b = rw p (to_z-of_z (fits64 b tt))

module _ {A B a b : ℤ} (p : A ≡ a) (q : B ≡ b) (ba : Bound a max_reading) (bb : Bound b max_tolerance) where
  bound_A : Bound A max_reading
  bound_A = rw p ba

  bound_B : Bound B max_tolerance
  bound_B = rw q bb

  abbrev read : ℤ → ℤ
  read z = to_z w64 (of_z w64 z)

  pub minus_fits : SFits w64 (read A -ℤ read B)
  minus_fits = fits64 (bound_sub (op64 bound_A tt) (op64 bound_B tt)) tt

  pub plus_fits : SFits w64 (read A +ℤ read B)
  plus_fits = fits64 (bound_sum (op64 bound_A tt) (op64 bound_B tt)) tt

  pub minus_read : read (read A -ℤ read B) ≡ a -ℤ b
  minus_read = to_z-of_z minus_fits ∙ ap₂ ◌-ℤ◌ (to_z-of_z (fits64 bound_A tt) ∙ p) (to_z-of_z (fits64 bound_B tt) ∙ q)

  pub plus_read : read (read A +ℤ read B) ≡ a +ℤ b
  plus_read = to_z-of_z plus_fits ∙ ap₂ ◌+ℤ◌ (to_z-of_z (fits64 bound_A tt) ∙ p) (to_z-of_z (fits64 bound_B tt) ∙ q)
