-- How far the sides go that readings give where they are not refused. Assumes nothing.
use mathlib.Core.Path.{◌≡◌, sym}
use mathlib.Core.Bool.{Bool, true, false, not, ◌&&◌, true≢false}
use mathlib.Core.List.{List}
use Prim.Native.Nat.{ℕ, ◌+◌, ◌-◌, ◌*◌, ◌^◌, ◌≤◌, ◌<◌}
use native.Mathlib.Nat.{le_trans, le_of_suc-le-suc, lt_irrefl, lt_of_le_of_lt, lt_of_not-le}
use native.Mathlib.Omega.{arith}
use lib.Dec.{T, lit<}
use lib.IntN.{ℤ, pos, neg_ℤ, ◌*ℤ◌}
use lib.Signed.{le_z, ◌≤ℤ◌}
use lib.Ieee.{Float, nan, inf, fin, binary32, fits, is_nan, to_bits}
use Rattle.integers.specs.Bound.{Bound}
use Rattle.integers.proofs.Z.{ints, flat, le_true, bound_in, bound_sum, bound_sub, bound_less}
use Rattle.integers.proofs.Division.{floor_lo, floor_most, ceil_hi, ceil_least}
use Rattle.sheet_spec.specs.Limits.{max_reading, max_tolerance}
use Rattle.readings_spec.specs.Causes.{Cause}
use Rattle.readings_spec.proofs.Causes.{number_is, unless_zero}
use Rattle.sheet_spec.specs.Slots.{N}
use Rattle.sheet_spec.proofs.Box.{and_both}
use Rattle.sheet_spec.proofs.Laws.{first_none}
use Rattle.machine_spec.specs.Machine.{outward_div}
use Rattle.machine_spec.specs.Box.{side, Near, trim}
use Rattle.machine_spec.proofs.Box.{sides_lo, sides_hi, sides_same}
use Rattle.readings_spec.specs.declared.Reading.{Reading}
use Rattle.readings_spec.specs.declared.Reading.TheVariants.{Point, Pair, Missing}
use Rattle.readings_spec.specs.Exact.{unit, signed, finite, scaled, rounded, whole, between}
use Rattle.readings_spec.specs.Reading.{reading_side, value_in, tolerance_in, reading_refusal, reading_at, readings_refusal, readings_box}
use Rattle.readings_spec.specs.FromBits.{negative, exponent, digits, significand, from_bits}
use Rattle.readings_spec.proofs.Exact.{unit_pos}
use Rattle.readings_spec.proofs.FromBits.{bits_of, too_great}
use Rattle.readings_spec.proofs.Allowed.{cancel}

-- ---- floor and ceiling

module _ (l h : ℤ) (x : Float) (inside : between (whole l) (whole h) x ≡ true) where
  pub ends : (whole l ≤ℤ scaled x) × (scaled x ≤ℤ whole h)
  unfolding between
  ends =
      let both = and_both (finite x && le_z (whole l) (scaled x)) (le_z (scaled x) (whole h)) inside in
      (le_true (whole l) (scaled x) (and_both (finite x) (le_z (whole l) (scaled x)) both.0).1, le_true (scaled x) (whole h) both.1)

  -- they lie between the whole numbers that the float lies between
  pub rounded_in : (ceiling : Bool) → (l ≤ℤ rounded ceiling x) × (rounded ceiling x ≤ℤ h)
  unfolding rounded outward_div
  rounded_in false = let e = ends in let f = floor_lo (scaled x) unit unit_pos in (floor_most (scaled x) l unit unit_pos e.0, cancel unit unit_pos (rounded false x) h (omega ints))
  rounded_in true = let e = ends in let c = ceil_hi (scaled x) unit unit_pos in (cancel unit unit_pos l (rounded true x) (omega ints), ceil_least (scaled x) h unit unit_pos e.1)

-- ---- a value in range

pub value_finite : (x : Float) → value_in x ≡ true → finite x ≡ true
unfolding value_in between
value_finite x inside =
    (and_both (finite x) (le_z (whole (neg_ℤ (pos max_reading))) (scaled x)) (and_both (finite x && le_z (whole (neg_ℤ (pos max_reading))) (scaled x)) (le_z (scaled x) (whole (pos max_reading))) inside).0).0

value_ends : (x : Float) → value_in x ≡ true → (whole (neg_ℤ (pos max_reading)) ≤ℤ scaled x) × (scaled x ≤ℤ whole (pos max_reading))
unfolding value_in
value_ends x inside = ends (neg_ℤ (pos max_reading)) (pos max_reading) x inside

pub not_nan : (x : Float) → value_in x ≡ true → T (not (is_nan x))
unfolding is_nan finite
not_nan nan inside = absurd (true≢false (sym (value_finite nan inside)))
not_nan (inf s) inside = tt
not_nan (fin s m e) inside = tt

pub value_bits : (x : Float) → T (fits binary32 x) → value_in x ≡ true → scaled x ≡ from_bits (to_bits binary32 x)
value_bits x f inside = bits_of x f (value_finite x inside)

signed_most : (s : Bool) (size u most : ℕ) → (pos u *ℤ neg_ℤ (pos most)) ≤ℤ signed s size → signed s size ≤ℤ (pos u *ℤ pos most) → size ≤ u * most
signed_most false size u most l h = omega (ints, simp flat at h)
signed_most true size u most l h = omega (ints, simp flat at l)

-- it is below 2^24, so its exponent's field is small
pub small_field : (x : Float) → T (fits binary32 x) → value_in x ≡ true → exponent (to_bits binary32 x) ≤ 150
unfolding from_bits
small_field x f inside =
    let b = to_bits binary32 x in
    let e = value_ends x inside in
    let size = significand (exponent b) (digits b) * 2 ^ (exponent b - 1) in
    let v : scaled x ≡ signed (negative b) size = value_bits x f inside in
    let most : size ≤ unit * max_reading = signed_most (negative b) size unit max_reading (rw v at e.0) (rw v at e.1) in
    le_of_suc-le-suc (lt_of_not-le (λ (h : 151 ≤ exponent b). lt_irrefl (2 ^ 173) (lt_of_le_of_lt (le_trans (too_great (exponent b) (digits b) h) most) (lit< tt))))

-- ---- a reading's sides

pub value_bound : (ceiling : Bool) (x : Float) → value_in x ≡ true → Bound (rounded ceiling x) max_reading
unfolding value_in
value_bound ceiling x e = let r = rounded_in (neg_ℤ (pos max_reading)) (pos max_reading) x e ceiling in bound_in r.0 r.1

pub tolerance_bound : (x : Float) → tolerance_in x ≡ true → Bound (rounded true x) max_tolerance
unfolding tolerance_in
tolerance_bound x e = let r = rounded_in (pos 0) (pos max_tolerance) x e true in bound_in (simp flat (omega (ints, r.0))) r.1

abbrev pub max_side_read : ℕ
max_side_read = max_reading + max_tolerance

pub side_bound : (up : Bool) (r : Reading) → reading_refusal r ≡ 0 → Bound (reading_side up r) max_side_read
unfolding reading_side reading_refusal
side_bound false (Point m) none =
    let both = and_both (value_in m.value) (tolerance_in m.tolerance) (unless_zero _ Cause.reading none) in
    bound_sub (value_bound false m.value both.0) (tolerance_bound m.tolerance both.1)
side_bound true (Point m) none =
    let both = and_both (value_in m.value) (tolerance_in m.tolerance) (unless_zero _ Cause.reading none) in
    bound_sum (value_bound true m.value both.0) (tolerance_bound m.tolerance both.1)
side_bound false (Pair l u) none =
    let both = and_both (value_in l && value_in u) (le_z (scaled l) (scaled u)) (unless_zero _ Cause.reading none) in
    bound_less (value_bound false l (and_both (value_in l) (value_in u) both.0).0) (omega arith)
side_bound true (Pair l u) none =
    let both = and_both (value_in l && value_in u) (le_z (scaled l) (scaled u)) (unless_zero _ Cause.reading none) in
    bound_less (value_bound true u (and_both (value_in l) (value_in u) both.0).1) (omega arith)
side_bound up Missing none = absurd (number_is Cause.missing none)

-- ---- the box

module _ (n : ℕ) (rs : List Reading) (few : n ≤ N) where
  pub box_near : readings_refusal n rs ≡ 0 → Near n max_side_read (readings_box n rs)
  unfolding readings_refusal readings_box
  box_near none = record { at = λ up i l. at up i l }
    where
      at : (up : Bool) (i : ℕ) → i < n → Bound (side up (readings_box n rs) i) max_side_read
      at false i l = rw (sides_lo (λ i. reading_side false (reading_at rs i)) (λ i. reading_side true (reading_at rs i)) n i few l) (side_bound false (reading_at rs i) ((first_none (λ i. reading_refusal (reading_at rs i)) n none).at i l))
      at true i l = rw (sides_hi (λ i. reading_side false (reading_at rs i)) (λ i. reading_side true (reading_at rs i)) n i few l) (side_bound true (reading_at rs i) ((first_none (λ i. reading_refusal (reading_at rs i)) n none).at i l))

  pub box_trimmed : trim n (readings_box n rs) ≡ readings_box n rs
  unfolding trim readings_box
  box_trimmed = sides_same n _ _ _ _ (λ i l. (
    sides_lo (λ i. reading_side false (reading_at rs i)) (λ i. reading_side true (reading_at rs i)) n i few l,
    sides_hi (λ i. reading_side false (reading_at rs i)) (λ i. reading_side true (reading_at rs i)) n i few l,
  ))
