-- Readings (document 02, paper 1): the sides that a reading gives its variable, its tests, and the box of n readings. All of it computes.
use Rattle.std.specs.Prelude.{Bool, true, false, ◌&&◌, List, ℕ, ℤ, pos, neg_ℤ, ◌+ℤ◌, ◌-ℤ◌, get_or, Float}
use Rattle.std.specs.Int.Signed.{le_z}
use Rattle.sheet_spec.specs.Limits.{max_reading, max_tolerance}
use Rattle.sheet_spec.specs.Refusals.{first_refusal}
use Rattle.machine_spec.specs.Box.{box_of}
use Rattle.readings_spec.specs.declared.Reading.{Reading}
use Rattle.readings_spec.specs.declared.Reading.TheVariants.{Point, Pair, Missing}
use Rattle.readings_spec.specs.Causes.{Cause, refuse_unless}
use Rattle.readings_spec.specs.Exact.{scaled, rounded, whole, between}

-- ---- one reading

-- the lower (`false`) or the upper (`true`) side: floor(value) − ceil(tolerance) and ceil(value) + ceil(tolerance), or floor and ceil of the pair
unfoldable pub reading_side : Bool → Reading → ℤ
reading_side false (Point m) = rounded false m.value -ℤ rounded true m.tolerance
reading_side true (Point m) = rounded true m.value +ℤ rounded true m.tolerance
reading_side false (Pair l u) = rounded false l
reading_side true (Pair l u) = rounded true u
reading_side up Missing = pos 0

-- a finite value of at most 1,000,000, without its sign
unfoldable pub value_in : Float → Bool
value_in x = between (whole (neg_ℤ (pos max_reading))) (whole (pos max_reading)) x

-- a finite tolerance from 0 to 1,000
unfoldable pub tolerance_in : Float → Bool
tolerance_in x = between (whole (pos 0)) (whole (pos max_tolerance)) x

-- 18 where it is missing; 19 where a number is not finite or out of range, or where the pair is reversed
unfoldable pub reading_refusal : Reading → ℕ
reading_refusal (Point m) = refuse_unless (value_in m.value && tolerance_in m.tolerance) Cause.reading
reading_refusal (Pair l u) = refuse_unless (value_in l && value_in u && le_z (scaled l) (scaled u)) Cause.reading
reading_refusal Missing = refuse_unless false Cause.missing

-- ---- n readings

abbrev pub reading_at : List Reading → ℕ → Reading
reading_at rs i = get_or rs i Missing

-- the first refusal, variable by variable
unfoldable pub readings_refusal : ℕ → List Reading → ℕ
readings_refusal n rs = first_refusal (λ i. reading_refusal (reading_at rs i)) n

-- the measured box
unfoldable pub readings_box : ℕ → List Reading → List ℤ
readings_box n rs = box_of n (λ i. reading_side false (reading_at rs i)) (λ i. reading_side true (reading_at rs i))
