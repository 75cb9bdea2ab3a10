-- guard_decide_readings (include/guard.h): how two slices of C stand for readings, so that every input has a meaning, and the answer.
use Rattle.std.specs.Prelude.{cond, List, ℕ, zero, suc, ◌+◌, ◌*◌, leb, eqb, get_or, length, set, replicate, Float}
use Rattle.std.specs.Float.{nan}
use Rattle.sheet_spec.specs.Slots.{N}
use Rattle.readings_spec.specs.declared.Reading.{Reading}
use Rattle.readings_spec.specs.declared.Reading.TheVariants.{Point, Pair, Missing}
use Rattle.decision_spec.specs.Decision.{packed}
use Rattle.decision_spec.specs.Readings.{decide_readings}

-- the kinds
abbrev pub point_kind : ℕ
point_kind = 1

abbrev pub pair_kind : ℕ
pair_kind = 2

-- a variable's kind and its two floats: value and tolerance, or lower and upper value; any other kind is no reading
unfoldable pub reading_of : ℕ → Float → Float → Reading
reading_of kind x y = cond (eqb kind point_kind) (Point (record { value = x; tolerance = y })) (cond (eqb kind pair_kind) (Pair x y) Missing)

-- variable i's: its kind is number i, its floats are numbers 2i and 2i + 1. Where a slice does not reach that far there is no reading
unfoldable pub reading_in : List ℕ → List Float → ℕ → Reading
reading_in kinds floats i = cond (leb (2 * i + 2) (length floats)) (reading_of (get_or kinds i 0) (get_or floats (2 * i) nan) (get_or floats (2 * i + 1) nan)) Missing

-- the first k, and no reading of any other variable
unfoldable pub readings_in : List ℕ → List Float → ℕ → List Reading
readings_in kinds floats zero = replicate N Missing
readings_in kinds floats (suc k) = set (readings_in kinds floats k) k (reading_in kinds floats k)

unfoldable pub readings_call : List ℕ → List ℕ → List ℕ → List Float → ℕ
readings_call f h kinds floats = packed (decide_readings f h (readings_in kinds floats N))
