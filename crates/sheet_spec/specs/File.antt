-- A sheet's file: its records, one after another. What `Fields` says of a record is said of the first r records.
use Rattle.std.specs.Prelude.{Bool, ◌&&◌, List, [], ◌∷◌, ◌++◌, ℕ, zero, suc, ◌+◌, ◌≤◌, ◌<◌, eqb, ℤ, get_or}
use Rattle.sheet_spec.specs.Limits.{max_bands, max_boxes}
use Rattle.sheet_spec.specs.Slots.{N, vars, bands, boxes, band_kind, recovery_box}
use Rattle.sheet_spec.specs.Box.{clear}
use Rattle.sheet_spec.specs.Order.{ascends_at}
use Rattle.sheet_spec.specs.Refusals.{Cause, refuse_unless, unless_refused, first_refusal}
use Rattle.sheet_spec.specs.Fields.{Field, offset, filled, coded, bad}
use Rattle.sheet_spec.specs.Sizes.{letters}
use Rattle.sheet_spec.specs.declared.Record.{Record}
use Rattle.sheet_spec.specs.declared.Record.TheVariants.{Head, Band, Unsafe, Recovery}
use Rattle.sheet_spec.specs.Layout.{◌▸◌, first, always, mark, fields, field_count}
use Rattle.sheet_spec.specs.declared.Shape.{Shape}

-- the counts of a sheet and the kind of its bands, which its file's records depend on
abbrev pub shape : List ℤ → Shape
shape v = record { vars = vars v; bands = bands v; boxes = boxes v; kind = band_kind v }

-- a value has room for sheets of this shape, and for a record
pub record Small (s : Shape) : Type 0 where
  pub vars : s.vars ≤ N
  pub bands : s.bands ≤ max_bands
  pub boxes : s.boxes ≤ max_boxes

abbrev pub HasRoom : Record → Type 0
HasRoom Head = Unit
HasRoom (Band b k) = k < max_bands
HasRoom (Unsafe j) = j < max_boxes
HasRoom Recovery = Unit

-- the number of records, and the r-th of them
abbrev pub records : Shape → ℕ
records s = s.bands + s.boxes + 2

unfoldable pub record_at : Shape → ℕ → Record
record_at s = Head ▸ first s.bands (Band s.kind) (first s.boxes Unsafe (always Recovery))

abbrev pub fields_at : Shape → ℕ → ℕ → Field
fields_at s r = fields s.vars (record_at s r)

abbrev pub field_count_at : Shape → ℕ → ℕ
field_count_at s r = field_count s.vars (record_at s r)

-- a record's length, and where record r starts
abbrev pub record_length : ℕ → Record → ℕ
record_length n x = letters + offset (fields n x) (field_count n x)

unfoldable pub record_start : Shape → ℕ → ℕ
record_start s zero = 0
record_start s (suc r) = record_start s r + letters + offset (fields_at s r) (field_count_at s r)

-- v with the values of the first r records of f
unfoldable pub filled_all : Shape → List ℕ → ℕ → List ℤ → List ℤ
filled_all s f zero v = v
filled_all s f (suc r) v = filled (fields_at s r) f (record_start s r + letters) (field_count_at s r) (filled_all s f r v)

-- a record's bytes, and those of the first r records
abbrev pub record_bytes : ℕ → Record → List ℤ → List ℕ
record_bytes n x v = (mark x).0 ∷ ((mark x).1 ∷ coded (fields n x) v (field_count n x))

unfoldable pub coded_all : Shape → List ℤ → ℕ → List ℕ
coded_all s v zero = []
coded_all s v (suc r) = coded_all s v r ++ record_bytes s.vars (record_at s r) v

-- the record's mark is at a place of f
unfoldable pub marked : List ℕ → ℕ → Record → Bool
marked f at x = eqb (get_or f at 0) (mark x).0 && eqb (get_or f (at + 1) 0) (mark x).1

-- whether record r's mark is where it starts
abbrev pub marked_at : Shape → List ℕ → ℕ → Bool
marked_at s f r = marked f (record_start s r) (record_at s r)

-- ---- tests

-- a no-go box is greater than the one before, if there is one (document 02, paper 2)
unfoldable pub order_test : ℕ → List ℤ → ℕ → ℕ
order_test n v zero = 0
order_test n v (suc j) = refuse_unless (ascends_at n v j) Cause.order

-- the recovery box shares no state with a no-go box (document 02, paper 8)
unfoldable pub overlap_test : ℕ → List ℤ → ℕ → ℕ
overlap_test n v count = refuse_unless (clear n v count (recovery_box v)) Cause.overlap

-- the test of a whole record, made after those of its fields: 0, or why the sheet is refused
unfoldable pub closing : List ℤ → Shape → Record → ℕ
closing v s Head = 0
closing v s (Band b k) = 0
closing v s (Unsafe j) = order_test s.vars v j
closing v s Recovery = overlap_test s.vars v s.boxes

-- the refusal of a record's fields or, if there is none, of the whole record
abbrev pub bad_numbers : List ℤ → Shape → Record → ℕ
bad_numbers v s x = unless_refused (bad (fields s.vars x) v (field_count s.vars x)) (λ c. c) (closing v s x)

-- the first refusal of the first r records, a record's mark before its numbers. `marks` says which marks are right
abbrev pub bad_record : (ℕ → Bool) → Shape → List ℤ → ℕ → ℕ
bad_record marks s v r = unless_refused (refuse_unless (marks r) Cause.mark) (λ c. c) (bad_numbers v s (record_at s r))

unfoldable pub bad_all : (ℕ → Bool) → Shape → List ℤ → ℕ → ℕ
bad_all marks s v = first_refusal (bad_record marks s v)
