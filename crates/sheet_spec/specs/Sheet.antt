-- What reading and writing a sheet give, for all inputs (document 01, "Sheet layout" and "Refused calls").
use Rattle.std.specs.Prelude.{◌≡◌, true, false, ◌&&◌, List, ℕ, zero, suc, ◌+◌, ◌<◌, eqb, leb, ℤ, pos, length, replicate}
use Rattle.std.proofs.lemmas.List.Edits.{sets}
use Rattle.sheet_spec.specs.Slots.{◌!◌, head_size, slots, vars, bands, boxes, band_kind}
use Rattle.sheet_spec.specs.Refusals.{Cause, refuse_unless, unless_refused, first_refusal}
use Rattle.sheet_spec.specs.Fields.{filled, bad}
use Rattle.sheet_spec.specs.Sizes.{letters, caps_at, cap_bytes}
use Rattle.sheet_spec.specs.declared.BandKind.{BandKind}
use Rattle.sheet_spec.specs.declared.BandKind.TheVariants.{Fixed, Feedback}
use Rattle.sheet_spec.specs.declared.Record.TheVariants.{Head, Band}
use Rattle.sheet_spec.specs.Layout.{head_fields}
use Rattle.sheet_spec.specs.declared.Shape.{Shape}
use Rattle.sheet_spec.specs.File.{shape, records, fields_at, field_count_at, record_start, filled_all, coded_all, marked, marked_at, bad_all}

unfoldable pub zeros : List ℤ
zeros = replicate slots (pos 0)

-- ---- reading

-- the head's numbers up to the commands, which come before the counts are known
unfoldable pub head_of : List ℕ → List ℤ
head_of f = filled head_fields f letters head_size zeros

-- the kind of a file's bands on a sheet with n variables: the mark of the first band tells, if the file reaches it and it reads `BF` (document 02,
-- paper 9). This mark follows the caps
unfoldable pub kind_of : List ℕ → ℕ → BandKind
kind_of f n = elim (marked f (caps_at + cap_bytes n) (Band Feedback 0)) [ true ↦ Feedback | false ↦ Fixed ]

-- the counts that a file's head names and the kind of its bands, and the file's values by these
unfoldable pub shape_of : List ℕ → Shape
shape_of f = let v = head_of f in record { vars = vars v; bands = bands v; boxes = boxes v; kind = kind_of f (vars v) }

unfoldable pub contents : List ℕ → List ℤ
contents f = let s = shape_of f in filled_all s f (records s) zeros

-- the reader's tests in their order, each made only where those before it passed, and how many they are
unfoldable pub stage : List ℕ → ℕ → ℕ
stage f zero = refuse_unless (leb caps_at (length f) && marked f 0 Head) Cause.head
stage f (suc zero) = bad head_fields (head_of f) head_size
stage f (suc (suc zero)) = let s = shape_of f in refuse_unless (eqb (length f) (record_start s (records s))) Cause.length
stage f (suc (suc (suc i))) = let s = shape_of f in bad_all (marked_at s f) s (contents f) (records s)

abbrev pub stages : ℕ
stages = 4

-- 0 if the file is accepted, else why it is refused
unfoldable pub refusal : List ℕ → ℕ
refusal f = first_refusal (stage f) stages

-- the sheet's value, zeros if the file is refused
unfoldable pub values : List ℕ → List ℤ
values f = unless_refused (refusal f) (λ c. zeros) (contents f)

-- ---- writing

-- the refusal of the first value out of range, in the file's order, or 0
unfoldable pub value_refusal : List ℤ → ℕ
value_refusal v = bad_all (λ r. true) (shape v) v (records (shape v))

unfoldable pub length_of : List ℤ → ℕ
length_of v = record_start (shape v) (records (shape v))

unfoldable pub bytes_of : List ℤ → List ℕ
bytes_of v = coded_all (shape v) v (records (shape v))

unfoldable pub write_refusal : List ℤ → List ℕ → ℕ → ℕ
write_refusal v buffer place = unless_refused (value_refusal v) (λ c. c) (refuse_unless (leb (place + length_of v) (length buffer)) Cause.room)

-- the buffer after writing
unfoldable pub written : List ℤ → List ℕ → ℕ → List ℕ
written v buffer place = unless_refused (write_refusal v buffer place) (λ c. buffer) (sets buffer place (bytes_of v))

-- ---- two sheets are the same when their values up to their counts are, and their bands are of one kind
pub record Same (v w : List ℤ) : Type 0 where
  pub kind : band_kind v ≡ band_kind w
  pub same : (r : ℕ) → r < records (shape v) → (j : ℕ) → j < field_count_at (shape v) r → v ! (fields_at (shape v) r j).slot ≡ w ! (fields_at (shape v) r j).slot
