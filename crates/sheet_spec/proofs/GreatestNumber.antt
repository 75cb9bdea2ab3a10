-- The refusals of reading and of writing are at most the greatest number. Assumes nothing.
use mathlib.Core.Bool.{Bool, true, ◌&&◌}
use mathlib.Core.List.{List}
use Prim.Native.Nat.{ℕ, zero, suc, ◌+◌, ◌≤◌}
use native.Mathlib.Omega.{arith}
use lib.Dec.{eqb, leb}
use lib.IntN.{ℤ}
use lib.ListN.{length}
use Rattle.sheet_spec.specs.Slots.{head_size}
use Rattle.sheet_spec.specs.Refusals.{Cause, greatest_number}
use Rattle.sheet_spec.specs.Fields.{Field, test, bad}
use Rattle.sheet_spec.specs.Sizes.{caps_at}
use Rattle.sheet_spec.specs.declared.Record.{Record}
use Rattle.sheet_spec.specs.declared.Record.TheVariants.{Head, Band, Unsafe, Recovery}
use Rattle.sheet_spec.specs.Layout.{head_fields}
use Rattle.sheet_spec.specs.declared.Shape.{Shape}
use Rattle.sheet_spec.specs.File.{shape, records, record_at, fields_at, field_count_at, record_start, marked, marked_at, closing, bad_record, bad_all}
use Rattle.sheet_spec.specs.Sheet.{head_of, shape_of, contents, stage, stages, refusal, value_refusal, length_of, write_refusal}
use Rattle.sheet_spec.proofs.Laws.{either_most, first_most, number_range, unless_most}
use Rattle.sheet_spec.proofs.Order.{order_most}
use Rattle.sheet_spec.proofs.Overlap.{overlap_most}
use Rattle.sheet_spec.proofs.Tests.{test_below}

bad_most : (p : ℕ → Field) (v : List ℤ) (k : ℕ) → bad p v k ≤ greatest_number
unfolding bad
bad_most p v k = first_most (λ j. test v (p j)) k (λ j l. test_below v (p j) (number_range (p j).cause).1)

closing_most : (v : List ℤ) (s : Shape) (x : Record) → closing v s x ≤ greatest_number
unfolding closing
closing_most v s Head = omega arith
closing_most v s (Band b k) = omega arith
closing_most v s (Unsafe j) = omega (arith, order_most s.vars v j)
closing_most v s Recovery = overlap_most s.vars v s.boxes

all_most : (marks : ℕ → Bool) (s : Shape) (v : List ℤ) (k : ℕ) → bad_all marks s v k ≤ greatest_number
unfolding bad_all
all_most marks s v k =
    first_most (bad_record marks s v) k
    (λ r l.
    let p = bad_most (fields_at s r) v (field_count_at s r) in
    let q = closing_most v s (record_at s r) in
    either_most _ _ (unless_most (marks r) Cause.mark) (either_most _ _ (omega (arith, p, q)) (omega (arith, p, q))))

stage_most : (f : List ℕ) (i : ℕ) → stage f i ≤ greatest_number
unfolding stage
stage_most f zero = unless_most (leb caps_at (length f) && marked f 0 Head) Cause.head
stage_most f (suc zero) = bad_most head_fields (head_of f) head_size
stage_most f (suc (suc zero)) = let s = shape_of f in unless_most (eqb (length f) (record_start s (records s))) Cause.length
stage_most f (suc (suc (suc i))) = let s = shape_of f in all_most (marked_at s f) s (contents f) (records s)

pub refusal_most : (f : List ℕ) → refusal f ≤ greatest_number
unfolding refusal
refusal_most f = first_most (stage f) stages (λ i l. stage_most f i)

pub write_most : (v : List ℤ) (buffer : List ℕ) (place : ℕ) → write_refusal v buffer place ≤ greatest_number
unfolding write_refusal value_refusal
write_most v buffer place =
    either_most _ _ (all_most (λ r. true) (shape v) v (records (shape v))) (unless_most (leb (place + length_of v) (length buffer)) Cause.room)
