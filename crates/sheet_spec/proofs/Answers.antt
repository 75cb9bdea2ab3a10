-- What the reader and the writer answer, test by test. Assumes nothing.
use mathlib.Core.Path.{◌≡◌, refl, sym, ap, ◌∙◌}
use mathlib.Core.Bool.{Bool, true, false, ◌&&◌}
use mathlib.Core.List.{List}
use Prim.Native.Nat.{ℕ, zero, suc, ◌+◌, ◌≤◌, ◌<◌}
use native.Mathlib.Omega.{arith}
use lib.Dec.{leb}
use lib.IntN.{ℤ}
use lib.ListN.{length}
use lib.Seq.{sets}
use borrow.Author.Tests.{eq-eqb, ne_eqb, le-leb, lt-leb}
use Rattle.sheet_spec.specs.Slots.{head_size, vars}
use Rattle.sheet_spec.specs.Refusals.{Cause, number, refuse_unless, unless_refused, first_refusal}
use Rattle.sheet_spec.specs.Fields.{bad, test}
use Rattle.sheet_spec.specs.Sizes.{caps_at}
use Rattle.sheet_spec.specs.declared.Record.TheVariants.{Head}
use Rattle.sheet_spec.specs.declared.Shape.{Shape}
use Rattle.sheet_spec.specs.Layout.{◌▸◌, head_fields, fields}
use Rattle.sheet_spec.specs.File.{shape, records, record_at, record_start, marked, marked_at, closing, bad_numbers, bad_record, bad_all}
use Rattle.sheet_spec.specs.Sheet.{head_of, shape_of, contents, stage, stages, refusal, value_refusal, length_of, bytes_of, write_refusal, written}
use Rattle.sheet_spec.proofs.Laws.{goes_on, stops, first_next, first_keep, number_is}

-- ---- reading

module _ (f : List ℕ) where
  -- the test that refuses first decides
  at_stage : (i c : ℕ) → i < stages → first_refusal (stage f) i ≡ 0 → c ≡ stage f i → (c ≡ 0 → ⊥) → c ≡ refusal f
  unfolding refusal
  at_stage i c l z e n = first_keep (stage f) (i + 1) stages c (omega arith) n (first_next (stage f) i c z e)

  pub refused_beginning : leb caps_at (length f) && marked f 0 Head ≡ false → number Cause.head ≡ refusal f
  unfolding stage first_refusal
  refused_beginning e = at_stage 0 (number Cause.head) (omega arith) refl (ap (λ (b : Bool). refuse_unless b Cause.head) (sym e)) (number_is Cause.head)

  module _ (begun : leb caps_at (length f) && marked f 0 Head ≡ true) where
    one : first_refusal (stage f) 1 ≡ 0
    unfolding stage first_refusal
    one = first_next (stage f) 0 0 refl (ap (λ (b : Bool). refuse_unless b Cause.head) (sym begun))

    pub refused_head : (c : ℕ) → c ≡ bad head_fields (head_of f) head_size → (c ≡ 0 → ⊥) → c ≡ refusal f
    unfolding stage
    refused_head c e n = at_stage 1 c (omega arith) one e n

    module _ (headed : 0 ≡ bad head_fields (head_of f) head_size) where
      two : first_refusal (stage f) 2 ≡ 0
      unfolding stage
      two = first_next (stage f) 1 0 one headed

      pub refused_size : (length f ≡ record_start (shape_of f) (records (shape_of f)) → ⊥) → number Cause.length ≡ refusal f
      unfolding stage
      refused_size n =
          at_stage 2 (number Cause.length) (omega arith) two (ap (λ (b : Bool). refuse_unless b Cause.length) (sym (ne_eqb (length f) (record_start (shape_of f) (records (shape_of f))) n))) (number_is Cause.length)

      pub answer : length f ≡ record_start (shape_of f) (records (shape_of f)) → bad_all (marked_at (shape_of f) f) (shape_of f) (contents f) (records (shape_of f)) ≡ refusal f
      unfolding stage refusal
      answer e =
          sym (first_next (stage f) 3 _ (first_next (stage f) 2 0 two (ap (λ (b : Bool). refuse_unless b Cause.length) (sym (eq-eqb (length f) (record_start (shape_of f) (records (shape_of f))) e)))) refl)

-- ---- writing

-- the head as a whole is not refused, so its fields decide
head_numbers : (v : List ℤ) (s : Shape) (c : ℕ) → bad head_fields v (head_size + s.vars) ≡ c → bad_numbers v s Head ≡ c
unfolding fields closing unless_refused
head_numbers v s zero e = rw e refl
head_numbers v s (suc c) e = rw e refl

-- a bad number of the head decides before the counts count
pub value_head : (v : List ℤ) (c : ℕ) → c ≡ bad head_fields v head_size → (c ≡ 0 → ⊥) → c ≡ value_refusal v
unfolding value_refusal bad_all bad fields record_at ◌▸◌ first_refusal unless_refused
value_head v c e n =
    let s = shape v in
    let d = first_keep (λ j. test v (head_fields j)) head_size (head_size + vars v) c (omega arith) n (sym e) in
    first_keep (bad_record (λ r. true) s v) 1 (records s) c (omega arith) n (first_next (bad_record (λ r. true) s v) 0 c refl (sym (head_numbers v s c (sym d))))

-- a buffer of k bytes has no room for n, or has room
no_room : (n k : ℕ) → k < n → number Cause.room ≡ refuse_unless (leb n k) Cause.room
no_room n k l = rw (lt-leb n k l)

some_room : (n k : ℕ) → n ≤ k → 0 ≡ refuse_unless (leb n k) Cause.room
some_room n k l = rw (le-leb n k l)

module _ (v : List ℤ) (buffer : List ℕ) (place : ℕ) where
  pub record WriteAnswer (c : ℕ) (after : List ℕ) : Type 0 where
    pub refusal : c ≡ write_refusal v buffer place
    pub left : after ≡ written v buffer place

  refused : (c : ℕ) → c ≡ write_refusal v buffer place → (c ≡ 0 → ⊥) → WriteAnswer c buffer
  unfolding written
  refused c e n = record { refusal = e; left = sym (stops (λ c. buffer) _ (λ z. n (e ∙ z))) }

  pub write_bad : (c : ℕ) → c ≡ value_refusal v → (c ≡ 0 → ⊥) → WriteAnswer c buffer
  unfolding write_refusal
  write_bad c e n = refused c (e ∙ sym (stops (λ c. c) _ (λ z. n (e ∙ z)))) n

  pub write_short : 0 ≡ value_refusal v → length buffer < place + length_of v → WriteAnswer (number Cause.room) buffer
  unfolding write_refusal
  write_short e l = refused (number Cause.room) (no_room (place + length_of v) (length buffer) l ∙ sym (goes_on (λ c. c) _ (sym e))) (number_is Cause.room)

  pub write_done : 0 ≡ value_refusal v → place + length_of v ≤ length buffer → WriteAnswer 0 (sets buffer place (bytes_of v))
  unfolding write_refusal written
  write_done e l =
      let q : 0 ≡ write_refusal v buffer place = some_room (place + length_of v) (length buffer) l ∙ sym (goes_on (λ c. c) _ (sym e)) in
      record { refusal = q; left = sym (goes_on (λ c. buffer) _ (sym q)) }
