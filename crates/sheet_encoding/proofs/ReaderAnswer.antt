-- What the reader answers once the head's numbers are in range: the counts, and the records. Assumes nothing.
use mathlib.Core.Path.{◌≡◌, refl, sym, ap, ap₂, ◌∙◌}
use mathlib.Core.Bool.{Bool, true, false, ◌&&◌}
use mathlib.Core.List.{List}
use Prim.Native.Nat.{ℕ, zero, suc, ◌+◌, ◌≤◌, ◌<◌}
use native.Mathlib.Omega.{arith}
use lib.Dec.{leb}
use lib.IntN.{ℤ, pos, nat_abs}
use lib.ListN.{length, get_or}
use lib.Signed.{◌≤ℤ◌}
use borrow.Author.Tests.{le-leb, lt-leb}
use Rattle.integers.proofs.Z.{ints}
use Rattle.sheet_spec.specs.Slots.{◌!◌, head_size, vars_slot, bands_slot, boxes_slot, vars, bands, boxes}
use Rattle.sheet_spec.specs.Refusals.{Cause, number}
use Rattle.sheet_spec.specs.declared.BandKind.{BandKind}
use Rattle.sheet_spec.specs.declared.Shape.{Shape}
use Rattle.sheet_spec.specs.declared.Record.TheVariants.{Head}
use Rattle.sheet_spec.specs.File.{shape, Small, records, record_at, fields_at, field_count_at, record_start, filled_all, marked, marked_at, bad_all}
use Rattle.sheet_spec.specs.Fields.{decoded, offset, filled, bad}
use Rattle.sheet_spec.specs.Sizes.{letters, vars_at, caps_at}
use Rattle.sheet_spec.specs.Layout.{◌▸◌, cap_field, head_fields, fields}
use Rattle.sheet_spec.specs.Sheet.{zeros, head_of, kind_of, shape_of, contents, refusal}
use Rattle.sheet_spec.proofs.Tests.{bad_ranges}
use Rattle.sheet_spec.proofs.Ranges.{small}
use Rattle.sheet_spec.proofs.Accepted.{head_number}
use Rattle.sheet_spec.proofs.Answers.{refused_beginning, refused_size, answer}
use Rattle.sheet_spec.proofs.FieldRuns.{filled_part}
use Rattle.sheet_encoding.proofs.ByteNumbers.{be_one}
use Rattle.sheet_encoding.proofs.FieldTurn.{cap_run}

-- the counts of a head whose numbers are in range are not below 0, and there is room for them
pub record Counts (v : List ℤ) : Type 0 where
  pub vars : pos 0 ≤ℤ v ! vars_slot
  pub bands : pos 0 ≤ℤ v ! bands_slot
  pub boxes : pos 0 ≤ℤ v ! boxes_slot
  pub small : Small (shape v)

pub counts : (v : List ℤ) → 0 ≡ bad head_fields v head_size → Counts v
unfolding head_fields ◌▸◌
counts v e =
    let r = bad_ranges head_fields v head_size (sym e) in
    let n = (r.at vars_slot (omega arith)).low in
    let b = (r.at bands_slot (omega arith)).low in
    let g = (r.at boxes_slot (omega arith)).low in
    record { vars = omega (ints, n); bands = omega (ints, b); boxes = omega (ints, g); small = small v r }

-- reading the head again changes nothing
head_again : (f : List ℕ) → filled head_fields f letters head_size (head_of f) ≡ head_of f
unfolding head_of zeros head_fields ◌▸◌ filled
head_again f = refl

all_again : (s : Shape) (f : List ℕ) (r : ℕ) → filled_all s f (suc r) (head_of f) ≡ filled_all s f (suc r) zeros
unfolding filled_all record_start fields record_at ◌▸◌ head_of
all_again s f zero =
    filled_part head_fields cap_field head_size s.vars (cap_run s.vars) f letters (head_of f)
    ∙ ap (filled cap_field f (letters + offset head_fields head_size) s.vars) (head_again f)
    ∙ sym (filled_part head_fields cap_field head_size s.vars (cap_run s.vars) f letters zeros)
all_again s f (suc r) = ap (filled (fields_at s (suc r)) f (record_start s (suc r) + letters) (field_count_at s (suc r))) (all_again s f r)

-- the number of variables, as the file has it
pub vars_read : (f : List ℕ) → caps_at ≤ length f → vars (head_of f) ≡ get_or f vars_at 0
unfolding head_fields ◌▸◌ decoded offset
vars_read f l = ap nat_abs (head_number f vars_slot (omega arith)) ∙ be_one f vars_at (omega arith)

-- where h is the head as read, its numbers are in range, b is the kind of the file's bands, and s is made of h and b
module _ (f : List ℕ) (h : List ℤ) (b : BandKind) (s : Shape) (begun : leb caps_at (length f) && marked f 0 Head ≡ true) (hh : h ≡ head_of f)
    (in_range : 0 ≡ bad head_fields h head_size) (hb : b ≡ kind_of f (vars (head_of f))) (hs : s ≡ record { vars = vars h; bands = bands h; boxes = boxes h; kind = b }) where
  headed : 0 ≡ bad head_fields (head_of f) head_size
  headed = in_range ∙ ap (λ (u : List ℤ). bad head_fields u head_size) hh

  same : s ≡ shape_of f
  unfolding shape_of
  same =
      let with : List ℤ → BandKind → Shape = λ u b. record { vars = vars u; bands = bands u; boxes = boxes u; kind = b } in
      hs ∙ ap₂ with hh hb

  size_is : record_start s (records s) ≡ record_start (shape_of f) (records (shape_of f))
  size_is = ap (λ (s : Shape). record_start s (records s)) same

  pub rest_short : {l : ℕ} → l ≡ record_start s (records s) → (length f ≡ l → ⊥) → number Cause.length ≡ refusal f
  rest_short e q = refused_size f begun headed (λ p. q (p ∙ sym (e ∙ size_is)))

  module _ {l x : ℕ} {w : List ℤ} (e : l ≡ record_start s (records s)) (q : length f ≡ l)
      (hw : w ≡ filled_all s f (records s) h) (hx : x ≡ bad_all (marked_at s f) s w (records s)) where
    rest_contents : w ≡ contents f
    unfolding contents
    rest_contents =
        let c : records s ≡ suc (s.bands + s.boxes + 1) = omega arith in
        hw ∙ ap₂ (λ (k : ℕ) (u : List ℤ). filled_all s f k u) c hh ∙ all_again s f (s.bands + s.boxes + 1)
        ∙ ap (λ (k : ℕ). filled_all s f k zeros) (sym c) ∙ ap (λ (s : Shape). filled_all s f (records s) zeros) same

    rest_refusal : x ≡ refusal f
    rest_refusal =
        hx ∙ ap (λ (u : List ℤ). bad_all (marked_at s f) s u (records s)) rest_contents
        ∙ ap (λ (s : Shape). bad_all (marked_at s f) s (contents f) (records s)) same ∙ answer f begun headed (q ∙ e ∙ size_is)

    pub rest_read : (x ≡ refusal f) × (x ≡ 0 → w ≡ contents f)
    rest_read = (rest_refusal, λ z. rest_contents)

-- ---- the file's beginning

module _ (f : List ℕ) where
  pub begins_short : length f < caps_at → number Cause.head ≡ refusal f
  begins_short l = refused_beginning f (rw (lt-leb caps_at (length f) l))

  pub begins_wrong : {t : Bool} → caps_at ≤ length f → t ≡ marked f 0 Head → t ≡ false → number Cause.head ≡ refusal f
  begins_wrong l e h = refused_beginning f (rw (le-leb caps_at (length f) l) (sym e ∙ h))

  pub begins : {t : Bool} → caps_at ≤ length f → t ≡ marked f 0 Head → t ≡ true → leb caps_at (length f) && marked f 0 Head ≡ true
  begins l e h = rw (le-leb caps_at (length f) l) (sym e ∙ h)
