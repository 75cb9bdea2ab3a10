-- The records of a file as the code goes through them, one at each turn: x is the r-th. Assumes nothing.
use mathlib.Core.Path.{◌≡◌, refl, sym, ap, ap₂, ◌∙◌, subst}
use mathlib.Core.Bool.{Bool}
use mathlib.Core.List.{List}
use Prim.Native.Nat.{ℕ, zero, suc, ◌+◌, ◌*◌, ◌-◌, ◌≤◌, ◌<◌}
use native.Mathlib.Omega.{arith}
use native.Mathlib.Numerals.{add-one}
use native.Mathlib.Nat.{add-zero, mul-le-mul}
use lib.IntN.{ℤ}
use Rattle.sheet_spec.specs.Slots.{N}
use Rattle.sheet_spec.specs.declared.refusals.Refusal.{Refusal}
use Rattle.sheet_spec.specs.Refusals.{Cause, refusal_number, refuse_unless, unless_refused, first_refusal}
use Rattle.sheet_spec.specs.Fields.{filled}
use Rattle.sheet_spec.specs.Sizes.{letters, law_bytes, row_bytes}
use Rattle.sheet_spec.specs.declared.BandKind.{BandKind}
use Rattle.sheet_spec.specs.declared.BandKind.TheVariants.{Fixed, Feedback}
use Rattle.sheet_spec.specs.declared.Shape.{Shape}
use Rattle.sheet_spec.specs.declared.Record.{Record}
use Rattle.sheet_spec.specs.Layout.{fields, field_count}
use Rattle.sheet_spec.specs.File.{Small, HasRoom, records, record_at, record_length, record_start, filled_all, bad_numbers, bad_record, bad_all}
use Rattle.sheet_spec.proofs.Laws.{first_next, first_keep, refused}
use Rattle.sheet_spec.proofs.Records.{room_at}

-- the refusal of a wrong mark or, if it is right, x
abbrev after_mark : Bool → ℕ → ℕ
after_mark t x = unless_refused (refuse_unless t Cause.mark) (λ c. c) x

-- one record more
module _ (s : Shape) (r : ℕ) where
  next_start : record_start s (r + 1) ≡ record_start s r + record_length s.vars (record_at s r)
  unfolding record_start
  next_start = rw (add-one r, record_start) (omega arith)

  module _ {x : Record} (is : x ≡ record_at s r) where
    pub has_room : Small s → r < records s → HasRoom x
    has_room l h = subst HasRoom (sym is) (room_at s l r h)

    pub start_more : {a l b : ℕ} → l ≡ record_length s.vars x → a ≡ record_start s r → b ≡ a + l → b ≡ record_start s (r + 1)
    start_more hl ha hb = omega (arith, next_start, hl ∙ ap (record_length s.vars) is)

    pub filled_more : (f : List ℕ) (v : List ℤ) {b : ℕ} {u w : List ℤ} → u ≡ filled (fields s.vars x) f (b + letters) (field_count s.vars x) w → b ≡ record_start s r → w ≡ filled_all s f r v → u ≡ filled_all s f (r + 1) v
    unfolding filled_all
    filled_more f v {b} {u} {w} hu hb hw =
        rw (add-one r, filled_all)
        (hu ∙ ap (λ (y : Record). filled (fields s.vars y) f (b + letters) (field_count s.vars y) w) is
        ∙ ap₂ (λ (b : ℕ) (w : List ℤ). filled (fields s.vars (record_at s r)) f (b + letters) (field_count s.vars (record_at s r)) w) hb hw)

    pub bad_is : (marks : ℕ → Bool) (v : List ℤ) {t : Bool} {y z : ℕ} → t ≡ marks r → y ≡ bad_numbers v s x → z ≡ after_mark t y → z ≡ bad_record marks s v r
    bad_is marks v h i e = e ∙ ap₂ (λ (t : Bool) (y : ℕ). after_mark t y) h (i ∙ ap (bad_numbers v s) is)

  pub bad_more : (marks : ℕ → Bool) (v : List ℤ) {x y z : ℕ} → y ≡ unless_refused z (λ c. c) x → z ≡ bad_all marks s v r → x ≡ bad_record marks s v r → y ≡ bad_all marks s v (r + 1)
  unfolding bad_all first_refusal
  bad_more marks v hy hz hx = rw (add-one r, first_refusal) (hy ∙ ap₂ (λ (z x : ℕ). unless_refused z (λ c. c) x) hz hx)

module _ (s : Shape) (marks : ℕ → Bool) (v : List ℤ) where
  pub bad_none : 0 ≡ bad_all marks s v 0
  unfolding bad_all first_refusal
  bad_none = refl

  -- where the first r records pass, the next one decides
  pub bad_next : (r : ℕ) {y : ℕ} → 0 ≡ bad_all marks s v r → y ≡ bad_record marks s v r → y ≡ bad_all marks s v (r + 1)
  unfolding bad_all
  bad_next r pass is = sym (first_next (bad_record marks s v) r _ (sym pass) is)

  -- and a refusal stays
  pub bad_stop : (r k : ℕ) (e : Refusal) → refusal_number e ≡ bad_all marks s v r → r ≤ k → refusal_number e ≡ bad_all marks s v k
  unfolding bad_all
  bad_stop r k e is l = first_keep (bad_record marks s v) r k _ l (refused e) (sym is)

start_mono : (s : Shape) (r d : ℕ) → record_start s r ≤ record_start s (r + d)
start_mono s r zero = rw (add-zero r) (omega arith)
start_mono s r (suc d) = let e : r + suc d ≡ r + d + 1 = omega arith in rw e (omega (arith, next_start s (r + d), start_mono s r d))

-- where k records have room, each of them has
pub record_room : (s : Shape) (r k l : ℕ) {x : Record} {a : ℕ} → x ≡ record_at s r → a ≡ record_start s r → r < k → record_start s k ≤ l → a + record_length s.vars x ≤ l
record_room s r k l is ha h m =
    let e : r + 1 + (k - (r + 1)) ≡ k = omega arith in
    let n : record_start s (r + 1) ≤ record_start s k = rw e at (start_mono s (r + 1) (k - (r + 1))) in
    omega (arith, next_start s r, ap (record_length s.vars) is)

-- the greatest number of bytes of a band's law, and of its rows
pub law_most : (b : BandKind) (n : ℕ) → n ≤ N → law_bytes b n ≤ law_bytes Feedback N
law_most Fixed n h = omega arith
law_most Feedback n h = omega arith

pub rows_most : (n : ℕ) → n ≤ N → n * row_bytes n ≤ N * row_bytes N
rows_most n h = let l : row_bytes n ≤ row_bytes N = omega arith in mul-le-mul h l
