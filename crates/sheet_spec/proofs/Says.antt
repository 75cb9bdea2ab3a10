-- A file says a value: its marks and its numbers are the value's. Such a file is the value's bytes, and the value's bytes say it. Assumes nothing.
use mathlib.Core.Path.{◌≡◌, refl, sym, ap, ap₂, ◌∙◌}
use mathlib.Core.Bool.{true}
use mathlib.Core.List.{List, [], ◌∷◌, ◌++◌, append_assoc}
use mathlib.Core.Logic.{◌⊎◌, ⊎_elim}
use Prim.Native.Nat.{ℕ, zero, suc, ◌+◌, ◌≤◌, ◌<◌}
use native.Mathlib.Omega.{arith}
use native.Mathlib.Nat.{eq-or-lt_of_le}
use lib.IntN.{ℤ}
use lib.ListN.{get_or, take, drop, length, length-append}
use lib.Seq.{take-add, drop-drop, get_or-append-add}
use borrow.Author.Tests.{eqb-true, eq-eqb}
use Rattle.integers.specs.Bytes.{Bytes}
use Rattle.integers.proofs.Bytes.{two}
use Rattle.sheet_spec.specs.Slots.{◌!◌}
use Rattle.sheet_spec.specs.Fields.{decoded, offset, coded}
use Rattle.sheet_spec.specs.Sizes.{letters}
use Rattle.sheet_spec.specs.declared.Record.{Record}
use Rattle.sheet_spec.specs.Layout.{mark}
use Rattle.sheet_spec.specs.declared.Shape.{Shape}
use Rattle.sheet_spec.specs.File.{record_at, fields_at, field_count_at, record_start, record_bytes, coded_all, marked, marked_at}
use Rattle.sheet_spec.proofs.Streams.{Each}
use Rattle.sheet_spec.proofs.Box.{and_both}
use Rattle.sheet_spec.proofs.Ranges.{FieldFits}
use Rattle.sheet_spec.proofs.Numbers.{length_coded, coded_read, read_coded}

-- the first k records of f say v
pub record Says (s : Shape) (f : List ℕ) (v : List ℤ) (k : ℕ) : Type 0 where
  pub marks : (r : ℕ) → r < k → marked_at s f r ≡ true
  pub numbers : (r : ℕ) → r < k → (j : ℕ) → j < field_count_at s r → v ! (fields_at s r j).slot ≡ decoded (fields_at s r j).kind (drop (record_start s r + letters + offset (fields_at s r) j) f)

marked_bytes : (f : List ℕ) (at : ℕ) (x : Record) → marked f at x ≡ true → (get_or f at 0 ≡ (mark x).0) × (get_or f (at + 1) 0 ≡ (mark x).1)
unfolding marked
marked_bytes f at x e = let q = and_both _ _ e in (eqb-true _ _ q.0, eqb-true _ _ q.1)

bytes_marked : (f : List ℕ) (at : ℕ) (x : Record) → get_or f at 0 ≡ (mark x).0 → get_or f (at + 1) 0 ≡ (mark x).1 → marked f at x ≡ true
unfolding marked
bytes_marked f at x a b = rw (eq-eqb (get_or f at 0) (mark x).0 a, eq-eqb (get_or f (at + 1) 0) (mark x).1 b)

module _ (s : Shape) (f : List ℕ) (v : List ℤ) (b : Bytes f) where
  record_read : (k r : ℕ) → r < k → Says s f v k → record_start s (suc r) ≤ length f → record_bytes s.vars (record_at s r) v ≡ take (letters + offset (fields_at s r) (field_count_at s r)) (drop (record_start s r) f)
  unfolding record_start
  record_read k r l h m =
      let p = fields_at s r in
      let c = field_count_at s r in
      let q = marked_bytes f (record_start s r) (record_at s r) (h.marks r l) in
      ap₂ (λ (x y : ℕ). x ∷ (y ∷ coded p v c)) (sym q.0) (sym q.1)
      ∙ ap₂ ◌++◌ (sym (two f (record_start s r) (omega arith)))
      (coded_read p v f (record_start s r + letters) c b m (h.numbers r l) ∙ ap (take (offset p c)) (sym (drop-drop letters (record_start s r) f)))
      ∙ sym (take-add letters (offset p c) (drop (record_start s r) f))

  -- a file that says v starts with v's bytes
  pub bytes_of_lem : (k : ℕ) → Says s f v k → record_start s k ≤ length f → coded_all s v k ≡ take (record_start s k) f
  unfolding coded_all record_start
  bytes_of_lem zero h l = refl
  bytes_of_lem (suc k) h l =
      let w = letters + offset (fields_at s k) (field_count_at s k) in
      let e : record_start s k + w ≡ record_start s k + letters + offset (fields_at s k) (field_count_at s k) = omega arith in
      ap₂ ◌++◌ (bytes_of_lem k (record { marks = λ r q. h.marks r (omega arith); numbers = λ r q. h.numbers r (omega arith) }) (omega arith)) (record_read (suc k) k (omega arith) h l)
      ∙ sym (take-add (record_start s k) w f) ∙ ap (λ (n : ℕ). take n f) e

module _ (s : Shape) (v : List ℤ) where
  pub length_coded_all : (k : ℕ) → length (coded_all s v k) ≡ record_start s k
  unfolding coded_all record_start
  length_coded_all zero = refl
  length_coded_all (suc k) =
      length-append (coded_all s v k) (record_bytes s.vars (record_at s k) v) ∙ omega (arith, length_coded_all k, length_coded (fields_at s k) v (field_count_at s k))

  module _ (k : ℕ) (post : List ℕ) where
    before : List ℕ
    before = coded_all s v k

    signs : List ℕ
    signs = (mark (record_at s k)).0 ∷ ((mark (record_at s k)).1 ∷ [])

    body : List ℕ
    body = coded (fields_at s k) v (field_count_at s k)

    last_marked : marked_at s ((before ++ (signs ++ body)) ++ post) k ≡ true
    unfolding before signs
    last_marked =
        let e : record_start s k ≡ length before + 0 = omega (arith, length_coded_all k) in
        let d : record_start s k + 1 ≡ length before + 1 = omega (arith, length_coded_all k) in
        rw (append_assoc before (signs ++ body) post)
        (bytes_marked _ (record_start s k) (record_at s k) (rw (e, get_or-append-add)) (rw (d, get_or-append-add)))

    last_numbers : Each (FieldFits v) (fields_at s k) (field_count_at s k) → (j : ℕ) → j < field_count_at s k
        → v ! (fields_at s k j).slot ≡ decoded (fields_at s k j).kind (drop (record_start s k + letters + offset (fields_at s k) j) ((before ++ (signs ++ body)) ++ post))
    unfolding before signs body
    last_numbers h j l =
        read_coded (fields_at s k) v (record_start s k + letters) (field_count_at s k) (before ++ signs) post (length-append before signs ∙ ap (λ (n : ℕ). n + letters) (length_coded_all k)) h j l
        ∙ ap (λ (f : List ℕ). decoded (fields_at s k j).kind (drop (record_start s k + letters + offset (fields_at s k) j) f)) (simp append_assoc)

  -- v's bytes, whatever follows, say v
  pub says : (k : ℕ) (post : List ℕ) → ((r : ℕ) → r < k → Each (FieldFits v) (fields_at s r) (field_count_at s r)) → Says s (coded_all s v k ++ post) v k
  unfolding coded_all before signs body
  says zero post h = record { marks = λ r l. absurd (let z : ⊥ = omega arith in z); numbers = λ r l. absurd (let z : ⊥ = omega arith in z) }
  says (suc k) post h =
      let x = record_bytes s.vars (record_at s k) v in
      let t = rw (← (append_assoc (coded_all s v k) x post)) at (says k (x ++ post) (λ r l. h r (omega arith))) in
      let m : (r : ℕ) → r < suc k → (r ≡ k) ⊎ (r < k) = λ r l. (let q : r ≤ k = omega arith in eq-or-lt_of_le q) in
      record {
        marks = λ r l. ⊎_elim (λ (q : r ≡ k). rw q (last_marked k post)) (λ (q : r < k). t.marks r q) (m r l);
        numbers = λ r l. ⊎_elim (λ (q : r ≡ k). rw q (last_numbers k post (h k (omega arith)))) (λ (q : r < k). t.numbers r q) (m r l);
      }
