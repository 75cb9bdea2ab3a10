-- What a buffer holds as a record is written to it, one field after another. Assumes nothing.
use mathlib.Core.Path.{◌≡◌, refl, sym, ap, ap₂, ◌∙◌}
use mathlib.Core.List.{List, ◌++◌}
use Prim.Native.Nat.{ℕ, zero, suc, ◌+◌}
use native.Mathlib.Omega.{arith}
use lib.IntN.{ℤ}
use lib.ListN.{length}
use lib.Seq.{sets}
use mir.Syntax.{w32}
use mir.Val.{of_z}
use Rattle.integers.specs.Bytes.{be_bytes}
use Rattle.integers.proofs.Lists.{sets_append}
use Rattle.sheet_spec.specs.Slots.{◌!◌}
use Rattle.sheet_spec.specs.Fields.{Kind, i32, Field, bytes_in, encoded, offset, coded}
use Rattle.sheet_spec.specs.Sizes.{coefficient_bytes}
use Rattle.sheet_spec.specs.Layout.{coefficient_field, edge_field}
use Rattle.sheet_spec.proofs.Numbers.{length_coded}
use Rattle.sheet_spec.proofs.FieldRuns.{FieldRun, coded_part}
use Rattle.sheet_encoding.proofs.FieldTurn.{Coefficients}

-- ys after xs, of which there are m
pub then : (l : List ℕ) (i m : ℕ) (xs ys : List ℕ) {a : ℕ} {t u : List ℕ} → length xs ≡ m → a ≡ i + m → t ≡ sets l i xs → u ≡ sets t a ys → u ≡ sets l i (xs ++ ys)
then l i m xs ys hm ha ht hu =
    hu ∙ ap₂ (λ (t : List ℕ) (a : ℕ). sets t a ys) ht (ha ∙ ap (λ (m : ℕ). i + m) (sym hm)) ∙ sets_append l i xs ys

-- ---- the fields of a record

same_bytes : (d k : Kind) (z : ℤ) → bytes_in d ≡ bytes_in k → encoded d z ≡ encoded k z
unfolding encoded
same_bytes d k z e = ap (λ (w : ℕ). be_bytes w (of_z w32 z)) e

module _ (p : ℕ → Field) (v : List ℤ) (s : List ℕ) (at k : ℕ) where
  -- the m fields q after the first k of p
  pub coded_run : (q : ℕ → Field) (m : ℕ) → FieldRun p q k m → (a : ℕ) {t u : List ℕ} → u ≡ sets t a (coded q v m) → a ≡ at + offset p k → t ≡ sets s at (coded p v k) → u ≡ sets s at (coded p v (k + m))
  coded_run q m r a hu ha ht =
      then s at (offset p k) (coded p v k) (coded q v m) (length_coded p v k) ha ht hu ∙ ap (sets s at) (sym (coded_part p q k m r v))

  -- the field x after the first k of p
  pub coded_next : (m : ℕ) → m ≡ k + 1 → (x : Field) → p k ≡ x → (d : Kind) (i a : ℕ) {t u : List ℕ} → u ≡ sets t a (encoded d (v ! i))
      → bytes_in d ≡ bytes_in x.kind → i ≡ x.slot → a ≡ at + offset p k → t ≡ sets s at (coded p v k) → u ≡ sets s at (coded p v m)
  unfolding coded
  coded_next m l x e d i a {t} hu hd hi ha ht =
      let n : m ≡ suc k = omega arith in
      then s at (offset p k) (coded p v k) (encoded (p k).kind (v ! (p k).slot)) (length_coded p v k) ha ht
      (hu ∙ ap (λ (i : ℕ). sets t a (encoded d (v ! i))) hi ∙ ap (sets t a) (same_bytes d x.kind (v ! x.slot) hd) ∙ ap (λ (y : Field). sets t a (encoded y.kind (v ! y.slot))) (sym e))
      ∙ ap (λ (j : ℕ). sets s at (coded p v j)) (sym n)

-- field k of p
pub coded_field : (p : ℕ → Field) (v : List ℤ) (s : List ℕ) (at k : ℕ) (d : Kind) (i a : ℕ) {t u : List ℕ} → u ≡ sets t a (encoded d (v ! i))
    → bytes_in d ≡ bytes_in (p k).kind → i ≡ (p k).slot → a ≡ at + offset p k → t ≡ sets s at (coded p v k) → u ≡ sets s at (coded p v (suc k))
coded_field p v s at k = coded_next p v s at k (suc k) (omega arith) (p k) refl

module _ {p r : ℕ → Field} {n i : ℕ} (parts : Coefficients p r n i) (v : List ℤ) (s : List ℕ) (at : ℕ) where
  -- after the coefficients of a law or of a row
  pub coded_coefficients : {u : List ℕ} → u ≡ sets s at (coded (coefficient_field i) v n) → u ≡ sets s at (coded p v (n + 0))
  unfolding coded
  coded_coefficients hu =
      let e : 0 + n ≡ n + 0 = omega arith in
      hu ∙ ap (sets s at) (sym (coded_part p (coefficient_field i) 0 n parts.run v) ∙ ap (coded p v) e)

  -- number q of its rest
  pub coded_rest : (q : ℕ) (d : Kind) (j a : ℕ) {t u : List ℕ} → u ≡ sets t a (encoded d (v ! j)) → bytes_in d ≡ bytes_in (r q).kind → j ≡ (r q).slot
      → a ≡ at + coefficient_bytes n + offset r q → t ≡ sets s at (coded p v (n + q)) → u ≡ sets s at (coded p v (n + suc q))
  coded_rest q d j a hu hd hi ha =
      coded_next p v s at (n + q) (n + suc q) (omega arith) _ (parts.rest q) d j a hu hd hi (omega (arith, parts.places q))

-- a band's edge
pub edge_bytes : (k : ℕ) → bytes_in i32 ≡ bytes_in (edge_field k).kind
unfolding edge_field
edge_bytes zero = refl
edge_bytes (suc k) = refl
