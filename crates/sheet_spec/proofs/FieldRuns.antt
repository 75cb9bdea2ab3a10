-- The fields of a record as the code goes through them: a run of fields q after the first k of p. Assumes nothing.
use mathlib.Core.Path.{◌≡◌, refl, sym, ap, ap₂, ◌∙◌}
use mathlib.Core.List.{List, ◌++◌, append_assoc, append-nil}
use Prim.Native.Nat.{ℕ, zero, suc, ◌+◌, ◌-◌, ◌≤◌, ◌<◌}
use native.Mathlib.Omega.{arith}
use native.Mathlib.Nat.{add-zero, add-suc}
use lib.IntN.{ℤ}
use lib.ListN.{set, drop}
use Rattle.sheet_spec.specs.Slots.{◌!◌}
use Rattle.sheet_spec.specs.declared.refusals.Refusal.{Refusal}
use Rattle.sheet_spec.specs.Refusals.{refusal_number, first_refusal, unless_refused}
use Rattle.sheet_spec.proofs.Laws.{goes_on, stops_either, either_none, first_next, first_keep, refused}
use Rattle.sheet_spec.specs.Fields.{Field, bytes_in, decoded, encoded, test, offset, filled, coded, bad}

module _ (p q : ℕ → Field) (k : ℕ) where
  -- the m fields of p after the first k are those of q
  pub record FieldRun (m : ℕ) : Type 0 where
    pub at : (i : ℕ) → i < m → p (k + i) ≡ q i

  less : {m : ℕ} → FieldRun (suc m) → FieldRun m
  less h = record { at = λ i l. h.at i (omega arith) }

  last : {m : ℕ} → FieldRun (suc m) → p (k + m) ≡ q m
  last {m} h = h.at m (omega arith)

  pub offset_part : (m : ℕ) → FieldRun m → offset p (k + m) ≡ offset p k + offset q m
  unfolding offset
  offset_part zero h = rw (add-zero k, add-zero)
  offset_part (suc m) h = rw (add-suc k m, offset) (omega (arith, offset_part m (less h), ap (λ (x : Field). bytes_in x.kind) (last h)))

  pub filled_part : (m : ℕ) → FieldRun m → (f : List ℕ) (at : ℕ) (v : List ℤ) → filled p f at (k + m) v ≡ filled q f (at + offset p k) m (filled p f at k v)
  unfolding filled
  filled_part zero h f at v = rw (add-zero k)
  filled_part (suc m) h f at v =
      let e : at + offset p (k + m) ≡ at + offset p k + offset q m = omega (arith, offset_part m (less h)) in
      rw (add-suc k m, filled)
      (ap₂ (λ (w : List ℤ) (x : Field). set w x.slot (decoded x.kind (drop (at + offset p (k + m)) f))) (filled_part m (less h) f at v) (last h)
      ∙ ap (λ (n : ℕ). set (filled q f (at + offset p k) m (filled p f at k v)) (q m).slot (decoded (q m).kind (drop n f))) e)

  -- what q's m fields were read to, where p's first k were read before them
  pub filled_run : (m : ℕ) → FieldRun m → (f : List ℕ) (at : ℕ) (v : List ℤ) {a : ℕ} {w u : List ℤ} → u ≡ filled q f a m w → a ≡ at + offset p k → w ≡ filled p f at k v → u ≡ filled p f at (k + m) v
  filled_run m h f at v hu ha hw = hu ∙ ap₂ (λ (b : ℕ) (w : List ℤ). filled q f b m w) ha hw ∙ sym (filled_part m h f at v)

  pub coded_part : (m : ℕ) → FieldRun m → (v : List ℤ) → coded p v (k + m) ≡ coded p v k ++ coded q v m
  unfolding coded
  coded_part zero h v = rw (add-zero k) (sym (append-nil (coded p v k)))
  coded_part (suc m) h v =
      rw (add-suc k m, coded)
      (ap₂ (λ (w : List ℕ) (x : Field). w ++ encoded x.kind (v ! x.slot)) (coded_part m (less h) v) (last h)
      ∙ append_assoc (coded p v k) (coded q v m) (encoded (q m).kind (v ! (q m).slot)))

  pub bad_part : (m : ℕ) → FieldRun m → (v : List ℤ) → bad p v (k + m) ≡ unless_refused (bad p v k) (λ c. c) (bad q v m)
  unfolding bad first_refusal
  bad_part zero h v = rw (add-zero k) (sym (either_none (bad p v k)))
  bad_part (suc m) h v =
      rw (add-suc k m, first_refusal)
      (ap₂ (λ (x : ℕ) (y : Field). unless_refused x (λ c. c) (test v y)) (bad_part m (less h) v) (last h) ∙ stops_either (λ c. c) (test v (q m)) (bad p v k) (bad q v m))

  -- where p's first k pass, q's m decide
  pub bad_run : (m : ℕ) → FieldRun m → (v : List ℤ) {x : ℕ} → 0 ≡ bad p v k → x ≡ bad q v m → x ≡ bad p v (k + m)
  bad_run m h v pass is = is ∙ sym (bad_part m h v ∙ goes_on (λ c. c) _ (sym pass))

pub offset_mono : (p : ℕ → Field) (j k : ℕ) → j ≤ k → offset p j ≤ offset p k
offset_mono p j k l =
    let e : j + (k - j) ≡ k = omega arith in
    omega (arith, offset_part p (λ i. p (j + i)) j (k - j) (record { at = λ i h. refl }), ap (offset p) e)

-- one field more: x, after the first k
module _ (p : ℕ → Field) (k m : ℕ) (l : m ≡ k + 1) (x : Field) (e : p k ≡ x) where
  is_suc : m ≡ suc k
  is_suc = omega arith

  pub offset_next : offset p m ≡ offset p k + bytes_in x.kind
  unfolding offset
  offset_next = rw (is_suc, offset) (ap (λ (y : Field). offset p k + bytes_in y.kind) e)

  pub filled_next : (f : List ℕ) (at : ℕ) (v : List ℤ) (a : ℕ) {w : List ℤ} {i : ℕ} {z : ℤ}
      → x.slot ≡ i → z ≡ decoded x.kind (drop a f) → a ≡ at + offset p k → w ≡ filled p f at k v → set w i z ≡ filled p f at m v
  unfolding filled
  filled_next f at v a {w} hi hz ha hw =
      rw (is_suc, filled)
      (ap₂ (λ (j : ℕ) (y : ℤ). set w j y) (sym hi) hz
      ∙ ap₂ (λ (u : List ℤ) (b : ℕ). set u x.slot (decoded x.kind (drop b f))) hw ha
      ∙ ap (λ (y : Field). set (filled p f at k v) y.slot (decoded y.kind (drop (at + offset p k) f))) (sym e))

  pub bad_next : (v : List ℤ) {y : ℕ} → 0 ≡ bad p v k → y ≡ test v x → y ≡ bad p v m
  unfolding bad
  bad_next v pass is = rw l (sym (first_next (λ j. test v (p j)) k _ (sym pass) (is ∙ ap (test v) (sym e))))

-- ---- the tests of p's fields, up to the first that fails

module _ (p : ℕ → Field) (v : List ℤ) where
  pub bad_none : 0 ≡ bad p v 0
  unfolding bad first_refusal
  bad_none = refl

  -- where the first k pass, field k decides
  pub bad_field : (k : ℕ) {y : ℕ} → 0 ≡ bad p v k → y ≡ test v (p k) → y ≡ bad p v (suc k)
  bad_field k = bad_next p k (suc k) (omega arith) (p k) refl v

  -- and a refusal stays
  pub bad_stop : (k m : ℕ) (r : Refusal) → refusal_number r ≡ bad p v k → k ≤ m → refusal_number r ≡ bad p v m
  unfolding bad
  bad_stop k m r is l = first_keep (λ j. test v (p j)) k m _ l (refused r) (sym is)

-- by these a search puts the tests of fields together
pub ruleset tests = (bad_none, bad_field, bad_stop)
