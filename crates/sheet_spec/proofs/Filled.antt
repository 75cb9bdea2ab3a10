-- What was read is at its slot. Assumes nothing.
use mathlib.Core.Path.{◌≡◌, refl, sym, ◌∙◌}
use mathlib.Core.List.{List}
use mathlib.Core.Logic.{◌⊎◌, inl, inr, ⊎_elim}
use Prim.Native.Nat.{ℕ, zero, suc, ◌+◌, ◌≤◌, ◌<◌}
use native.Mathlib.Omega.{arith}
use native.Mathlib.Decide.{ℕ_discrete}
use native.Mathlib.Nat.{eq-or-lt_of_le}
use lib.IntN.{ℤ, pos}
use lib.ListN.{set, drop, length, length-set}
use lib.Seq.{get_or-set_same, get_or-set_other}
use Rattle.sheet_spec.specs.Slots.{◌!◌, slots}
use Rattle.sheet_spec.specs.Fields.{Field, decoded, offset, filled}
use Rattle.sheet_spec.specs.Sizes.{letters}
use Rattle.sheet_spec.specs.declared.Shape.{Shape}
use Rattle.sheet_spec.specs.File.{Small, records, fields_at, field_count_at, record_start, filled_all}
use Rattle.sheet_spec.proofs.Places.{field_apart, record_apart, slot_lt}

-- slot i is that of one of the first k fields
pub record Taken (p : ℕ → Field) (k i : ℕ) : Type 0 where
  pub j : ℕ
  pub below : j < k
  pub is : (p j).slot ≡ i

module _ (p : ℕ → Field) (f : List ℕ) (at : ℕ) where
  pub length_filled : (k : ℕ) (v : List ℤ) → length (filled p f at k v) ≡ length v
  unfolding filled
  length_filled zero v = refl
  length_filled (suc k) v = simp (length-set, length_filled k v)

  -- a value is as it was, or its slot is taken
  pub origin : (k : ℕ) (v : List ℤ) (i : ℕ) → (filled p f at k v ! i ≡ v ! i) ⊎ Taken p k i
  unfolding filled
  origin zero v i = inl refl
  origin (suc k) v i = go (ℕ_discrete i (p k).slot) (origin k v i)
    where
      go : Dec (i ≡ (p k).slot) → (filled p f at k v ! i ≡ v ! i) ⊎ Taken p k i → (set (filled p f at k v) (p k).slot (decoded (p k).kind (drop (at + offset p k) f)) ! i ≡ v ! i) ⊎ Taken p (suc k) i
      go (yes e) o = inr (record { j = k; below = omega arith; is = sym e })
      go (no n) (inl e) = inl (get_or-set_other (filled p f at k v) (p k).slot i (decoded (p k).kind (drop (at + offset p k) f)) (pos 0) n ∙ e)
      go (no n) (inr t) = inr (record { j = t.j; below = omega arith; is = t.is })

  pub filled_other : (k : ℕ) (v : List ℤ) (i : ℕ) → (Taken p k i → ⊥) → filled p f at k v ! i ≡ v ! i
  filled_other k v i n = ⊎_elim (λ e. e) (λ t. absurd (n t)) (origin k v i)

  -- each value is at its slot, if no two fields share one
  pub filled_at : (k : ℕ) (v : List ℤ) → ((i j : ℕ) → i < k → j < k → (p i).slot ≡ (p j).slot → i ≡ j) → ((j : ℕ) → j < k → (p j).slot < length v)
      → (j : ℕ) → j < k → filled p f at k v ! (p j).slot ≡ decoded (p j).kind (drop (at + offset p j) f)
  unfolding filled
  filled_at zero v u s j l = absurd (let z : ⊥ = omega arith in z)
  filled_at (suc k) v u s j l =
      ⊎_elim
      (λ (q : j ≡ k). rw q (get_or-set_same (filled p f at k v) (p k).slot (decoded (p k).kind (drop (at + offset p k) f)) (pos 0) (rw (length_filled k v) (s k (omega arith)))))
      (λ (q : j < k).
      get_or-set_other (filled p f at k v) (p k).slot (p j).slot (decoded (p k).kind (drop (at + offset p k) f)) (pos 0)
      (λ e. let z : j ≡ k = u j k l (omega arith) e in omega arith)
      ∙ filled_at k v (λ i j a b. u i j (omega arith) (omega arith)) (λ j a. s j (omega arith)) j q)
      (let m : j ≤ k = omega arith in eq-or-lt_of_le m)

-- slot i is that of a field of one of the first k records
pub record TakenAll (s : Shape) (k i : ℕ) : Type 0 where
  pub r : ℕ
  pub below : r < k
  pub taken : Taken (fields_at s r) (field_count_at s r) i

module _ (s : Shape) (f : List ℕ) where
  pub length_all : (k : ℕ) (v : List ℤ) → length (filled_all s f k v) ≡ length v
  unfolding filled_all
  length_all zero v = refl
  length_all (suc k) v = length_filled (fields_at s k) f (record_start s k + letters) (field_count_at s k) (filled_all s f k v) ∙ length_all k v

  pub origin_all : (k : ℕ) (v : List ℤ) (i : ℕ) → (filled_all s f k v ! i ≡ v ! i) ⊎ TakenAll s k i
  unfolding filled_all
  origin_all zero v i = inl refl
  origin_all (suc k) v i =
      ⊎_elim
      (λ e. ⊎_elim (λ d. inl (e ∙ d)) (λ t. inr (record { r = t.r; below = omega arith; taken = t.taken })) (origin_all k v i))
      (λ t. inr (record { r = k; below = omega arith; taken = t }))
      (origin (fields_at s k) f (record_start s k + letters) (field_count_at s k) (filled_all s f k v) i)

  pub all_at : Small s → (v : List ℤ) → length v ≡ slots → (k : ℕ) → k ≤ records s → (r : ℕ) → r < k → (j : ℕ) → j < field_count_at s r
      → filled_all s f k v ! (fields_at s r j).slot ≡ decoded (fields_at s r j).kind (drop (record_start s r + letters + offset (fields_at s r) j) f)
  unfolding filled_all
  all_at m v e zero h r l j b = absurd (let z : ⊥ = omega arith in z)
  all_at m v e (suc k) h r l j b =
      ⊎_elim
      (λ (q : r ≡ k).
      let c : j < field_count_at s k = rw q at b in
      rw q
      (filled_at (fields_at s k) f (record_start s k + letters) (field_count_at s k) (filled_all s f k v) (field_apart s m k)
      (λ i a. omega (arith, length_all k v, slot_lt s m k (omega arith) i a)) j c))
      (λ (q : r < k).
      filled_other (fields_at s k) f (record_start s k + letters) (field_count_at s k) (filled_all s f k v) (fields_at s r j).slot
      (λ t. let z : k ≡ r = record_apart s m k r (omega arith) (omega arith) t.j j t.below b t.is in omega arith)
      ∙ all_at m v e k (omega arith) r q j b)
      (let m : r ≤ k = omega arith in eq-or-lt_of_le m)
