-- What is where in x ▸ g, `first` and `groups`, and that what holds of the parts holds of the whole, and the other way round. Assumes nothing.
use mathlib.Core.Path.{◌≡◌, ap, ap₂, ◌∙◌}
use mathlib.Core.Logic.{◌⊎◌, inl, inr, ⊎_elim}
use mathlib.Core.Bool.{Bool, true, false, not}
use Prim.Native.Nat.{ℕ, zero, suc, ◌+◌, ◌*◌, ◌-◌, ◌/◌, ◌%◌, ◌≤◌, ◌<◌}
use native.Mathlib.Omega.{arith}
use native.Mathlib.Nat.{add-zero, mod-lt, mod-eq_of_lt, div-eq_of_lt, div-lt_iff_lt-mul, mul-add-div_right, mul-add-mod_self_right, mul-le-mul_right}
use lib.Dec.{T, ltb, ltb→lt, nltb→le}
use borrow.Author.Tests.{lt-ltb, le-ltb}
use Rattle.sheet_spec.specs.Slots.{head_size, law_in_band}
use Rattle.sheet_spec.specs.Layout.{◌▸◌, first, groups}

pub lt_or_le : (a b : ℕ) → (a < b) ⊎ (b ≤ a)
lt_or_le a b = go (ltb a b) (λ t. ltb→lt a b t) (λ t. nltb→le a b t)
  where
    go : (t : Bool) → (T t → a < b) → (T (not t) → b ≤ a) → (a < b) ⊎ (b ≤ a)
    go true f g = inl (f tt)
    go false f g = inr (g tt)

-- several more, one at a time
pub law_more : (n : ℕ) → suc (suc (suc n)) ≡ law_in_band + n
law_more n = omega arith

pub caps_more : (n : ℕ) → suc (suc (suc (suc (suc (suc (suc (suc (suc n)))))))) ≡ head_size + n
caps_more n = omega arith

module _ {A : Type 0} where
  pub next : (x : A) (g : ℕ → A) (j : ℕ) → (x ▸ g) (1 + j) ≡ g j
  unfolding ◌▸◌
  next x g j = let e : 1 + j ≡ suc j = omega arith in rw e

  pub first_low : (n : ℕ) (g h : ℕ → A) (j : ℕ) → j < n → first n g h j ≡ g j
  unfolding first
  first_low n g h j l = rw (lt-ltb j n l, first)

  pub first_high : (n : ℕ) (g h : ℕ → A) (j : ℕ) → n ≤ j → first n g h j ≡ h (j - n)
  unfolding first
  first_high n g h j l = rw (le-ltb j n l, first)

  pub first_after : (n : ℕ) (g h : ℕ → A) (j : ℕ) → first n g h (n + j) ≡ h j
  first_after n g h j = let e : n + j - n ≡ j = omega arith in first_high n g h (n + j) (omega arith) ∙ ap h e

  pub groups_at : (m : ℕ) (g : ℕ → ℕ → A) (i q : ℕ) → q < m → groups m g (i * m + q) ≡ g i q
  unfolding groups
  groups_at m g i q l =
      let z : 0 < m = omega arith in
      ap₂ g (mul-add-div_right z i q ∙ ap (λ (x : ℕ). i + x) (div-eq_of_lt l) ∙ add-zero i) (mul-add-mod_self_right i m q ∙ mod-eq_of_lt l)

-- P holds of the first k of p
pub record Each {A : Type 0} (P : A → Type 0) (p : ℕ → A) (k : ℕ) : Type 0 where
  pub at : (j : ℕ) → j < k → P (p j)

module _ {A : Type 0} {P : A → Type 0} where
  -- ---- of the parts, so of the whole

  pub each_none : (p : ℕ → A) → Each P p 0
  each_none p = record { at = λ j l. absurd (let z : ⊥ = omega arith in z) }

  pub each_next : (x : A) (g : ℕ → A) {c : ℕ} → P x → Each P g c → Each P (x ▸ g) (suc c)
  unfolding ◌▸◌
  each_next x g {c} a b = record { at = go }
    where
      go : (j : ℕ) → j < suc c → P ((x ▸ g) j)
      go zero h = a
      go (suc j) h = b.at j (omega arith)

  pub each_first : (n m : ℕ) (g h : ℕ → A) → Each P g n → Each P h m → Each P (first n g h) (n + m)
  each_first n m g h a b = record {
    at = λ j k. ⊎_elim (λ (q : j < n). rw (first_low n g h j q) (a.at j q)) (λ (q : n ≤ j). rw (first_high n g h j q) (b.at (j - n) (omega arith))) (lt_or_le j n);
  }

  pub each_groups : (n m : ℕ) (g : ℕ → ℕ → A) → ((i : ℕ) → i < n → Each P (g i) m) → Each P (groups m g) (n * m)
  unfolding groups
  each_groups n m g a = record {
    at = λ j k. (let z : 0 < m = room j k in (a (j / m) ((div-lt_iff_lt-mul {k = m} {x = j} {y = n} z).1 k)).at (j % m) (mod-lt j z));
  }
    where
      room : (j : ℕ) → j < n * m → 0 < m
      room j h = ⊎_elim (λ (q : 0 < m). q) (λ (q : m ≤ 0). let e : m ≡ 0 = omega arith in omega (arith, ap (λ (x : ℕ). n * x) e)) (lt_or_le 0 m)

  -- ---- of the whole, so of the parts

  pub each_rest : (x : A) (g : ℕ → A) {c : ℕ} → Each P (x ▸ g) (suc c) → Each P g c
  unfolding ◌▸◌
  each_rest x g a = record { at = λ j k. a.at (suc j) (omega arith) }

  pub each_low : (n m : ℕ) (g h : ℕ → A) → Each P (first n g h) (n + m) → Each P g n
  each_low n m g h a = record { at = λ j k. rw (first_low n g h j k) at (a.at j (omega arith)) }

  pub each_high : (n m : ℕ) (g h : ℕ → A) → Each P (first n g h) (n + m) → Each P h m
  each_high n m g h a = record { at = λ j k. rw (first_after n g h j) at (a.at (n + j) (omega arith)) }

  pub each_group : (n m : ℕ) (g : ℕ → ℕ → A) → Each P (groups m g) (n * m) → (i : ℕ) → i < n → Each P (g i) m
  each_group n m g a i h = record {
    at = λ j k. (let b : suc i * m ≤ n * m = mul-le-mul_right m h in rw (groups_at m g i j k) at (a.at (i * m + j) (omega arith)));
  }
