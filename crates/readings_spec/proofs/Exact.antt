-- The value of a float in units is exact, and of two finite floats the order is that of their values. Assumes nothing.
use mathlib.Core.Path.{◌≡◌, refl, sym, ap, ◌∙◌, subst}
use mathlib.Core.Bool.{Bool, true, false, ◌&&◌, true≢false}
use Prim.Native.Nat.{ℕ, zero, suc, ◌+◌, ◌-◌, ◌*◌, ◌/◌, ◌%◌, ◌^◌, ◌≤◌, ◌<◌}
use native.Mathlib.Nat.{lt_of_not-le, lt_of_lt_of_le, lt_irrefl, le_of_suc-le-suc, zero-lt-suc, mul-one, mul_assoc, mul_comm, mul_right_comm, mul-pos, mul-div_cancel, mul-lt-mul_of_pos_right, lt_of_mul-lt-mul_right, add-mul, zero-mul, zero-add}
use native.Mathlib.Omega.{arith}
use lib.Dec.{T, ltb, leb, eqb, ltb→lt, lt→ltb, leb→le, leb-suc-suc}
use borrow.Author.Tests.{lt-ltb, le-ltb}
use lib.IntN.{ℤ, pos, negsuc}
use lib.Signed.{lt_z, le_z}
use lib.Pow.{pow_pos, pow-add, pow-lt}
use lib.Ieee.{Float, nan, inf, fin, binary32, up, down, below, lt, ne, fits}
use lib.Ieee.Fits.{down_pos, and_l, and_r}
use lib.Ieee.Digits.{back}
use lib.Ieee.Compare.{differs_from_itself}
use lib.Ieee.Exact.{HasValue}
use Rattle.integers.proofs.Z.{lt_true, lt_false}
use Rattle.sheet_spec.proofs.Box.{le_is, le_not}
use Rattle.readings_spec.specs.Exact.{unit, signed, finite, scaled, between}

pub unit_pos : 0 < unit
unit_pos = pow_pos 149

-- ---- the value of a float of a known size

-- a float of the size a / 2^149 is a units
pub scaled_of : (x : Float) (s : Bool) (a : ℕ) → HasValue x s a unit → scaled x ≡ signed s a
unfolding scaled
scaled_of nan s a h = absurd h
scaled_of (inf t) s a h = absurd h
scaled_of (fin t m e) s a h =
    ap (λ (k : ℕ). signed t (k / down e)) h.1 ∙ ap (λ (k : ℕ). signed t k) (mul-div_cancel a (down_pos e)) ∙ ap (λ (t : Bool). signed t a) h.0

-- ---- the division leaves nothing

-- the units of m·2^e, without the sign
abbrev size_of : ℕ → ℤ → ℕ
size_of m e = m * up e * unit / down e

divides : (a : ℕ) → 2 ^ a ≤ unit → 2 ^ (149 - a) * 2 ^ a ≡ unit
divides a h = sym (pow-add 2 (149 - a) a) ∙ ap (λ (k : ℕ). 2 ^ k) (back 149 a small)
  where
    small : a ≤ 149
    small = le_of_suc-le-suc (lt_of_not-le (λ (g : 150 ≤ a). lt_irrefl unit (lt_of_lt_of_le (pow-lt g) h)))

cut : (n d k : ℕ) → 0 < d → n ≡ k * d → n ≡ n / d * d
cut n d k p e = e ∙ ap (λ (x : ℕ). x * d) (sym (ap (λ (x : ℕ). x / d) e ∙ mul-div_cancel k p))

-- no float that is not 0 has a digit below 2^-149
fine : (s : Bool) (m : ℕ) (e : ℤ) → T (fits binary32 (fin s (suc m) e)) → down e ≤ unit
unfolding fits
fine s m e t =
    leb→le (down e) unit
    (and_r (eqb (suc m % 2) 1 && ltb (suc m) (2 ^ 24)) (leb (down e) unit)
    (and_l (eqb (suc m % 2) 1 && ltb (suc m) (2 ^ 24) && leb (down e) unit) (ltb (suc m * up e) (2 ^ 128 * down e)) t))

whole_size : (m : ℕ) (e : ℤ) → down e ≤ unit → m * up e * unit ≡ size_of m e * down e
whole_size m (pos k) h = cut (m * 2 ^ k * unit) 1 (m * 2 ^ k * unit) (zero-lt-suc 0) (sym (mul-one (m * 2 ^ k * unit)))
whole_size m (negsuc k) h =
    cut (m * 1 * unit) (2 ^ suc k) (m * 1 * 2 ^ (149 - suc k)) (pow_pos (suc k))
    (ap (λ (x : ℕ). m * 1 * x) (sym (divides (suc k) h)) ∙ sym (mul_assoc (m * 1) (2 ^ (149 - suc k)) (2 ^ suc k)))

pub exact : (s : Bool) (m : ℕ) (e : ℤ) → T (fits binary32 (fin s m e)) → m * up e * unit ≡ size_of m e * down e
exact s zero e t = cut (zero * up e * unit) (down e) 0 (down_pos e) (ap (λ (x : ℕ). x * unit) (zero-mul (up e)) ∙ sym (zero-mul (down e)))
exact s (suc m) e t = whole_size (suc m) e (fine s m e t)

-- ---- order

-- numbers that are a and b times the same, in other units
same_order : (A B a b u k : ℕ) → 0 < u → 0 < k → A * u ≡ a * k → B * u ≡ b * k → ltb A B ≡ ltb a b
same_order A B a b u k U K p q = same_test (ltb A B) (ltb a b)
    (λ t. lt→ltb a b (lt_of_mul-lt-mul_right k (subst (λ (x : ℕ). a * k < x) q (subst (λ (x : ℕ). x < B * u) p (mul-lt-mul_of_pos_right (ltb→lt A B t) U)))))
    (λ t. lt→ltb A B (lt_of_mul-lt-mul_right u (subst (λ (x : ℕ). A * u < x) (sym q) (subst (λ (x : ℕ). x < b * k) (sym p) (mul-lt-mul_of_pos_right (ltb→lt a b t) K)))))
  where
    same_test : (x y : Bool) → (T x → T y) → (T y → T x) → x ≡ y
    same_test true true f g = refl
    same_test true false f g = absurd (f tt)
    same_test false true f g = absurd (g tt)
    same_test false false f g = refl

-- and with signs
same_below : (s t : Bool) (A B a b u k : ℕ) → 0 < u → 0 < k → A * u ≡ a * k → B * u ≡ b * k → below s A t B ≡ below s a t b
same_below false false A B a b u k U K p q = same_order A B a b u k U K p q
same_below false true A B a b u k U K p q = refl
same_below true false A B a b u k U K p q =
    same_order 0 (A + B) 0 (a + b) u k U K (zero-mul u ∙ sym (zero-mul k)) (add-mul A B u ∙ ap (λ (x : ℕ). x + B * u) p ∙ ap (λ (x : ℕ). a * k + x) q ∙ sym (add-mul a b k))
same_below true true A B a b u k U K p q = same_order B A b a u k U K q p

signed_order : (s t : Bool) (a b : ℕ) → below s a t b ≡ lt_z (signed s a) (signed t b)
signed_order false false a b = refl
signed_order false true a zero = sym (le-ltb a 0 (omega arith))
signed_order false true a (suc b) = refl
signed_order true false zero b = ap (λ (x : ℕ). ltb 0 x) (zero-add b)
signed_order true false (suc a) b = lt-ltb 0 (suc a + b) (omega arith)
signed_order true true zero zero = refl
signed_order true true zero (suc b) = le-ltb (suc b) 0 (omega arith)
signed_order true true (suc a) zero = lt-ltb 0 (suc a) (omega arith)
signed_order true true (suc a) (suc b) = leb-suc-suc (suc b) a

pub lt_scaled : (x y : Float) → T (fits binary32 x) → T (fits binary32 y) → T (finite x) → T (finite y) → lt x y ≡ lt_z (scaled x) (scaled y)
unfolding lt scaled finite
lt_scaled nan y f g h k = absurd h
lt_scaled (inf s) y f g h k = absurd h
lt_scaled (fin s m e) nan f g h k = absurd k
lt_scaled (fin s m e) (inf t) f g h k = absurd k
lt_scaled (fin s m e) (fin t n d) f g h k =
    same_below s t (m * up e * down d) (n * up d * down e) (size_of m e) (size_of n d) unit (down e * down d) unit_pos (mul-pos (down_pos e) (down_pos d))
    (mul_right_comm (m * up e) (down d) unit ∙ ap (λ (x : ℕ). x * down d) (exact s m e f) ∙ mul_assoc (size_of m e) (down e) (down d))
    (mul_right_comm (n * up d) (down e) unit ∙ ap (λ (x : ℕ). x * down e) (exact t n d g) ∙ mul_assoc (size_of n d) (down d) (down e) ∙ ap (λ (x : ℕ). size_of n d * x) (mul_comm (down d) (down e)))
    ∙ signed_order s t (size_of m e) (size_of n d)

-- ---- between two finite floats, by the order of floats

pub lt_le_z : (a b : ℤ) → lt_z a b ≡ true → le_z b a ≡ false
lt_le_z a b h = le_not b a (lt_true a b h)

pub ge_le_z : (a b : ℤ) → lt_z a b ≡ false → le_z b a ≡ true
ge_le_z a b h = le_is b a (lt_false a b h)

and_no : (b : Bool) → b && false ≡ false
and_no true = refl
and_no false = refl

is_finite : (x least greatest : Float) → T (finite least) → T (finite greatest) → ne x x ≡ false → lt x least ≡ false → lt greatest x ≡ false → finite x ≡ true
unfolding finite lt ne
is_finite nan least greatest kl kg e l g = absurd (true≢false e)
is_finite (inf s) nan greatest kl kg e l g = absurd kl
is_finite (inf s) (inf t) greatest kl kg e l g = absurd kl
is_finite (inf s) (fin t m d) nan kl kg e l g = absurd kg
is_finite (inf s) (fin t m d) (inf u) kl kg e l g = absurd kg
is_finite (inf true) (fin t m d) (fin u n c) kl kg e l g = absurd (true≢false l)
is_finite (inf false) (fin t m d) (fin u n c) kl kg e l g = absurd (true≢false g)
is_finite (fin s m e') least greatest kl kg e l g = refl

module _ (least greatest x : Float) (fl : T (fits binary32 least)) (fg : T (fits binary32 greatest)) (fx : T (fits binary32 x)) (kl : T (finite least)) (kg : T (finite greatest)) where
  abbrev inside : Bool
  inside = between (scaled least) (scaled greatest) x

  -- a NaN differs from itself, and lies nowhere
  pub not_number : ne x x ≡ true → inside ≡ false
  unfolding between finite
  not_number e = ap (λ (y : Float). between (scaled least) (scaled greatest) y) (differs_from_itself x (subst T (sym e) tt))

  pub too_low : lt x least ≡ true → inside ≡ false
  unfolding between
  too_low e = by (finite x) refl
    where
      by : (b : Bool) → finite x ≡ b → inside ≡ false
      by false k = rw k refl
      by true k = rw (k, lt_le_z (scaled x) (scaled least) (sym (lt_scaled x least fx fl (subst T (sym k) tt) kl) ∙ e)) refl

  pub too_high : lt greatest x ≡ true → inside ≡ false
  unfolding between
  too_high e = by (finite x) refl
    where
      by : (b : Bool) → finite x ≡ b → inside ≡ false
      by false k = rw k refl
      by true k = rw (k, lt_le_z (scaled greatest) (scaled x) (sym (lt_scaled greatest x fg fx kg (subst T (sym k) tt)) ∙ e)) (and_no (le_z (scaled least) (scaled x)))

  -- an infinity is below every finite float or above it
  pub inside_both : ne x x ≡ false → lt x least ≡ false → lt greatest x ≡ false → inside ≡ true
  unfolding between
  inside_both e l g =
      let k : finite x ≡ true = is_finite x least greatest kl kg e l g in
      rw (k, ge_le_z (scaled x) (scaled least) (sym (lt_scaled x least fx fl (subst T (sym k) tt) kl) ∙ l), ge_le_z (scaled greatest) (scaled x) (sym (lt_scaled greatest x fg fx kg (subst T (sym k) tt)) ∙ g)) refl
