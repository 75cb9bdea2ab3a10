-- A face's own order, so that what holds of lower and of upper faces is said once. Assumes nothing.
use mathlib.Core.Path.{◌≡◌, refl}
use mathlib.Core.Logic.{◌⊎◌, inl, inr, ⊎_elim}
use mathlib.Core.Bool.{Bool, true, false, not, cond}
use Prim.Native.Nat.{ℕ, zero, suc, ◌≤◌, ◌<◌}
use native.Mathlib.Decide.{ℕ_discrete}
use native.Mathlib.Omega.{arith}
use lib.Dec.{T}
use lib.IntN.{ℤ, pos, neg_ℤ, nat_abs, ◌+ℤ◌, ◌-ℤ◌, ◌*ℤ◌}
use lib.Signed.{le_z, ◌≤ℤ◌, ≤ℤ_refl}
use Rattle.integers.specs.Order.{min_z, max_z}
use Rattle.integers.proofs.Z.{ints, flat, min_is, max_is, prod, span_lo, span_hi, mul_mono, mul_anti, le_or_lt}
use Rattle.integers.proofs.Division.{floor_mono, ceil_mono}
use Rattle.sheet_spec.specs.Slots.{N, Row}
use Rattle.machine_spec.specs.Box.{sum}
use Rattle.machine_spec.specs.Machine.{clamp_to, clamp, outward_div, change}
use Rattle.machine_spec.specs.Rate.{outer, outermost}

abbrev pub Order : Bool → ℤ → ℤ → Type 0
Order false a b = a ≤ℤ b
Order true a b = b ≤ℤ a

-- a is b or lies further out: below b for a lower face (`false`), above it for an upper one (`true`)
pub record Beyond (up : Bool) (a b : ℤ) : Type 0 where
  pub order : Order up a b

pub beyond_refl : (up : Bool) (a : ℤ) → Beyond up a a
beyond_refl false a = record { order = ≤ℤ_refl a }
beyond_refl true a = record { order = ≤ℤ_refl a }

pub beyond_trans : {up : Bool} {a b c : ℤ} → Beyond up a b → Beyond up b c → Beyond up a c
beyond_trans {up = false} h k = record { order = omega ints }
beyond_trans {up = true} h k = record { order = omega ints }

pub beyond_flip : {up : Bool} {a b : ℤ} → Beyond up a b → Beyond (not up) b a
beyond_flip {up = false} h = record { order = h.order }
beyond_flip {up = true} h = record { order = h.order }

pub beyond_back : {up : Bool} {a b : ℤ} → Beyond (not up) a b → Beyond up b a
beyond_back {up = false} h = record { order = h.order }
beyond_back {up = true} h = record { order = h.order }

pub beyond_or : (up : Bool) (a b : ℤ) → Beyond up a b ⊎ Beyond up b a
beyond_or false a b = ⊎_elim (λ h. inl (record { order = h })) (λ h. inr (record { order = omega ints })) (le_or_lt a b)
beyond_or true a b = ⊎_elim (λ h. inr (record { order = h })) (λ h. inl (record { order = omega ints })) (le_or_lt a b)

pub beyond_sum : {up : Bool} {a b c d : ℤ} → Beyond up a b → Beyond up c d → Beyond up (a +ℤ c) (b +ℤ d)
beyond_sum {up = false} h k = record { order = simp flat (omega ints) }
beyond_sum {up = true} h k = record { order = simp flat (omega ints) }

pub beyond_times : {up : Bool} (k : ℕ) {a b : ℤ} → Beyond up a b → Beyond up (pos k *ℤ a) (pos k *ℤ b)
beyond_times {up = false} k {a} {b} h = record { order = mul_mono (pos k) a b (omega ints) h.order }
beyond_times {up = true} k {a} {b} h = record { order = mul_mono (pos k) b a (omega ints) h.order }

-- more of what points in lies further in
pub beyond_more : (up : Bool) {i k : ℕ} {r : ℤ} → i ≤ k → Beyond up (pos 0) r → Beyond up (pos i *ℤ r) (pos k *ℤ r)
beyond_more false {i} {k} {r} l h = record { order = omega (ints, mul_mono r (pos i) (pos k) h.order (omega ints), prod r (pos i), prod r (pos k), prod (pos i) r, prod (pos k) r) }
beyond_more true {i} {k} {r} l h = record { order = omega (ints, mul_anti r (pos i) (pos k) h.order (omega ints), prod r (pos i), prod r (pos k), prod (pos i) r, prod (pos k) r) }

pub sum_beyond : {up : Bool} (n : ℕ) (f g : ℕ → ℤ) → ((i : ℕ) → i < n → Beyond up (f i) (g i)) → Beyond up (sum n f) (sum n g)
unfolding sum
sum_beyond {up} zero f g h = beyond_refl up (pos 0)
sum_beyond (suc n) f g h = beyond_sum (sum_beyond n f g (λ i k. h i (omega arith))) (h n (omega arith))

-- ---- a choice

pub cond_cases : {A : Type 0} (P : A → Type 0) (t : Bool) {x y : A} → (T t → P x) → (T (not t) → P y) → P (cond t x y)
cond_cases P true f g = f tt
cond_cases P false f g = g tt

pub cond_one : {A : Type 0} (P : A → Type 0) (t : Bool) {x y : A} → P x → P y → P (cond t x y)
cond_one P t h k = cond_cases P t (λ _. h) (λ _. k)

pub cond_yes : (t : Bool) (x y : ℤ) → T t → cond t x y ≡ x
cond_yes true x y h = refl
cond_yes false x y h = absurd h

pub cond_no : (t : Bool) (x y : ℤ) → (T t → ⊥) → cond t x y ≡ y
cond_no true x y h = absurd (h tt)
cond_no false x y h = refl

-- ---- the outer of two, the outermost of many

pub outer_left : (up : Bool) (a b : ℤ) → Beyond up (outer up a b) a
unfolding outer
outer_left false a b = record { order = omega (ints, min_is a b) }
outer_left true a b = record { order = omega (ints, max_is a b) }

pub outer_right : (up : Bool) (a b : ℤ) → Beyond up (outer up a b) b
unfolding outer
outer_right false a b = record { order = omega (ints, min_is a b) }
outer_right true a b = record { order = omega (ints, max_is a b) }

-- nothing else lies as far in as the outer of two
pub outer_in : (up : Bool) (a b c : ℤ) → Beyond up c a → Beyond up c b → Beyond up c (outer up a b)
unfolding outer
outer_in false a b c h k = record { order = omega (ints, min_is a b) }
outer_in true a b c h k = record { order = omega (ints, max_is a b) }

pub outer_mono : {up : Bool} {a b c d : ℤ} → Beyond up a b → Beyond up c d → Beyond up (outer up a c) (outer up b d)
outer_mono {up} {a} {b} {c} {d} h k = outer_in up b d (outer up a c) (beyond_trans (outer_left up a c) h) (beyond_trans (outer_right up a c) k)

-- the outer of two numbers is one of them
pub outer_one : (P : ℤ → Type 0) (up : Bool) {a b : ℤ} → P a → P b → P (outer up a b)
unfolding outer min_z max_z
outer_one P false {a} {b} h k = cond_one P (le_z a b) h k
outer_one P true {a} {b} h k = cond_one P (le_z a b) k h

pub outermost_one : (P : ℤ → Type 0) (up : Bool) {z : ℤ} (n : ℕ) (f : ℕ → ℤ) → P z → ((i : ℕ) → i < n → P (f i)) → P (outermost up z n f)
unfolding outermost
outermost_one P up zero f h g = h
outermost_one P up (suc n) f h g = outer_one P up (outermost_one P up n f h (λ i k. g i (omega arith))) (g n (omega arith))

pub outermost_at : (up : Bool) (z : ℤ) (n : ℕ) (f : ℕ → ℤ) (i : ℕ) → i < n → Beyond up (outermost up z n f) (f i)
unfolding outermost
outermost_at up z zero f i h = absurd (omega arith)
outermost_at up z (suc n) f i h = last (ℕ_discrete i n) (λ k. outermost_at up z n f i k)
  where
    last : Dec (i ≡ n) → (i < n → Beyond up (outermost up z n f) (f i)) → Beyond up (outer up (outermost up z n f) (f n)) (f i)
    last (yes e) g = rw e (outer_right up (outermost up z n f) (f n))
    last (no e) g = beyond_trans (outer_left up (outermost up z n f) (f n)) (g (omega arith))

-- a product lies between those of the other factor's bounds
pub span : (up : Bool) (a l h x : ℤ) → l ≤ℤ x → x ≤ℤ h → Beyond up (outer up (a *ℤ l) (a *ℤ h)) (a *ℤ x)
unfolding outer
span false a l h x u v = record { order = span_lo a l h x u v }
span true a l h x u v = record { order = span_hi a l h x u v }

-- ---- the outermost change goes out with the numerator

pub clamp_to_mono : (l h : ℤ) {y z : ℤ} → y ≤ℤ z → clamp_to l h y ≤ℤ clamp_to l h z
clamp_to_mono l h {y} {z} o = omega (ints, max_is l (min_z y h), max_is l (min_z z h), min_is y h, min_is z h)

pub clamp_mono : (cap : ℤ) {y z : ℤ} → y ≤ℤ z → clamp cap y ≤ℤ clamp cap z
unfolding clamp
clamp_mono cap = clamp_to_mono (neg_ℤ cap) cap

-- a quotient that is rounded outward goes out with its dividend
pub outward_mono : (up : Bool) (x y : ℤ) (q : ℕ) → 0 < q → Beyond up x y → Beyond up (outward_div up x q) (outward_div up y q)
unfolding outward_div
outward_mono false x y q p h = record { order = floor_mono x y q p h.order }
outward_mono true x y q p h = record { order = ceil_mono y x q p h.order }

pub change_mono : (up : Bool) (cap : ℤ) (r : Row) (M N : ℤ) → 0 < nat_abs r.q → Beyond up M N → Beyond up (change up cap r M) (change up cap r N)
unfolding change
change_mono false cap r M N q h = record { order = clamp_mono cap (floor_mono (M -ℤ r.d) (N -ℤ r.d) (nat_abs r.q) q (simp flat (omega ints))) }
change_mono true cap r M N q h = record { order = clamp_mono cap (ceil_mono (N +ℤ r.d) (M +ℤ r.d) (nat_abs r.q) q (simp flat (omega ints))) }
