-- Linear arithmetic over ℤ by `omega`, which reads only ℕ. z is `p z - m z`, its positive and its negative part. Rules (`ints`) have `omega` read and prove `≤ℤ`,
-- `<ℤ`, `≡`, signed tests and signed ranges by those parts; `sum`, `sub`, `neg`, `prod` tell it of an operation; and `simp flat` takes a goal or a fact apart to its leaves.
-- Assumes nothing.
use mathlib.Core.Path.{◌≡◌, sym, ap, ◌∙◌, subst}
use mathlib.Core.Logic.{◌↔◌, ◌≢◌, ◌⊎◌, inl, inr, ⊎_elim}
use mathlib.Core.Bool.{Bool, true, false, not, cond}
use mathlib.Core.List.{List, [], ◌∷◌}
use Prim.Native.Nat.{ℕ, zero, suc, ◌+◌, ◌*◌, ◌-◌, ◌^◌, ◌≤◌, ◌<◌, min, max}
use native.Mathlib.Omega.{arith}
use native.Mathlib.Nat.{mul-le-mul_left, mul-le-mul, le_trans}
use lib.Dec.{T, ltb, ltb→lt, nltb→le, leb→le, le→leb, lt→ltb, nleb→lt}
use lib.IntN.{ℤ, pos, negsuc, neg_ℤ, sub_ℕ, ◌+ℤ◌, ◌-ℤ◌, ◌*ℤ◌, neg_ℤ-+ℤ, neg_ℤ-neg_ℤ}
use mir.ValLaws.{sfits_le}
use lib.Signed.{shr_z, mag_shr, le_z, lt_z, ◌≤ℤ◌, ◌<ℤ◌, mag, lt_z_no, lt_z_yes, le_z_yes}
use mir.Facts.{not_T, to_z-of_z, sfits_widen}
use mir.Syntax.{Width, w16, w32, w64}
use mir.Val.{SFits, of_z, to_z, hbits}
use Rattle.integers.specs.Order.{min_z, max_z}
use Rattle.integers.specs.Bound.{p, m, size, Bound}

-- ---- orders and equations, read and shown
pub le_read : (a b : ℤ) → a ≤ℤ b → p a + m b ≤ p b + m a
le_read (pos a) (pos b) h = omega (arith, leb→le a b h.le)
le_read (pos a) (negsuc b) h = absurd h.le
le_read (negsuc a) (pos b) h = omega arith
le_read (negsuc a) (negsuc b) h = omega (arith, leb→le b a h.le)

pub le_show : (a b : ℤ) → p a + m b ≤ p b + m a → a ≤ℤ b
le_show (pos a) (pos b) h = record { le = le→leb a b (omega arith) }
le_show (pos a) (negsuc b) h = let z : ⊥ = omega arith in absurd z
le_show (negsuc a) (pos b) h = record { le = tt }
le_show (negsuc a) (negsuc b) h = record { le = le→leb b a (omega arith) }

pub lt_read : (a b : ℤ) → a <ℤ b → p a + m b < p b + m a
lt_read (pos a) (pos b) h = omega (arith, ltb→lt a b h.lt)
lt_read (pos a) (negsuc b) h = absurd h.lt
lt_read (negsuc a) (pos b) h = omega arith
lt_read (negsuc a) (negsuc b) h = omega (arith, ltb→lt b a h.lt)

pub lt_show : (a b : ℤ) → p a + m b < p b + m a → a <ℤ b
lt_show (pos a) (pos b) h = record { lt = lt→ltb a b (omega arith) }
lt_show (pos a) (negsuc b) h = let z : ⊥ = omega arith in absurd z
lt_show (negsuc a) (pos b) h = record { lt = tt }
lt_show (negsuc a) (negsuc b) h = record { lt = lt→ltb b a (omega arith) }

pub eq_read : (a b : ℤ) → a ≡ b → p a + m b ≡ p b + m a
eq_read a b h = subst (λ (z : ℤ). p a + m z ≡ p z + m a) h (omega arith)

pub eq_show : (a b : ℤ) → p a + m b ≡ p b + m a → a ≡ b
eq_show (pos a) (pos b) h = ap pos (omega arith)
eq_show (pos a) (negsuc b) h = let z : ⊥ = omega arith in absurd z
eq_show (negsuc a) (pos b) h = let z : ⊥ = omega arith in absurd z
eq_show (negsuc a) (negsuc b) h = ap negsuc (omega arith)

-- bounds that are literals, more sharply: a number below one that is not negative has no larger positive part
pub le_pos : (a : ℤ) (k : ℕ) → a ≤ℤ pos k → p a ≤ k
le_pos (pos a) k h = omega (arith, leb→le a k h.le)
le_pos (negsuc a) k h = omega arith

pub ge_negsuc : (a : ℤ) (k : ℕ) → negsuc k ≤ℤ a → m a ≤ suc k
ge_negsuc (pos a) k h = omega arith
ge_negsuc (negsuc a) k h = omega (arith, leb→le a k h.le)

pub gt_negsuc : (a : ℤ) (k : ℕ) → negsuc k <ℤ a → m a ≤ k
gt_negsuc (pos a) k h = omega arith
gt_negsuc (negsuc a) k h = omega (arith, ltb→lt a k h.lt)

-- ---- signed tests of the code, as a branch leaves them
pub lt_true : (a b : ℤ) → lt_z a b ≡ true → a <ℤ b
lt_true a b e = lt_z_yes (subst T (sym e) tt)

pub lt_false : (a b : ℤ) → lt_z a b ≡ false → b ≤ℤ a
lt_false a b e = lt_z_no (subst (λ (t : Bool). T (not t)) (sym e) tt)

pub le_true : (a b : ℤ) → le_z a b ≡ true → a ≤ℤ b
le_true a b e = le_z_yes (subst T (sym e) tt)

nle : (a b : ℤ) → T (not (le_z a b)) → b <ℤ a
nle (pos a) (pos b) t = record { lt = lt→ltb b a (nleb→lt a b t) }
nle (pos a) (negsuc b) t = record { lt = tt }
nle (negsuc a) (pos b) t = absurd t
nle (negsuc a) (negsuc b) t = record { lt = lt→ltb a b (nleb→lt b a t) }

pub le_false : (a b : ℤ) → le_z a b ≡ false → b <ℤ a
le_false a b e = nle a b (subst (λ (t : Bool). T (not t)) (sym e) tt)

pub lt_z_true : (a b : ℤ) → lt_z a b ≡ true → p a + m b < p b + m a
lt_z_true a b e = lt_read a b (lt_true a b e)

pub lt_z_false : (a b : ℤ) → lt_z a b ≡ false → p b + m a ≤ p a + m b
lt_z_false a b e = le_read b a (lt_false a b e)

pub le_z_true : (a b : ℤ) → le_z a b ≡ true → p a + m b ≤ p b + m a
le_z_true a b e = le_read a b (le_true a b e)

pub le_z_false : (a b : ℤ) → le_z a b ≡ false → p b + m a < p a + m b
le_z_false a b e = lt_read b a (le_false a b e)

-- ---- operations
cond_ind : (c : Bool) (x y : ℤ) (P : ℤ → Type 0) → (T c → P x) → (T (not c) → P y) → P (cond c x y)
cond_ind true x y P f g = f tt
cond_ind false x y P f g = g tt

sub_is : (a b : ℕ) → p (sub_ℕ a b) + b ≡ m (sub_ℕ a b) + a
sub_is a b =
    cond_ind (ltb a b) (negsuc (b - suc a)) (pos (a - b)) (λ z. p z + b ≡ m z + a)
    (λ t. omega (arith, ltb→lt a b t)) (λ t. omega (arith, nltb→le a b t))

pub sum : (x y : ℤ) → p (x +ℤ y) + (m x + m y) ≡ m (x +ℤ y) + (p x + p y)
sum (pos a) (pos b) = omega arith
sum (pos a) (negsuc b) = omega (arith, sub_is a (suc b))
sum (negsuc a) (pos b) = omega (arith, sub_is b (suc a))
sum (negsuc a) (negsuc b) = omega arith

pub neg : (x : ℤ) → p (neg_ℤ x) + p x ≡ m (neg_ℤ x) + m x
neg (pos zero) = omega arith
neg (pos (suc n)) = omega arith
neg (negsuc n) = omega arith

pub sub : (x y : ℤ) → p (x -ℤ y) + (m x + p y) ≡ m (x -ℤ y) + (p x + m y)
sub x y = omega (arith, sum x (neg_ℤ y), neg y)

pub neg_is : (n : ℕ) → (p (neg_ℤ (pos n)) ≡ 0) × (m (neg_ℤ (pos n)) ≡ n)
neg_is zero = omega arith
neg_is (suc n) = omega arith

pub prod : (x y : ℤ) → p (x *ℤ y) + (p x * m y + m x * p y) ≡ m (x *ℤ y) + (p x * p y + m x * m y)
prod (pos a) (pos b) = omega arith
prod (pos a) (negsuc b) = omega (arith, neg_is (a * suc b))
prod (negsuc a) (pos b) = omega (arith, neg_is (suc a * b))
prod (negsuc a) (negsuc b) = omega arith

-- ---- ranges: what a signed integer that fits tells, and how that it fits is shown
pub range : {w : Width} {z : ℤ} → SFits w z → (p z < 2 ^ hbits w) × (m z ≤ 2 ^ hbits w)
range {z = pos n} h = omega (arith, h.sfits)
range {z = negsuc n} h = omega (arith, h.sfits)

-- what the machine reads back from the bits of a number that fits is that number
pub back : (w : Width) (z : ℤ) → SFits w z → p (to_z w (of_z w z)) + m z ≡ p z + m (to_z w (of_z w z))
back w z h = eq_read (to_z w (of_z w z)) z (to_z-of_z h)

pub in_range : {w : Width} (z : ℤ) → (p z < 2 ^ hbits w + m z) × (m z ≤ 2 ^ hbits w + p z) → SFits w z
in_range (pos n) h = record { sfits = omega arith }
in_range (negsuc n) h = record { sfits = omega arith }

pub ruleset ints = (arith, le_pos, ge_negsuc, gt_negsuc, le_read, le_show, lt_read, lt_show, eq_read, eq_show, lt_z_true, lt_z_false, le_z_true, le_z_false, back)

-- ---- to the leaves, by `simp flat`
pub s_p : List ℤ → ℕ
s_p [] = 0
s_p (x ∷ l) = p x + s_p l

pub s_m : List ℤ → ℕ
s_m [] = 0
s_m (x ∷ l) = m x + s_m l

-- a and the sum of l are at most b
pub record Le (l : List ℤ) (a b : ℕ) : Type 0 where
  pub out : a + s_p l ≤ b + s_m l

module _ (x y : ℤ) where
  pub le↔ : x ≤ℤ y ↔ Le (x ∷ (neg_ℤ y ∷ [])) 0 0
  unfolding s_p s_m
  le↔ = (λ h. record { out = omega (ints, neg y) }, λ h. omega (ints, h.out, neg y))

  pub lt↔ : x <ℤ y ↔ Le (x ∷ (neg_ℤ y ∷ [])) 1 0
  unfolding s_p s_m
  lt↔ = (λ h. record { out = omega (ints, neg y) }, λ h. omega (ints, h.out, neg y))

  pub eq↔ : x ≡ y ↔ (Le (x ∷ (neg_ℤ y ∷ [])) 0 0 × Le (y ∷ (neg_ℤ x ∷ [])) 0 0)
  unfolding s_p s_m
  eq↔ = (λ h. (record { out = omega (ints, neg y) }, record { out = omega (ints, neg x) }), λ h. omega (ints, h.0.out, h.1.out, neg x, neg y))

pub fits↔ : (w : Width) (z : ℤ) → SFits w z ↔ (Le (z ∷ []) 1 (2 ^ hbits w) × Le (neg_ℤ z ∷ []) 0 (2 ^ hbits w))
unfolding s_p s_m
fits↔ w z = (
  λ h. (record { out = omega (ints, range h) }, record { out = omega (ints, range h, neg z) }),
  λ h. in_range z (omega (ints, h.0.out, h.1.out, neg z)),
)

module _ (x y : ℤ) (l : List ℤ) (a b : ℕ) where
  pub sum↔ : Le ((x +ℤ y) ∷ l) a b ↔ Le (x ∷ (y ∷ l)) a b
  unfolding s_p s_m
  sum↔ = (λ h. record { out = omega (ints, h.out, sum x y) }, λ h. record { out = omega (ints, h.out, sum x y) })

  pub mul↔ : Le ((x *ℤ y) ∷ l) a b ↔ Le l (p x * p y + m x * m y + a) (p x * m y + m x * p y + b)
  unfolding s_p s_m
  mul↔ = (λ h. record { out = omega (ints, h.out, prod x y) }, λ h. record { out = omega (ints, h.out, prod x y) })

  pub neg_mul↔ : Le (neg_ℤ (x *ℤ y) ∷ l) a b ↔ Le l (p x * m y + m x * p y + a) (p x * p y + m x * m y + b)
  unfolding s_p s_m
  neg_mul↔ = (
    λ h. record { out = omega (ints, h.out, prod x y, neg (x *ℤ y)) },
    λ h. record { out = omega (ints, h.out, prod x y, neg (x *ℤ y)) },
  )

module _ (x : ℤ) (l : List ℤ) (a b : ℕ) where
  pub neg↔ : Le (neg_ℤ x ∷ l) a b ↔ Le l (m x + a) (p x + b)
  unfolding s_p s_m
  neg↔ = (λ h. record { out = omega (ints, h.out, neg x) }, λ h. record { out = omega (ints, h.out, neg x) })

  pub var↔ : Le (x ∷ l) a b ↔ Le l (p x + a) (m x + b)
  unfolding s_p s_m
  var↔ = (λ h. record { out = omega (ints, h.out) }, λ h. record { out = omega (ints, h.out) })

pub nil↔ : (a b : ℕ) → Le [] a b ↔ a ≤ b
unfolding s_p s_m
nil↔ a b = (λ h. omega (ints, h.out), λ h. record { out = omega ints })

-- the product over sums
pub add_mul : (x y z : ℤ) → (x +ℤ y) *ℤ z ≡ x *ℤ z +ℤ y *ℤ z
add_mul x y z =
    omega (ints, prod (x +ℤ y) z, prod x z, prod y z, sum (x *ℤ z) (y *ℤ z), ap (λ (n : ℕ). n * p z) (sum x y), ap (λ (n : ℕ). n * m z) (sum x y))

pub mul_add : (z x y : ℤ) → z *ℤ (x +ℤ y) ≡ z *ℤ x +ℤ z *ℤ y
mul_add z x y =
    omega (ints, prod z (x +ℤ y), prod z x, prod z y, sum (z *ℤ x) (z *ℤ y), ap (λ (n : ℕ). n * p z) (sum x y), ap (λ (n : ℕ). n * m z) (sum x y))

pub neg_mul : (x y : ℤ) → neg_ℤ x *ℤ y ≡ neg_ℤ (x *ℤ y)
neg_mul x y = omega (ints, prod (neg_ℤ x) y, prod x y, neg (x *ℤ y), ap (λ (n : ℕ). n * p y) (neg x), ap (λ (n : ℕ). n * m y) (neg x))

pub mul_neg : (x y : ℤ) → x *ℤ neg_ℤ y ≡ neg_ℤ (x *ℤ y)
mul_neg x y = omega (ints, prod x (neg_ℤ y), prod x y, neg (x *ℤ y), ap (λ (n : ℕ). n * p x) (neg y), ap (λ (n : ℕ). n * m x) (neg y))

pub mul_assoc : (x y z : ℤ) → (x *ℤ y) *ℤ z ≡ x *ℤ (y *ℤ z)
mul_assoc x y z =
    omega (ints, prod (x *ℤ y) z, prod x (y *ℤ z), ap (λ (n : ℕ). n * p z) (prod x y), ap (λ (n : ℕ). n * m z) (prod x y), ap (λ (n : ℕ). n * p x) (prod y z), ap (λ (n : ℕ). n * m x) (prod y z))

module _ (x : ℤ) (l : List ℤ) (a b : ℕ) where
  pub neg_neg↔ : Le (neg_ℤ (neg_ℤ x) ∷ l) a b ↔ Le (x ∷ l) a b
  unfolding s_p s_m
  neg_neg↔ = (λ h. record { out = omega (ints, h.out, neg_ℤ-neg_ℤ x) }, λ h. record { out = omega (ints, h.out, neg_ℤ-neg_ℤ x) })

module _ (x y : ℤ) (l : List ℤ) (a b : ℕ) where
  pub neg_sum↔ : Le (neg_ℤ (x +ℤ y) ∷ l) a b ↔ Le (neg_ℤ x ∷ (neg_ℤ y ∷ l)) a b
  unfolding s_p s_m
  neg_sum↔ = (
    λ h. record { out = omega (ints, h.out, neg_ℤ-+ℤ x y, sum (neg_ℤ x) (neg_ℤ y)) },
    λ h. record { out = omega (ints, h.out, neg_ℤ-+ℤ x y, sum (neg_ℤ x) (neg_ℤ y)) },
  )

  pub nl↔ : Le ((neg_ℤ x *ℤ y) ∷ l) a b ↔ Le (neg_ℤ (x *ℤ y) ∷ l) a b
  unfolding s_p s_m
  nl↔ = (λ h. record { out = omega (ints, h.out, neg_mul x y) }, λ h. record { out = omega (ints, h.out, neg_mul x y) })

  pub nr↔ : Le ((x *ℤ neg_ℤ y) ∷ l) a b ↔ Le (neg_ℤ (x *ℤ y) ∷ l) a b
  unfolding s_p s_m
  nr↔ = (λ h. record { out = omega (ints, h.out, mul_neg x y) }, λ h. record { out = omega (ints, h.out, mul_neg x y) })

  pub nnl↔ : Le (neg_ℤ (neg_ℤ x *ℤ y) ∷ l) a b ↔ Le ((x *ℤ y) ∷ l) a b
  unfolding s_p s_m
  nnl↔ = (
    λ h. record { out = omega (ints, h.out, neg_mul x y, neg (x *ℤ y), neg (neg_ℤ x *ℤ y)) },
    λ h. record { out = omega (ints, h.out, neg_mul x y, neg (x *ℤ y), neg (neg_ℤ x *ℤ y)) },
  )

  pub nnr↔ : Le (neg_ℤ (x *ℤ neg_ℤ y) ∷ l) a b ↔ Le ((x *ℤ y) ∷ l) a b
  unfolding s_p s_m
  nnr↔ = (
    λ h. record { out = omega (ints, h.out, mul_neg x y, neg (x *ℤ y), neg (x *ℤ neg_ℤ y)) },
    λ h. record { out = omega (ints, h.out, mul_neg x y, neg (x *ℤ y), neg (x *ℤ neg_ℤ y)) },
  )

module _ (x y z : ℤ) (l : List ℤ) (a b : ℕ) where
  pub dl↔ : Le (((x +ℤ y) *ℤ z) ∷ l) a b ↔ Le ((x *ℤ z) ∷ ((y *ℤ z) ∷ l)) a b
  unfolding s_p s_m
  dl↔ = (
    λ h. record { out = omega (ints, h.out, add_mul x y z, sum (x *ℤ z) (y *ℤ z)) },
    λ h. record { out = omega (ints, h.out, add_mul x y z, sum (x *ℤ z) (y *ℤ z)) },
  )

  pub dr↔ : Le ((z *ℤ (x +ℤ y)) ∷ l) a b ↔ Le ((z *ℤ x) ∷ ((z *ℤ y) ∷ l)) a b
  unfolding s_p s_m
  dr↔ = (
    λ h. record { out = omega (ints, h.out, mul_add z x y, sum (z *ℤ x) (z *ℤ y)) },
    λ h. record { out = omega (ints, h.out, mul_add z x y, sum (z *ℤ x) (z *ℤ y)) },
  )

  pub ndl↔ : Le (neg_ℤ ((x +ℤ y) *ℤ z) ∷ l) a b ↔ Le (neg_ℤ (x *ℤ z) ∷ (neg_ℤ (y *ℤ z) ∷ l)) a b
  unfolding s_p s_m
  ndl↔ = (
    λ h. record { out = omega (ints, h.out, add_mul x y z, sum (x *ℤ z) (y *ℤ z), neg ((x +ℤ y) *ℤ z), neg (x *ℤ z), neg (y *ℤ z)) },
    λ h. record { out = omega (ints, h.out, add_mul x y z, sum (x *ℤ z) (y *ℤ z), neg ((x +ℤ y) *ℤ z), neg (x *ℤ z), neg (y *ℤ z)) },
  )

  pub ndr↔ : Le (neg_ℤ (z *ℤ (x +ℤ y)) ∷ l) a b ↔ Le (neg_ℤ (z *ℤ x) ∷ (neg_ℤ (z *ℤ y) ∷ l)) a b
  unfolding s_p s_m
  ndr↔ = (
    λ h. record { out = omega (ints, h.out, mul_add z x y, sum (z *ℤ x) (z *ℤ y), neg (z *ℤ (x +ℤ y)), neg (z *ℤ x), neg (z *ℤ y)) },
    λ h. record { out = omega (ints, h.out, mul_add z x y, sum (z *ℤ x) (z *ℤ y), neg (z *ℤ (x +ℤ y)), neg (z *ℤ x), neg (z *ℤ y)) },
  )

-- the first that fits is taken, so the special forms come before the general ones
pub ruleset flat = (fits↔, le↔, lt↔, eq↔, neg_neg↔, neg_sum↔, sum↔, dl↔, dr↔, ndl↔, ndr↔, nl↔, nr↔, nnl↔, nnr↔, mul↔, neg_mul↔, neg↔, var↔, nil↔)

-- by contradiction
pub le_by : (x y : ℤ) → (y <ℤ x → ⊥) → x ≤ℤ y
le_by x y h = lt_z_no (not_T (lt_z y x) (λ t. h (lt_z_yes t)))

-- ---- products
pub mul_mono : (k x y : ℤ) → pos 0 ≤ℤ k → x ≤ℤ y → (k *ℤ x) ≤ℤ (k *ℤ y)
mul_mono (pos n) x y h q = simp flat (omega (arith, mul-le-mul_left n (le_read x y q)))
mul_mono (negsuc n) x y h q = absurd h.le

pub mul_anti : (k x y : ℤ) → k ≤ℤ pos 0 → x ≤ℤ y → (k *ℤ y) ≤ℤ (k *ℤ x)
mul_anti (pos n) x y h q = let z : n ≡ 0 = omega ints in simp flat (omega (arith, ap (λ (j : ℕ). j * p x) z, ap (λ (j : ℕ). j * p y) z, ap (λ (j : ℕ). j * m x) z, ap (λ (j : ℕ). j * m y) z))
mul_anti (negsuc n) x y h q = simp flat (omega (arith, mul-le-mul_left (suc n) (le_read x y q)))

-- ---- the lesser and the greater
pub min_is : (a b : ℤ) → p (min_z a b) + (m a + m b) ≡ m (min_z a b) + min (p a + m b) (p b + m a)
unfolding min_z
min_is a b =
    cond_ind (le_z a b) a b (λ z. p z + (m a + m b) ≡ m z + min (p a + m b) (p b + m a))
    (λ t. omega (arith, le_read a b (le_z_yes t))) (λ t. omega (arith, lt_read b a (nle a b t)))

pub max_is : (a b : ℤ) → p (max_z a b) + (m a + m b) ≡ m (max_z a b) + max (p a + m b) (p b + m a)
unfolding max_z
max_is a b =
    cond_ind (le_z a b) b a (λ z. p z + (m a + m b) ≡ m z + max (p a + m b) (p b + m a))
    (λ t. omega (arith, le_read a b (le_z_yes t))) (λ t. omega (arith, lt_read b a (nle a b t)))

module _ (x y : ℤ) (l : List ℤ) (a b : ℕ) where
  pub min↔ : Le (min_z x y ∷ l) a b ↔ Le l (min (p x + m y) (p y + m x) + a) (m x + m y + b)
  unfolding s_p s_m
  min↔ = (λ h. record { out = omega (ints, h.out, min_is x y) }, λ h. record { out = omega (ints, h.out, min_is x y) })

  pub neg_min↔ : Le (neg_ℤ (min_z x y) ∷ l) a b ↔ Le l (m x + m y + a) (min (p x + m y) (p y + m x) + b)
  unfolding s_p s_m
  neg_min↔ = (
    λ h. record { out = omega (ints, h.out, min_is x y, neg (min_z x y)) },
    λ h. record { out = omega (ints, h.out, min_is x y, neg (min_z x y)) },
  )

  pub max↔ : Le (max_z x y ∷ l) a b ↔ Le l (max (p x + m y) (p y + m x) + a) (m x + m y + b)
  unfolding s_p s_m
  max↔ = (λ h. record { out = omega (ints, h.out, max_is x y) }, λ h. record { out = omega (ints, h.out, max_is x y) })

  pub neg_max↔ : Le (neg_ℤ (max_z x y) ∷ l) a b ↔ Le l (m x + m y + a) (max (p x + m y) (p y + m x) + b)
  unfolding s_p s_m
  neg_max↔ = (
    λ h. record { out = omega (ints, h.out, max_is x y, neg (max_z x y)) },
    λ h. record { out = omega (ints, h.out, max_is x y, neg (max_z x y)) },
  )

-- with `min_z` and `max_z` of leaves
pub ruleset flat-min = (min↔, neg_min↔, max↔, neg_max↔, flat)

-- a product lies between the products of the factor's bounds, whatever the other factor's sign
pub span_lo : (a lo hi x : ℤ) → lo ≤ℤ x → x ≤ℤ hi → min_z (a *ℤ lo) (a *ℤ hi) ≤ℤ (a *ℤ x)
span_lo (pos n) lo hi x h k =
    omega (ints, min_is (pos n *ℤ lo) (pos n *ℤ hi), mul-le-mul_left n (le_read lo x h), prod (pos n) lo, prod (pos n) x)
span_lo (negsuc n) lo hi x h k =
    omega (ints, min_is (negsuc n *ℤ lo) (negsuc n *ℤ hi), mul-le-mul_left (suc n) (le_read x hi k), prod (negsuc n) hi, prod (negsuc n) x)

pub span_hi : (a lo hi x : ℤ) → lo ≤ℤ x → x ≤ℤ hi → (a *ℤ x) ≤ℤ max_z (a *ℤ lo) (a *ℤ hi)
span_hi (pos n) lo hi x h k =
    omega (ints, max_is (pos n *ℤ lo) (pos n *ℤ hi), mul-le-mul_left n (le_read x hi k), prod (pos n) hi, prod (pos n) x)
span_hi (negsuc n) lo hi x h k =
    omega (ints, max_is (negsuc n *ℤ lo) (negsuc n *ℤ hi), mul-le-mul_left (suc n) (le_read lo x h), prod (negsuc n) lo, prod (negsuc n) x)

pub abs_le : (x : ℤ) (B : ℕ) → neg_ℤ (pos B) ≤ℤ x → x ≤ℤ pos B → p x + m x ≤ B
abs_le (pos a) B h k = omega ints
abs_le (negsuc a) B h k = omega (ints, neg (pos B))

-- |x| ≤ B and |y| ≤ C: |x y| ≤ B C
pub mul_range : (B C : ℕ) (x y : ℤ) → p x + m x ≤ B → p y + m y ≤ C → p (x *ℤ y) + m (x *ℤ y) ≤ B * C
mul_range B C (pos a) (pos b) h k = le_trans (omega arith) (mul-le-mul h k)
mul_range B C (pos a) (negsuc b) h k = le_trans (omega (arith, neg_is (a * suc b))) (mul-le-mul h k)
mul_range B C (negsuc a) (pos b) h k = le_trans (omega (arith, neg_is (suc a * b))) (mul-le-mul h k)
mul_range B C (negsuc a) (negsuc b) h k = le_trans (omega arith) (mul-le-mul h k)

-- ---- sizes: `p z + m z` is |z|, which loops that add up want
pub size_sum : (x y : ℤ) → size (x +ℤ y) ≤ size x + size y
size_sum (pos a) (pos b) = omega arith
size_sum (pos a) (negsuc b) = sub_size a (suc b)
  where
    sub_size : (a b : ℕ) → size (sub_ℕ a b) ≤ a + 0 + (0 + b)
    sub_size a b =
        cond_ind (ltb a b) (negsuc (b - suc a)) (pos (a - b)) (λ z. size z ≤ a + 0 + (0 + b))
        (λ t. omega (arith, ltb→lt a b t)) (λ t. omega (arith, nltb→le a b t))
size_sum (negsuc a) (pos b) = sub_size b (suc a)
  where
    sub_size : (a b : ℕ) → size (sub_ℕ a b) ≤ 0 + b + (a + 0)
    sub_size a b =
        cond_ind (ltb a b) (negsuc (b - suc a)) (pos (a - b)) (λ z. size z ≤ 0 + b + (a + 0))
        (λ t. omega (arith, ltb→lt a b t)) (λ t. omega (arith, nltb→le a b t))
size_sum (negsuc a) (negsuc b) = omega arith

pub size_min : (x y : ℤ) (B : ℕ) → size x ≤ B → size y ≤ B → size (min_z x y) ≤ B
unfolding min_z
size_min x y B h k = cond_ind (le_z x y) x y (λ z. size z ≤ B) (λ t. h) (λ t. k)

pub size_max : (x y : ℤ) (B : ℕ) → size x ≤ B → size y ≤ B → size (max_z x y) ≤ B
unfolding max_z
size_max x y B h k = cond_ind (le_z x y) y x (λ z. size z ≤ B) (λ t. k) (λ t. h)

pub small : {w : Width} (z : ℤ) → size z < 2 ^ hbits w → SFits w z
small z h = in_range z (omega arith)

pub size_fits : {w : Width} (z : ℤ) → SFits w z → size z ≤ 2 ^ hbits w
size_fits (pos n) h = omega (arith, h.sfits)
size_fits (negsuc n) h = omega (arith, h.sfits)

-- ---- bounds that are put together as the expression is: |z| is at most B. A record, so that z and B are inferred
pub bound_sum : {x y : ℤ} {B C : ℕ} → Bound x B → Bound y C → Bound (x +ℤ y) (B + C)
bound_sum {x} {y} h k = record { at_most = omega (arith, size_sum x y) }

pub bound_neg : {x : ℤ} {B : ℕ} → Bound x B → Bound (neg_ℤ x) B
bound_neg {x = pos zero} h = h
bound_neg {x = pos (suc n)} h = record { at_most = omega arith }
bound_neg {x = negsuc n} h = record { at_most = omega arith }

pub bound_sub : {x y : ℤ} {B C : ℕ} → Bound x B → Bound y C → Bound (x -ℤ y) (B + C)
bound_sub h k = bound_sum h (bound_neg k)

pub bound_mul : {x y : ℤ} {B C : ℕ} → Bound x B → Bound y C → Bound (x *ℤ y) (B * C)
bound_mul {x} {y} {B} {C} h k = record { at_most = mul_range B C x y h.at_most k.at_most }

pub bound_min : {x y : ℤ} {B C : ℕ} → Bound x B → Bound y C → Bound (min_z x y) (max B C)
bound_min {x} {y} {B} {C} h k = record { at_most = size_min x y (max B C) (omega arith) (omega arith) }

pub bound_max : {x y : ℤ} {B C : ℕ} → Bound x B → Bound y C → Bound (max_z x y) (max B C)
bound_max {x} {y} {B} {C} h k = record { at_most = size_max x y (max B C) (omega arith) (omega arith) }

-- where bounds begin: a literal, a type, a pair of orders
pub bound_lit : (z : ℤ) → Bound z (size z)
bound_lit z = record { at_most = omega arith }

pub bound_of : {w : Width} {z : ℤ} → SFits w z → Bound z (2 ^ hbits w)
bound_of {z} h = record { at_most = size_fits z h }

pub bound_in : {z : ℤ} {B : ℕ} → neg_ℤ (pos B) ≤ℤ z → z ≤ℤ pos B → Bound z B
bound_in {z} {B} h k = record { at_most = abs_le z B h k }

pub bound_less : {z : ℤ} {B C : ℕ} → Bound z B → B ≤ C → Bound z C
bound_less h k = record { at_most = omega arith }

-- and their ends: the number fits. `tt` if the bound is a number, `fits_by` if it is not
pub fits : {w : Width} {z : ℤ} {B : ℕ} → Bound z B → T (ltb B (2 ^ hbits w)) → SFits w z
fits {w} {z} {B} h t = small z (omega (arith, ltb→lt B (2 ^ hbits w) t))

pub fits_by : {w : Width} {z : ℤ} {B : ℕ} → Bound z B → B < 2 ^ hbits w → SFits w z
fits_by {z} h t = small z (omega arith)

-- at 64 bits, if nothing else shows the width, as in the list of a `simp`
pub fits64 : {z : ℤ} {B : ℕ} → Bound z B → T (ltb B 9223372036854775808) → SFits w64 z
fits64 h t = fits h t

pub up16 : {z : ℤ} → SFits w16 z → SFits w64 z
up16 h = sfits_widen tt h

pub up32 : {z : ℤ} → SFits w32 z → SFits w64 z
up32 h = sfits_widen tt h

-- a narrow number that was cast to 64 bits
pub from16 : {z : ℤ} → SFits w16 z → to_z w64 (of_z w64 (to_z w16 (of_z w16 z))) ≡ z
from16 h = ap (λ (z : ℤ). to_z w64 (of_z w64 z)) (to_z-of_z h) ∙ to_z-of_z (up16 h)

pub from32 : {z : ℤ} → SFits w32 z → to_z w64 (of_z w64 (to_z w32 (of_z w32 z))) ≡ z
from32 h = ap (λ (z : ℤ). to_z w64 (of_z w64 z)) (to_z-of_z h) ∙ to_z-of_z (up32 h)

-- an element, or what a reference points to: what is given of it is the bound itself
pub told : (w : Width) (z : ℤ) → mag z < 2 ^ hbits w → to_z w (of_z w z) ≡ z
told w z h = to_z-of_z (record { sfits = h })

-- ---- equal bits, as `==` leaves them: of two numbers, b is read back, and of a literal n, `to_z w n` computes
pub bits_is : {w : Width} {a : ℤ} {n : ℕ} → SFits w a → of_z w a ≡ n → a ≡ to_z w n
bits_is {w} h e = sym (to_z-of_z h) ∙ ap (to_z w) e

pub shr_fits : {w : Width} {z : ℤ} (k : ℕ) → SFits w z → SFits w (shr_z z k)
shr_fits {z} k h = sfits_le (mag_shr z k) h

-- b - a if that is positive, else 0: the measure of a loop whose signed counter goes from a up to b
abbrev pub gap : ℤ → ℤ → ℕ
gap a b = (p b + m a) - (p a + m b)

-- ---- cases, for what `omega` does not split by itself
le_or' : (t : Bool) → (T t) ⊎ (T (not t))
le_or' true = inl tt
le_or' false = inr tt

pub le_or_lt : (x y : ℤ) → (x ≤ℤ y) ⊎ (y <ℤ x)
le_or_lt x y = ⊎_elim (λ t. inl (le_z_yes t)) (λ t. inr (nle x y t)) (le_or' (le_z x y))

pub lt_or_gt : (x y : ℤ) → (x ≡ y → ⊥) → (x <ℤ y) ⊎ (y <ℤ x)
lt_or_gt x y n = ⊎_elim (λ h. ⊎_elim (λ k. absurd (n (omega ints))) (λ k. inl k) (le_or_lt y x)) (λ h. inr h) (le_or_lt x y)

-- a number has one part only
pub one_part : (z : ℤ) → (p z ≡ 0) ⊎ (m z ≡ 0)
one_part (pos n) = inr (omega arith)
one_part (negsuc n) = inl (omega arith)

pub square : (x : ℤ) → pos 0 ≤ℤ (x *ℤ x)
square (pos n) = omega ints
square (negsuc n) = omega ints

-- a fact for the list, with its arguments: `omega (ints, ne_read x y n)`
pub ne_read : (x y : ℤ) → (x ≡ y → ⊥) → p x + m y ≢ p y + m x
ne_read x y n e = n (eq_show x y e)

-- what a result that is the lesser or the greater tells
pub min_le : (r x y : ℤ) → r ≡ min_z x y → (r ≤ℤ x) × (r ≤ℤ y)
min_le r x y e = (omega (ints, min_is x y), omega (ints, min_is x y))

pub max_ge : (r x y : ℤ) → r ≡ max_z x y → (x ≤ℤ r) × (y ≤ℤ r)
max_ge r x y e = (omega (ints, max_is x y), omega (ints, max_is x y))

-- ---- bounds of what the machine reads back, so that a need that a result fits is answered as the code is written, with nothing stripped
pub bound_read : {w : Width} {z : ℤ} {B : ℕ} → SFits w z → Bound z B → Bound (to_z w (of_z w z)) B
bound_read {B} h b = subst (λ (z : ℤ). Bound z B) (sym (to_z-of_z h)) b

-- a parameter between -B and B; one whose type bounds it; the result of an operation at 64 bits; a narrow number cast to 64 bits
pub bound_arg : {w : Width} {z : ℤ} {B : ℕ} → SFits w z → neg_ℤ (pos B) ≤ℤ z → z ≤ℤ pos B → Bound (to_z w (of_z w z)) B
bound_arg h a b = bound_read h (bound_in a b)

pub bound_typed : {w : Width} {z : ℤ} → SFits w z → Bound (to_z w (of_z w z)) (2 ^ hbits w)
bound_typed h = bound_read h (bound_of h)

pub op64 : {z : ℤ} {B : ℕ} → Bound z B → T (ltb B 9223372036854775808) → Bound (to_z w64 (of_z w64 z)) B
op64 b t = bound_read (fits64 b t) b
