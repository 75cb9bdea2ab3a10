-- One product for a term: in an interval that is not empty a coefficient's outer product is that with one end, by the coefficient's sign.
-- Assumes nothing.
use mathlib.Core.Path.{◌≡◌, refl}
use mathlib.Core.Bool.{Bool, true, false, cond}
use lib.IntN.{ℤ, pos, ◌*ℤ◌}
use lib.Signed.{lt_z, ◌≤ℤ◌}
use Rattle.integers.proofs.Z.{ints, lt_true, lt_false, min_is, max_is, mul_mono, mul_anti}
use Rattle.machine_spec.specs.Rate.{outer}
use Rattle.machine_spec.proofs.Face.{cond_one}
use Rattle.boxes_rates.specs.Limits.{outer_end}

-- what holds of both ends holds of this one
pub outer_end_one : {A : Type 0} (P : A → Type 0) (up : Bool) (a : ℤ) {l h : A} → P l → P h → P (outer_end up a l h)
unfolding outer_end
outer_end_one P false a l h = cond_one P (lt_z a (pos 0)) h l
outer_end_one P true a l h = cond_one P (lt_z a (pos 0)) l h

-- the end that is chosen, however the code comes by the two
pub same_end : {A : Type 0} (up : Bool) (r : A) (a b : ℤ) (l x h y : A) → r ≡ outer_end up b x y → b ≡ a → x ≡ l → y ≡ h → r ≡ outer_end up a l h
same_end up r a b l x h y is d e f = rw (d, e, f) at is

module _ {A : Type 0} (a : ℤ) (f : A → ℤ) (x y : A) (o : f x ≤ℤ f y) where
  negative : lt_z a (pos 0) ≡ true → (a *ℤ f y) ≤ℤ (a *ℤ f x)
  negative e = mul_anti a (f x) (f y) (let h = lt_true a (pos 0) e in omega (ints, h)) o

  positive : lt_z a (pos 0) ≡ false → (a *ℤ f x) ≤ℤ (a *ℤ f y)
  positive e = mul_mono a (f x) (f y) (lt_false a (pos 0) e) o

  -- THE OUTER PRODUCT is that with this end
  pub outer_product : (up : Bool) → (a *ℤ f (outer_end up a x y)) ≡ outer up (a *ℤ f x) (a *ℤ f y)
  unfolding outer_end outer
  outer_product false = by (lt_z a (pos 0)) refl
    where
      by : (t : Bool) → lt_z a (pos 0) ≡ t → (a *ℤ f (cond t y x)) ≡ outer false (a *ℤ f x) (a *ℤ f y)
      by true e = omega (ints, negative e, min_is (a *ℤ f x) (a *ℤ f y))
      by false e = omega (ints, positive e, min_is (a *ℤ f x) (a *ℤ f y))
  outer_product true = by (lt_z a (pos 0)) refl
    where
      by : (t : Bool) → lt_z a (pos 0) ≡ t → (a *ℤ f (cond t x y)) ≡ outer true (a *ℤ f x) (a *ℤ f y)
      by true e = omega (ints, negative e, max_is (a *ℤ f x) (a *ℤ f y))
      by false e = omega (ints, positive e, max_is (a *ℤ f x) (a *ℤ f y))
