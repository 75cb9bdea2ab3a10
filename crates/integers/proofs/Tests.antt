-- A choice by a test whose outcome is known. Assumes nothing.
use mathlib.Core.Path.{◌≡◌, refl, sym, subst}
use mathlib.Core.Bool.{Bool, true, false}
use Prim.Native.Nat.{ℕ, suc, ◌-◌, ◌<◌}
use native.Mathlib.Omega.{arith}

pub pick_yes : {A : Type 0} (b : Bool) (x y : A) → b ≡ true → (elim b as (λ _. A) [ true ↦ x | false ↦ y ]) ≡ x
pick_yes {A} b x y e = subst (λ (t : Bool). (elim t as (λ _. A) [ true ↦ x | false ↦ y ]) ≡ x) (sym e) refl

pub pick_no : {A : Type 0} (b : Bool) (x y : A) → b ≡ false → (elim b as (λ _. A) [ true ↦ x | false ↦ y ]) ≡ y
pick_no {A} b x y e = subst (λ (t : Bool). (elim t as (λ _. A) [ true ↦ x | false ↦ y ]) ≡ y) (sym e) refl

-- a number that is not 0 has one before it
pub suc_of : (n : ℕ) → 0 < n → n ≡ suc (n - 1)
suc_of n h = omega arith
