-- A range's `contains` of floats, whose ends are finite, is the test by exact values: a NaN lies nowhere. Assumes nothing.
use mathlib.Core.Path.{◌≡◌, refl, sym, ap, ap₂, ◌∙◌, subst}
use mathlib.Core.Bool.{Bool, true, false, not, cond, ◌&&◌, ◌||◌, true≢false}
use lib.Dec.{T}
use lib.Ieee.{Float, nan, inf, fin, binary32, fits, is_nan, lt, le, eq, ne}
use lib.Ieee.Compare.{differs_from_itself, nan_differs}
use Rattle.std.specs.Float.{NotNan}
use Rattle.std.specs.Ordering.{float_partial_cmp, partial_le, is_some_and}
use Rattle.std.proofs.Common.{is_le, Some, None, Less, Equal, Greater}
use Rattle.std.proofs.lemmas.Float.{le_right, lt_irrefl, lt_of_lt_of_le, lt_of_not-le, T_from_true, T_from_false}
use Rattle.readings_spec.specs.Exact.{finite, scaled, between}
use Rattle.readings_spec.proofs.Exact.{not_number, too_low, too_high, inside_both}

-- the order that the library compares by
pub le_is : (x y : Float) → partial_le float_partial_cmp x y ≡ le x y
unfolding le
le_is x y = by (lt x y) (eq x y) (lt y x)
  where
    by : (a b c : Bool) → is_some_and is_le (cond a (Some Less) (cond b (Some Equal) (cond c (Some Greater) None))) ≡ a || b
    by true b c = refl
    by false true c = refl
    by false false true = refl
    by false false false = refl

-- of two numbers one is at most the other where it is not greater
tells : (x y : Float) → NotNan x → NotNan y → le x y ≡ not (lt y x)
tells x y nx ny = by (le x y) (lt y x) refl refl
  where
    by : (a b : Bool) → le x y ≡ a → lt y x ≡ b → a ≡ not b
    by true true e f = absurd (lt_irrefl y (lt_of_lt_of_le y x y (T_from_true (lt y x) f) (T_from_true (le x y) e)))
    by true false e f = refl
    by false true e f = refl
    by false false e f = absurd (subst T f (lt_of_not-le x y nx ny (T_from_false (le x y) e)))

-- no float is less than itself
pub not_below : (x : Float) → lt x x ≡ false
not_below x = by (lt x x) refl
  where
    by : (b : Bool) → lt x x ≡ b → b ≡ false
    by true e = absurd (lt_irrefl x (T_from_true (lt x x) e))
    by false e = refl

finite_number : (x : Float) → T (finite x) → NotNan x
unfolding finite is_nan
finite_number nan k = absurd k
finite_number (inf s) k = tt
finite_number (fin s m e) k = tt

differs : (x : Float) → is_nan x ≡ true → ne x x ≡ true
unfolding is_nan
differs nan n = nan_differs
differs (inf s) n = absurd (true≢false (sym n))
differs (fin s m e) n = absurd (true≢false (sym n))

equals : (x : Float) → is_nan x ≡ false → ne x x ≡ false
unfolding is_nan
equals x n = by (ne x x) refl
  where
    by : (b : Bool) → ne x x ≡ b → b ≡ false
    by true e = absurd (true≢false (sym (ap is_nan (differs_from_itself x (T_from_true (ne x x) e))) ∙ n))
    by false e = refl

module _ (least greatest x : Float) (fl : T (fits binary32 least)) (fg : T (fits binary32 greatest)) (fx : T (fits binary32 x)) (kl : T (finite least)) (kg : T (finite greatest)) where
  abbrev inside : Bool
  inside = between (scaled least) (scaled greatest) x

  pub within : le least x && le x greatest ≡ inside
  within = by (is_nan x) refl
    where
      none : is_nan x ≡ true → (b : Bool) → le least x ≡ b → b && le x greatest ≡ false
      none n true e = absurd (let h : NotNan x = le_right least x (T_from_true (le least x) e) in subst (λ (b : Bool). T (not b)) n h)
      none n false e = refl

      ends : is_nan x ≡ false → (a b : Bool) → lt x least ≡ a → lt greatest x ≡ b → not a && not b ≡ inside
      ends n true b e f = sym (too_low least greatest x fl fg fx kl kg e)
      ends n false true e f = sym (too_high least greatest x fl fg fx kl kg f)
      ends n false false e f = sym (inside_both least greatest x fl fg fx kl kg (equals x n) e f)

      by : (b : Bool) → is_nan x ≡ b → le least x && le x greatest ≡ inside
      by true n = none n (le least x) refl ∙ sym (not_number least greatest x fl fg fx kl kg (differs x n))
      by false n =
          let number : NotNan x = T_from_false (is_nan x) n in
          ap₂ (λ (a b : Bool). a && b) (tells least x (finite_number least kl) number) (tells x greatest number (finite_number greatest kg))
          ∙ ends n (lt x least) (lt greatest x) refl refl
