-- A turn of the definitions for a turn of the code's loops: rounds and halving. Assumes nothing.
use mathlib.Core.Path.{◌≡◌, refl, sym, ap, ◌∙◌}
use mathlib.Core.Bool.{Bool, true, false}
use mathlib.Core.List.{List}
use Prim.Native.Nat.{ℕ, suc, ◌+◌, ◌-◌, ◌/◌, ◌≤◌, ◌<◌}
use native.Mathlib.Omega.{arith}
use native.Mathlib.Nat.{le_refl}
use borrow.Author.Tests.{le-leb, lt-leb}
use lib.Dec.{leb}
use lib.IntN.{ℤ}
use Rattle.integers.proofs.Tests.{pick_yes, pick_no, suc_of}
use Rattle.sheet_spec.specs.Slots.{N}
use Rattle.machine_spec.specs.Box.{trim, hull, within, moved}
use Rattle.machine_spec.specs.Machine.{Machine, vars_of}
use Rattle.machine_spec.specs.Rate.{rates}
use Rattle.machine_spec.proofs.InPlace.{trim_as_hull}
use Rattle.std.specs.declared.result.Result.TheVariants.{Ok, Err}
use Rattle.boxes_step.specs.declared.StepFault.TheVariants.{Unsettled, Exhausted}
use Rattle.boxes_spec.specs.Step.{lifted, settles, end_box, grown, Result, ok, failed, unsettled, retry, is_exhausted, Step, rounds, halving, step}
use Rattle.boxes_spec.proofs.Settled.{settles_one}
use Rattle.boxes_step.specs.StepResult.{Stepped, step_of}

-- ---- a round, as the code works it out: n is the number of variables, r are the rates, and F is the working box E

module _ (m : Machine) (S : List ℤ) (k : ℕ) (E : List ℤ) {n : ℕ} {r F : List ℤ} (q : n ≡ vars_of m) (e : r ≡ rates m S k E) (f : F ≡ E) where
  abbrev M : List ℤ
  M = hull n S (moved n S (k - 1) r)

  lifted_is : M ≡ lifted m S k E
  unfolding lifted
  lifted_is = rw (q, e) refl

  pub settles_is : {t : Bool} → t ≡ within n M F → t ≡ settles m S k E
  unfolding settles
  settles_is p = p ∙ ap (within n M) f ∙ ap (λ (X : List ℤ). within n X E) lifted_is ∙ ap (λ (i : ℕ). within i (lifted m S k E) E) q

  pub grown_is : {B : List ℤ} → B ≡ hull n F M → B ≡ grown m S k E
  unfolding grown
  grown_is p = p ∙ ap (λ (X : List ℤ). hull n X M) f ∙ ap (hull n E) lifted_is ∙ ap (λ (i : ℕ). hull i E (lifted m S k E)) q

  pub grown_trimmed : {B : List ℤ} → vars_of m ≤ N → B ≡ hull n F M → trim (vars_of m) B ≡ B
  grown_trimmed h p = trim_as_hull (vars_of m) F M h (p ∙ ap (λ (i : ℕ). hull i F M) q)

-- a step of one tick settles in its first round
pub settles_first : (m : Machine) (S : List ℤ) (k : ℕ) {E : List ℤ} → vars_of m ≤ N → k ≡ 1 → E ≡ S → settles m S k E ≡ true
settles_first m S k {E} h one e = ap (λ (j : ℕ). settles m S j E) one ∙ (ap (settles m S 1) e ∙ settles_one m S h)

-- ---- rounds

-- eight rounds of k ticks after c rounds, where the loop has taken `taken` of them and has the working box E after d rounds
pub record Rounding (l : Bool) (a : ℕ) (m : Machine) (S : List ℤ) (k c taken : ℕ) (E : List ℤ) (d : ℕ) : Type 0 where
  pub same : rounds l a m S k 8 S c ≡ rounds l a m S k (8 - taken) E d

pub rounding_starts : (l : Bool) (a : ℕ) (m : Machine) {S : List ℤ} (k c : ℕ) {E : List ℤ} → E ≡ S → Rounding l a m S k c 0 E c
rounding_starts l a m {S} k c e = record { same = ap (λ (F : List ℤ). rounds l a m S k 8 F c) (sym e) }

module _ {l : Bool} {a : ℕ} {m : Machine} {S : List ℤ} {k c taken : ℕ} {E : List ℤ} {d : ℕ} (h : Rounding l a m S k c taken E d) where
  pub rounding_ends : (R : List ℤ) → 8 ≤ taken → step_of (vars_of m) S R (Err (Unsettled d)) ≡ rounds l a m S k 8 S c
  unfolding rounds step_of
  rounding_ends R all = let z : 8 - taken ≡ 0 = omega arith in sym (h.same ∙ ap (λ (j : ℕ). rounds l a m S k j E d) z)

  -- a round is due where t is not true
  module _ (some : taken < 8) (t : Bool) (o : t ≡ is_exhausted l a d) where
    turn : rounds l a m S k 8 S c ≡ rounds l a m S k (suc (8 - (taken + 1))) E d
    turn = let z : 8 - taken ≡ suc (8 - (taken + 1)) = omega arith in h.same ∙ ap (λ (j : ℕ). rounds l a m S k j E d) z

    pub rounding_exhausted : (R : List ℤ) → t ≡ true → step_of (vars_of m) S R (Err (Exhausted d)) ≡ rounds l a m S k 8 S c
    unfolding rounds step_of
    rounding_exhausted R e = sym (turn ∙ pick_yes (is_exhausted l a d) _ _ (sym o ∙ e))

    -- the round has settled where u is true
    module _ (due : t ≡ false) (u : Bool) (q : u ≡ settles m S k E) where
      -- with the rates R
      pub rounding_settles : (R : List ℤ) → R ≡ rates m S k E → u ≡ true → step_of (vars_of m) S R (Ok (record { ticks = k; count = d + 1 })) ≡ rounds l a m S k 8 S c
      unfolding rounds step_of end_box
      rounding_settles R r e =
          ap (λ (Q : List ℤ). ok (record { ticks = k; end = moved (vars_of m) S k Q }) (d + 1)) r
          ∙ sym (turn ∙ pick_no (is_exhausted l a d) _ _ (sym o ∙ due) ∙ pick_yes (settles m S k E) _ _ (sym q ∙ e))

      -- with the next working box B
      pub rounding_on : (B : List ℤ) → B ≡ grown m S k E → u ≡ false → Rounding l a m S k c (taken + 1) B (d + 1)
      unfolding rounds
      rounding_on B b e = record {
        same = turn ∙ pick_no (is_exhausted l a d) _ _ (sym o ∙ due) ∙ pick_no (settles m S k E) _ _ (sym q ∙ e)
            ∙ ap (λ (F : List ℤ). rounds l a m S k (8 - (taken + 1)) F (d + 1)) (sym b);
      }

-- ---- the halving

-- a step of w ticks after c rounds, where the loop has come to k ticks after d rounds
pub record Halving (l : Bool) (a : ℕ) (m : Machine) (S : List ℤ) (w c k d : ℕ) : Type 0 where
  pub some : 0 < k
  pub fuel : ℕ
  pub enough : k ≤ fuel
  pub same : step l a m S w c ≡ halving l a m S fuel k d

pub halving_starts : (l : Bool) (a : ℕ) (m : Machine) (S : List ℤ) (w c : ℕ) → 0 < w → Halving l a m S w c w c
unfolding step
halving_starts l a m S w c z = record { some = z; fuel = w; enough = le_refl w; same = refl }

-- eight rounds came to r, with the rates R
module _ {l : Bool} {a : ℕ} {m : Machine} {S : List ℤ} {w c k d : ℕ} (h : Halving l a m S w c k d) (r : Stepped) (R : List ℤ) (e : step_of (vars_of m) S R r ≡ rounds l a m S k 8 S d) where
  abbrev half : ℕ → Result Step
  half i = elim (leb k 1) [ true ↦ failed unsettled i | false ↦ halving l a m S (h.fuel - 1) (k / 2) i ]

  half_turn : step l a m S w c ≡ retry (step_of (vars_of m) S R r) half
  unfolding halving
  half_turn = h.same ∙ ap (λ (j : ℕ). halving l a m S j k d) (suc_of h.fuel (omega (arith, h.some, h.enough))) ∙ ap (λ (g : Result Step). retry g half) (sym e)

  pub halving_ends : ((i : ℕ) → r ≡ Err (Unsettled i) → ⊥) → step_of (vars_of m) S R r ≡ step l a m S w c
  unfolding step_of retry
  halving_ends n = sym (half_turn ∙ ends r n)
    where
      ends : (o : Stepped) → ((i : ℕ) → o ≡ Err (Unsettled i) → ⊥) → retry (step_of (vars_of m) S R o) half ≡ step_of (vars_of m) S R o
      ends (Ok s) n = refl
      ends (Err (Unsettled i)) n = absurd (n i refl)
      ends (Err (Exhausted i)) n = refl

  module _ (i : ℕ) (q : r ≡ Err (Unsettled i)) where
    halved : step l a m S w c ≡ half i
    unfolding step_of retry
    halved = half_turn ∙ ap (λ (o : Stepped). retry (step_of (vars_of m) S R o) half) q

    pub halving_finest : k ≤ 1 → step_of (vars_of m) S R r ≡ step l a m S w c
    unfolding step_of
    halving_finest z = ap (step_of (vars_of m) S R) q ∙ sym (halved ∙ pick_yes (leb k 1) _ _ (le-leb k 1 z))

    pub halving_on : 1 < k → Halving l a m S w c (k / 2) i
    halving_on z = record { some = omega arith; fuel = h.fuel - 1; enough = omega (arith, h.enough); same = halved ∙ pick_no (leb k 1) _ _ (lt-leb k 1 z) }
