-- The laws of refusals: of `unless_refused`, of `first_refusal` and of the causes' numbers. Assumes nothing.
use mathlib.Core.Path.{◌≡◌, refl, sym}
use mathlib.Core.Bool.{Bool, true, false}
use mathlib.Core.Logic.{⊎_elim}
use Prim.Native.Nat.{ℕ, zero, suc, ◌+◌, ◌-◌, ◌≤◌, ◌<◌}
use native.Mathlib.Omega.{arith}
use native.Mathlib.Numerals.{add-one}
use native.Mathlib.Nat.{zero-add, suc-add, eq-or-lt_of_le}
use Rattle.sheet_spec.specs.declared.refusals.Refusal.{Refusal}
use Rattle.sheet_spec.specs.Refusals.{Cause, number, refusal_number, refuse_unless, first_refusal, greatest_number, unless_refused}
use Rattle.sheet_spec.proofs.Streams.{Each}

-- ---- a refusal, or going on

module _ {A : Type 0} (refuse : ℕ → A) (go : A) where
  pub goes_on : {r : ℕ} → r ≡ 0 → unless_refused r refuse go ≡ go
  unfolding unless_refused
  goes_on e = rw e refl

  pub stops : {r : ℕ} → (r ≡ 0 → ⊥) → unless_refused r refuse go ≡ refuse r
  unfolding unless_refused
  stops {r} = by r
    where
      by : (r : ℕ) → (r ≡ 0 → ⊥) → unless_refused r refuse go ≡ refuse r
      by zero h = absurd (h refl)
      by (suc r) h = refl

  -- a refusal r, else a refusal s
  pub stops_either : (r s : ℕ) → unless_refused (unless_refused r (λ c. c) s) refuse go ≡ unless_refused r refuse (unless_refused s refuse go)
  unfolding unless_refused
  stops_either zero s = refl
  stops_either (suc r) s = refl

pub either_none : (r : ℕ) → unless_refused r (λ c. c) 0 ≡ r
unfolding unless_refused
either_none zero = refl
either_none (suc r) = refl

pub none_either : (r s : ℕ) → unless_refused r (λ c. c) s ≡ 0 → (r ≡ 0) × (s ≡ 0)
unfolding unless_refused
none_either zero s e = (refl, e)
none_either (suc r) s e = let z : ⊥ = omega arith in absurd z

pub either_most : (r s : ℕ) {most : ℕ} → r ≤ most → s ≤ most → unless_refused r (λ c. c) s ≤ most
unfolding unless_refused
either_most zero s l h = h
either_most (suc r) s l h = l

-- a number that the first refusal does not reach comes from the second
pub either_last : (r s c : ℕ) → r < c → unless_refused r (λ c. c) s ≡ c → (r ≡ 0) × (s ≡ c)
unfolding unless_refused
either_last zero s c l e = (refl, e)
either_last (suc r) s c l e = let z : ⊥ = omega arith in absurd z

-- ---- the first refusal

module _ (h : ℕ → ℕ) where
  -- where the first j pass, the next decides
  pub first_next : (j c : ℕ) → first_refusal h j ≡ 0 → c ≡ h j → first_refusal h (j + 1) ≡ c
  unfolding first_refusal unless_refused
  first_next j c z e = rw (add-one j, z, first_refusal) (sym e)

  keep : (d j c : ℕ) → first_refusal h j ≡ suc c → first_refusal h (d + j) ≡ suc c
  unfolding first_refusal unless_refused
  keep zero j c e = rw (zero-add j) e
  keep (suc d) j c e = rw (suc-add d j, keep d j c e, first_refusal)

  -- and a refusal stays
  pub first_keep : (j k c : ℕ) → j ≤ k → (c ≡ 0 → ⊥) → first_refusal h j ≡ c → c ≡ first_refusal h k
  first_keep j k zero l n e = absurd (n refl)
  first_keep j k (suc c) l n e = let d : k - j + j ≡ k = omega arith in sym (rw d at (keep (k - j) j c e))

  -- there is none if none refuses
  pub first_none : (k : ℕ) → first_refusal h k ≡ 0 → Each (λ c. c ≡ 0) h k
  unfolding first_refusal
  first_none zero e = record { at = λ j l. absurd (let z : ⊥ = omega arith in z) }
  first_none (suc k) e =
      let b = none_either (first_refusal h k) (h k) e in
      record { at = λ j l. ⊎_elim (λ (q : j ≡ k). rw q b.1) (λ (q : j < k). (first_none k b.0).at j q) (let m : j ≤ k = omega arith in eq-or-lt_of_le m) }

  pub none_first : (k : ℕ) → Each (λ c. c ≡ 0) h k → first_refusal h k ≡ 0
  unfolding first_refusal unless_refused
  none_first zero a = refl
  none_first (suc k) a = rw (none_first k (record { at = λ j l. a.at j (omega arith) }), first_refusal) (a.at k (omega arith))

  pub first_most : {most : ℕ} (k : ℕ) → ((j : ℕ) → j < k → h j ≤ most) → first_refusal h k ≤ most
  unfolding first_refusal
  first_most zero a = omega arith
  first_most (suc k) a = either_most (first_refusal h k) (h k) (first_most k (λ j l. a j (omega arith))) (a k (omega arith))

-- ---- causes

-- the numbers of the causes lie from 1 to the greatest
pub number_range : (c : Cause) → (1 ≤ number c) × (number c ≤ greatest_number)
number_range Cause.head = (omega arith, omega arith)
number_range Cause.counts = (omega arith, omega arith)
number_range Cause.times = (omega arith, omega arith)
number_range Cause.commands = (omega arith, omega arith)
number_range Cause.length = (omega arith, omega arith)
number_range Cause.cap = (omega arith, omega arith)
number_range Cause.mark = (omega arith, omega arith)
number_range Cause.edge = (omega arith, omega arith)
number_range Cause.safety = (omega arith, omega arith)
number_range Cause.row = (omega arith, omega arith)
number_range Cause.side = (omega arith, omega arith)
number_range Cause.question = (omega arith, omega arith)
number_range Cause.allowance = (omega arith, omega arith)
number_range Cause.command = (omega arith, omega arith)
number_range Cause.start = (omega arith, omega arith)
number_range Cause.reach = (omega arith, omega arith)
number_range Cause.room = (omega arith, omega arith)
number_range Cause.order = (omega arith, omega arith)
number_range Cause.overlap = (omega arith, omega arith)

pub number_is : (c : Cause) → number c ≡ 0 → ⊥
number_is c e = omega (arith, (number_range c).0)

-- and so do those of the refusals
pub refused : (r : Refusal) → refusal_number r ≡ 0 → ⊥
refused r e = grind arith

pub unless_zero : (b : Bool) (c : Cause) → refuse_unless b c ≡ 0 → b ≡ true
unless_zero true c e = refl
unless_zero false c e = absurd (number_is c e)

pub unless_below : (b : Bool) (c : Cause) {most : ℕ} → number c ≤ most → refuse_unless b c ≤ most
unless_below true c h = omega arith
unless_below false c h = h

pub unless_most : (b : Bool) (c : Cause) → refuse_unless b c ≤ greatest_number
unless_most b c = unless_below b c (number_range c).1
