-- What an allowance does: a stage with the allowance A gives what it gives with none where that counts at most A rounds, and is out of rounds at A where it
-- counts more. Counts only grow, so what comes after does not change this. Assumes nothing.
use mathlib.Core.Path.{◌≡◌, refl}
use mathlib.Core.Bool.{Bool, true, false}
use mathlib.Core.List.{List}
use Prim.Native.Nat.{ℕ, zero, suc, ◌+◌, ◌-◌, ◌/◌, ◌≤◌, ◌<◌, min}
use native.Mathlib.Nat.{le_refl, le_trans, lt_of_lt_of_le}
use native.Mathlib.Omega.{arith}
use lib.Dec.{leb, eqb}
use lib.IntN.{ℤ}
use borrow.Author.Tests.{eqb-true, eqb-false}
use Rattle.machine_spec.specs.Box.{hull}
use Rattle.machine_spec.specs.Machine.{Machine, vars_of}
use Rattle.boxes_spec.specs.Step.{settles, grown, Failure, Result, ok, failed, exhausted, and_then, retry, is_exhausted, rounds, halving, step, swept}
use Rattle.boxes_spec.specs.Reach.{tested_step, steps, reach}
use Rattle.boxes_spec.proofs.Count.{count}

-- what a stage gives with the allowance A, and what it gives with none
pub data Cut (A : ℕ) {X : Type 0} : Result X → Result X → Type 0 where
  value : {x : X} {c : ℕ} → c ≤ A → Cut A (ok x c) (ok x c)
  failure : {why : Failure} {c : ℕ} → c ≤ A → Cut A (failed why c) (failed why c)
  spent : {whole : Result X} → A < count whole → Cut A (exhausted A) whole

-- the same for a stage that starts with the count c
pub record CutFrom (A c : ℕ) {X : Type 0} (cut whole : Result X) : Type 0 where
  pub grows : c ≤ count whole
  pub cuts : c ≤ A → Cut A cut whole

-- ---- how it goes through a value, a failure, a test, a round, `and_then` and `retry`

module _ {A c : ℕ} {X : Type 0} where
  pub cut_value : {x : X} → CutFrom A c (ok x c) (ok x c)
  cut_value = record { grows = le_refl c; cuts = value }

  pub cut_failure : {why : Failure} → CutFrom A c {X = X} (failed why c) (failed why c)
  cut_failure = record { grows = le_refl c; cuts = failure }

  pub cut_if : (t : Bool) {g g' h h' : Result X} → CutFrom A c g g' → CutFrom A c h h' → CutFrom A c {X = X} (elim t [ true ↦ g | false ↦ h ]) (elim t [ true ↦ g' | false ↦ h' ])
  cut_if true k n = k
  cut_if false k n = n

  -- a round, if one is left: then the stage g, which has counted it
  pub cut_round : {g g' : Result X} → CutFrom A (c + 1) g g' → CutFrom A c {X = X} (elim (is_exhausted true A c) [ true ↦ exhausted c | false ↦ g ]) (elim (is_exhausted false 0 c) [ true ↦ exhausted c | false ↦ g' ])
  unfolding is_exhausted
  cut_round {g} {g'} k = record { grows = omega (arith, k.grows); cuts = by (eqb c A) refl }
    where
      by : (t : Bool) → eqb c A ≡ t → c ≤ A → Cut A (elim t [ true ↦ exhausted c | false ↦ g ]) g'
      by true e h = let q = eqb-true c A e in rw q (spent {whole = g'} (omega (arith, k.grows)))
      by false e h = let n = eqb-false c A e in k.cuts (omega arith)

module _ {A : ℕ} {X Y : Type 0} (k k' : X → ℕ → Result Y) (next : (x : X) (c : ℕ) → CutFrom A c (k x c) (k' x c)) where
  then_grows : (g : Result X) → count g ≤ count (and_then g k')
  unfolding and_then
  then_grows (ok x c) = (next x c).grows
  then_grows (failed why c) = le_refl c
  then_grows (exhausted c) = le_refl c

  then_cut : {g g' : Result X} → Cut A g g' → Cut A (and_then g k) (and_then g' k')
  unfolding and_then
  then_cut (value {x = x} {c = c} h) = (next x c).cuts h
  then_cut (failure h) = failure h
  then_cut (spent {whole = g} h) = spent (lt_of_lt_of_le h (then_grows g))

  pub cut_then : {c : ℕ} {g g' : Result X} → CutFrom A c g g' → CutFrom A c (and_then g k) (and_then g' k')
  cut_then {g'} n = record { grows = le_trans n.grows (then_grows g'); cuts = λ h. then_cut (n.cuts h) }

module _ {A : ℕ} {X : Type 0} (k k' : ℕ → Result X) (next : (c : ℕ) → CutFrom A c (k c) (k' c)) where
  else_grows : (g : Result X) → count g ≤ count (retry g k')
  unfolding retry
  else_grows (ok x c) = le_refl c
  else_grows (failed why c) = (next c).grows
  else_grows (exhausted c) = le_refl c

  else_cut : {g g' : Result X} → Cut A g g' → Cut A (retry g k) (retry g' k')
  unfolding retry
  else_cut (value h) = value h
  else_cut (failure {c = c} h) = (next c).cuts h
  else_cut (spent {whole = g} h) = spent (lt_of_lt_of_le h (else_grows g))

  pub cut_else : {c : ℕ} {g g' : Result X} → CutFrom A c g g' → CutFrom A c (retry g k) (retry g' k')
  cut_else {g'} n = record { grows = le_trans n.grows (else_grows g'); cuts = λ h. else_cut (n.cuts h) }

-- ---- the stages

module _ (A : ℕ) (m : Machine) (S : List ℤ) where
  rounds_cut : (k left : ℕ) (E : List ℤ) (c : ℕ) → CutFrom A c (rounds true A m S k left E c) (rounds false 0 m S k left E c)
  unfolding rounds
  rounds_cut k zero E c = cut_failure
  rounds_cut k (suc left) E c = cut_round (cut_if (settles m S k E) cut_value (rounds_cut k left (grown m S k E) (c + 1)))

  halving_cut : (fuel k c : ℕ) → CutFrom A c (halving true A m S fuel k c) (halving false 0 m S fuel k c)
  unfolding halving
  halving_cut zero k c = cut_failure
  halving_cut (suc fuel) k c = cut_else _ _ (λ c'. cut_if (leb k 1) cut_failure (halving_cut fuel (k / 2) c')) (rounds_cut k 8 S c)

  pub step_cut : (k c : ℕ) → CutFrom A c (step true A m S k c) (step false 0 m S k c)
  unfolding step
  step_cut k c = halving_cut k k c

module _ (A : ℕ) (m : Machine) (clear : List ℤ → Bool) (w : ℕ) where
  leg_cut : (S : List ℤ) (left c : ℕ) → CutFrom A c (tested_step true A m clear w S left c) (tested_step false 0 m clear w S left c)
  unfolding tested_step
  leg_cut S left c = cut_then _ _ (λ t c'. cut_if (clear (swept m S t)) cut_value cut_failure) (step_cut A m S (min w left) c)

  walk_cut : (fuel : ℕ) (S W : List ℤ) (left c : ℕ) → CutFrom A c (steps true A m clear w fuel S W left c) (steps false 0 m clear w fuel S W left c)
  unfolding steps
  walk_cut zero S W left c = cut_failure
  walk_cut (suc fuel) S W left c =
      cut_if (leb left 0) cut_value
      (cut_then _ _ (λ t c'. walk_cut fuel t.end (hull (vars_of m) W (swept m S t)) (left - t.ticks) c') (leg_cut S left c))

  pub reach_cut : (S : List ℤ) (ticks c : ℕ) → CutFrom A c (reach true A m clear w S ticks c) (reach false 0 m clear w S ticks c)
  unfolding reach
  reach_cut S ticks c = walk_cut (suc ticks) S S ticks c
