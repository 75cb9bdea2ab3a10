-- Where the value of each stage comes from, and how far its count goes: one induction over each recursion. What is true of
-- steps and reaches (soundness, ranges, order) goes by this. Assumes nothing.
use mathlib.Core.Path.{◌≡◌, refl, ap, subst}
use mathlib.Core.Bool.{Bool, true, false}
use mathlib.Core.List.{List}
use Prim.Native.Nat.{ℕ, zero, suc, ◌+◌, ◌*◌, ◌-◌, ◌/◌, ◌^◌, ◌≤◌, ◌<◌, min}
use native.Mathlib.Nat.{le_refl, mul-le-mul_left}
use native.Mathlib.Omega.{arith}
use lib.Dec.{leb}
use lib.IntN.{ℤ, pos, ◌+ℤ◌, ◌*ℤ◌}
use borrow.Author.Tests.{leb-true, leb-false}
use Rattle.integers.proofs.Z.{ints, flat}
use Rattle.sheet_spec.specs.Slots.{N}
use Rattle.machine_spec.specs.Box.{side, hull}
use Rattle.machine_spec.specs.Machine.{Machine, vars_of}
use Rattle.machine_spec.specs.Rate.{rates}
use Rattle.sheet_spec.proofs.Box.{differ}
use Rattle.machine_spec.proofs.Face.{beyond_refl}
use Rattle.machine_spec.proofs.Inside.{moved_side_lem, inside_refl, hull_least, inside_within}
use Rattle.boxes_spec.specs.Step.{lifted, settles, end_box, grown, Failure, unsafe, Result, ok, failed, and_then, Step, rounds, halving, step, swept}
use Rattle.boxes_spec.specs.Reach.{Reached, tested_step, steps, reach}
use Rattle.boxes_spec.proofs.Stages.{Takes, Failed, has_failure, value, failure, counted_none, counted_less, takes_map, takes_then, takes_retry, takes_if, takes_round}

-- ---- steps

-- the working boxes of a step of length k from S
pub data Working (m : Machine) (S : List ℤ) (k : ℕ) : List ℤ → Type 0 where
  starts : Working m S k S
  grows : {E : List ℤ} → Working m S k E → Working m S k (grown m S k E)

-- the step t from S, of a length from 1 to k, comes from a round that settled
pub record Settled (m : Machine) (S : List ℤ) (k : ℕ) (t : Step) : Type 0 where
  pub some : 0 < t.ticks
  pub most : t.ticks ≤ k
  pub E : List ℤ
  pub working : Working m S t.ticks E
  pub settled : settles m S t.ticks E ≡ true
  pub end : t.end ≡ end_box m S t.ticks E

pub settled_less : {m : Machine} {S : List ℤ} {j k : ℕ} {t : Step} → j ≤ k → Settled m S j t → Settled m S k t
settled_less h s = record { some = s.some; most = omega (arith, s.most); E = s.E; working = s.working; settled = s.settled; end = s.end }

-- moved by nothing
pub still : (a b : ℤ) → a +ℤ pos 0 *ℤ b ≡ a
still a b = simp flat (omega ints)

-- a length of 1 settles in its first round: M is the start box
pub settles_one : (m : Machine) (S : List ℤ) → vars_of m ≤ N → settles m S 1 S ≡ true
unfolding settles lifted
settles_one m S room = inside_within (hull_least room S _ (inside_refl S) (record { at = λ up i h. rw (moved_side_lem (vars_of m) i room h up S 0 (rates m S 1 S), still (side up S i) _) (beyond_refl up (side up S i)) }))

-- every length is below some power of 2
pub below_power : (k : ℕ) → k < 2 ^ suc k
below_power zero = omega arith
below_power (suc k) = omega (arith, below_power k)

-- ---- the recursions, and how many rounds they take

module _ (l : Bool) (a : ℕ) (m : Machine) (S : List ℤ) where
  pub rounds_take : (k left : ℕ) (E : List ℤ) (c : ℕ) → 0 < k → Working m S k E → Takes l a c left (Settled m S k) (λ why. Unit) (rounds l a m S k left E c)
  unfolding rounds
  rounds_take k zero E c z w = failure tt (counted_none c)
  rounds_take k (suc left) E c z w =
      takes_round _
      (takes_if (settles m S k E) _ _
      (λ s. value (record { some = z; most = le_refl k; E = E; working = w; settled = s; end = refl }) (counted_less (omega arith) (counted_none (c + 1))))
      (λ s. rounds_take k left (grown m S k E) (c + 1) z (grows w)))

  -- a length of 1 takes one round
  pub rounds_one : vars_of m ≤ N → (left c : ℕ) → Takes l a c 1 (Settled m S 1) (λ why. ⊥) (rounds l a m S 1 (suc left) S c)
  unfolding rounds
  rounds_one room left c =
      takes_round _
      (takes_if (settles m S 1 S) _ _
      (λ s. value (record { some = omega arith; most = le_refl 1; E = S; working = starts; settled = s; end = refl }) (counted_none (c + 1)))
      (λ s. absurd (differ (settles_one m S room) s)))

  -- a step of a length below 2^(e + 1) takes at most 8·e + 1 rounds, and settles
  pub halving_takes : vars_of m ≤ N → (fuel k c e : ℕ) → 0 < k → k ≤ fuel → k < 2 ^ suc e → Takes l a c (8 * e + 1) (Settled m S k) (λ why. ⊥) (halving l a m S fuel k c)
  unfolding halving
  halving_takes room zero k c e z f h = absurd (omega arith)
  halving_takes room (suc fuel) zero c e z f h = absurd (omega arith)
  halving_takes room (suc fuel) (suc zero) c e z f h = takes_retry {d = 0} _ (omega arith) (rounds_one room 7 c) (λ why c' b. absurd b)
  halving_takes room (suc fuel) (suc (suc k)) c zero z f h = absurd (omega arith)
  halving_takes room (suc fuel) (suc (suc k)) c (suc e) z f h =
      takes_retry _ (omega arith) (rounds_take (suc (suc k)) 8 S c z starts)
      (λ why c' _. takes_if (leb (suc (suc k)) 1) _ _ (λ l. absurd (omega (arith, leb-true (suc (suc k)) 1 l)))
      (λ l. takes_map (le_refl (8 * e + 1)) (λ t s. settled_less (omega arith) s) (λ why b. b) (halving_takes room fuel (suc (suc k) / 2) c' e (omega arith) (omega arith) (omega arith))))

  pub step_takes : vars_of m ≤ N → (k c e : ℕ) → 0 < k → k < 2 ^ suc e → Takes l a c (8 * e + 1) (Settled m S k) (λ why. ⊥) (step l a m S k c)
  unfolding step
  step_takes room k c e z h = halving_takes room k k c e z (le_refl k) h

-- ---- the reach

-- how far a reach has come: the box of its next step, the hull of the swept boxes so far, the ticks left
pub record Place : Type 0 where
  pub box : List ℤ
  pub swept : List ℤ
  pub left : ℕ

-- before the first step of a reach, and after its last
abbrev pub first_place : List ℤ → ℕ → Place
first_place S ticks = record { box = S; swept = S; left = ticks }

abbrev pub last_place : Reached → Place
last_place r = record { box = r.end; swept = r.swept; left = 0 }

-- the place after a step
abbrev pub after_step : Machine → Place → Step → Place
after_step m p t = record { box = t.end; swept = hull (vars_of m) p.swept (swept m p.box t); left = p.left - t.ticks }

-- from p, steps that are clear lead to q
pub data StepsTo (m : Machine) (clear : List ℤ → Bool) (w : ℕ) (q : Place) : Place → Type 0 where
  here : StepsTo m clear w q q
  next : {p : Place} {t : Step} → Settled m p.box (min w p.left) t → clear (swept m p.box t) ≡ true → StepsTo m clear w q (after_step m p t) → StepsTo m clear w q p

pub steps_less : {m : Machine} {clear : List ℤ → Bool} {w : ℕ} {q p : Place} → StepsTo m clear w q p → q.left ≤ p.left
steps_less {q} here = le_refl q.left
steps_less (next s k r) = omega (arith, steps_less r)

-- from p a reach ends with r
pub record Ends (m : Machine) (clear : List ℤ → Bool) (w : ℕ) (p : Place) (r : Reached) : Type 0 where
  pub path : StepsTo m clear w (last_place r) p

-- at p a step is not clear, and `why` says so
pub record Hits (m : Machine) (clear : List ℤ → Bool) (w : ℕ) (p : Place) (why : Failure) : Type 0 where
  pub step : Step
  pub settled : Settled m p.box (min w p.left) step
  pub hits : clear (swept m p.box step) ≡ false
  pub reason : why ≡ unsafe p.left (swept m p.box step)

-- from p a reach leads to a step that is not clear
pub record Stops (m : Machine) (clear : List ℤ → Bool) (w : ℕ) (p : Place) (why : Failure) : Type 0 where
  pub at : Place
  pub path : StepsTo m clear w at p
  pub hits : Hits m clear w at why

ends_here : {m : Machine} {clear : List ℤ → Bool} {w : ℕ} (p : Place) → p.left ≤ 0 → Ends m clear w p (record { end = p.box; swept = p.swept })
ends_here {m} {clear} {w} p h =
    let r : Reached = record { end = p.box; swept = p.swept } in
    let q : 0 ≡ p.left = omega arith in
    record { path = subst (λ (j : ℕ). StepsTo m clear w (last_place r) (record { box = p.box; swept = p.swept; left = j })) q here }

module _ (l : Bool) (a : ℕ) (m : Machine) (clear : List ℤ → Bool) (w e : ℕ) (room : vars_of m ≤ N) (z : 0 < w) (h : w < 2 ^ suc e) where
  pub tested_takes : (p : Place) (c : ℕ) → 0 < p.left
      → Takes l a c (8 * e + 1) (λ t. Settled m p.box (min w p.left) t × (clear (swept m p.box t) ≡ true)) (Hits m clear w p) (tested_step l a m clear w p.box p.left c)
  unfolding tested_step
  tested_takes p c k =
      takes_then {d = 0} _ (omega arith) (takes_map (le_refl (8 * e + 1)) (λ t s. s) (λ why b. absurd b) (step_takes l a m p.box room (min w p.left) c e (omega arith) (omega arith)))
      (λ t c' s. takes_if (clear (swept m p.box t)) _ _ (λ k. value (s, k) (counted_none c')) (λ k. failure (record { step = t; settled = s; hits = k; reason = refl }) (counted_none c')))

  pub steps_take : (fuel : ℕ) (p : Place) (c : ℕ) → p.left < fuel → Takes l a c ((8 * e + 1) * p.left) (Ends m clear w p) (Stops m clear w p) (steps l a m clear w fuel p.box p.swept p.left c)
  unfolding steps
  steps_take zero p c f = absurd (omega arith)
  steps_take (suc fuel) p c f =
      takes_if (leb p.left 0) _ _
      (λ n. value (ends_here p (leb-true p.left 0 n)) (counted_less (omega arith) (counted_none c)))
      (λ n. let k : 0 < p.left = leb-false p.left 0 n in
      takes_then {d = (8 * e + 1) * (p.left - 1)} _ (some k)
      (takes_map (le_refl (8 * e + 1)) (λ t s. s) (λ why i. record { at = p; path = here; hits = i }) (tested_takes p c k))
      (λ t c' s. takes_map (mul-le-mul_left (8 * e + 1) (rest s.0.some)) (λ r i. record { path = next s.0 s.1 i.path })
      (λ why i. record { at = i.at; path = next s.0 s.1 i.path; hits = i.hits }) (steps_take fuel (after_step m p t) c' (less s.0.some s.0.most))))
    where
      some : 0 < p.left → (8 * e + 1) + (8 * e + 1) * (p.left - 1) ≤ (8 * e + 1) * p.left
      some k = let q : 1 + (p.left - 1) ≤ p.left = omega arith in omega (arith, mul-le-mul_left (8 * e + 1) q)

      rest : {t : ℕ} → 0 < t → p.left - t ≤ p.left - 1
      rest i = omega arith

      less : {t : ℕ} → 0 < t → t ≤ min w p.left → p.left - t < fuel
      less i j = omega arith

  pub reach_takes : (S : List ℤ) (ticks c : ℕ)
      → Takes l a c ((8 * e + 1) * ticks) (Ends m clear w (first_place S ticks)) (Stops m clear w (first_place S ticks)) (reach l a m clear w S ticks c)
  unfolding reach
  reach_takes S ticks c = steps_take (suc ticks) (first_place S ticks) c (le_refl (suc ticks))

-- at width 0 no step settles
pub reach_zero : {m : Machine} (l : Bool) (a : ℕ) (clear : List ℤ → Bool) (S : List ℤ) (ticks c : ℕ)
    → Takes l a c 0 (Ends m clear 0 (first_place S ticks)) (λ why. Unit) (reach l a m clear 0 S ticks c)
unfolding reach steps tested_step step halving and_then
reach_zero l a clear S ticks c =
    takes_if (leb ticks 0) _ _ (λ n. value (ends_here (first_place S ticks) (leb-true ticks 0 n)) (counted_none c))
    (λ n. let q : min 0 ticks ≡ 0 = omega arith in rw q (failure tt (counted_none c)))

-- a reach, with no allowance, from a box whose first swept box is not clear whatever the step: it fails at its first step
pub reach_blocked : (m : Machine) (clear : List ℤ → Bool) (w : ℕ) → vars_of m ≤ N → 0 < w → (S : List ℤ) (ticks c : ℕ) → 0 < ticks
    → ((t : Step) → clear (swept m S t) ≡ false) → Failed (Hits m clear w (first_place S ticks)) (reach false 0 m clear w S ticks c)
unfolding reach steps and_then
reach_blocked m clear w room z S ticks c k blocked = record { why = f.why; count = f.count; same = by (leb ticks 0) refl; holds = f.holds }
  where
    f : Failed (Hits m clear w (first_place S ticks)) (tested_step false 0 m clear w S ticks c)
    f = has_failure (λ t s. differ s.1 (blocked t)) (tested_takes false 0 m clear w w room z (below_power w) (first_place S ticks) c k)

    next : Step → ℕ → Result Reached
    next t c' = steps false 0 m clear w ticks t.end (hull (vars_of m) S (swept m S t)) (ticks - t.ticks) c'

    by : (t : Bool) → leb ticks 0 ≡ t → ◌≡◌ {A = Result Reached} (elim t [ true ↦ ok (record { end = S; swept = S }) c | false ↦ and_then (tested_step false 0 m clear w S ticks c) next ]) (failed f.why f.count)
    by true e = absurd (omega (arith, leb-true ticks 0 e))
    by false e = ap (λ (g : Result Step). and_then g next) f.same
