-- How far the numbers of a reach go: sides, neighborhoods and the rows' numbers, at every step of a reach; and no box on the way is
-- reversed. Assumes nothing.
use mathlib.Core.Path.{◌≡◌, refl}
use mathlib.Core.Bool.{Bool, true, false, ◌&&◌}
use mathlib.Core.List.{List}
use Prim.Native.Nat.{ℕ, zero, suc, ◌+◌, ◌*◌, ◌-◌, ◌≤◌, ◌<◌}
use native.Mathlib.Omega.{arith}
use lib.Dec.{T}
use lib.IntN.{ℤ, pos, neg_ℤ, ◌+ℤ◌, ◌-ℤ◌, ◌*ℤ◌}
use lib.Signed.{le_z, ◌≤ℤ◌}
use Rattle.integers.specs.Bound.{Bound}
use Rattle.integers.proofs.Z.{ints, le_true, bound_sum, bound_sub, bound_less, bound_in}
use Rattle.sheet_spec.specs.Limits.{max_vars, max_command, max_cap, max_edge, max_coefficient, max_constant, max_spread, max_recovery_side, max_side, max_ticks}
use Rattle.sheet_spec.specs.Slots.{N, vars, least_command, greatest_command, recovery_slot, recovery_box}
use Rattle.sheet_spec.specs.Refusals.{Cause, unless_refused}
use Rattle.sheet_spec.specs.Box.{lo, hi, clear}
use Rattle.machine_spec.specs.Box.{side, Near, Ordered, Sized, trim, hull}
use Rattle.sheet_spec.specs.Valid.{ValidNumbers}
use Rattle.machine_spec.specs.declared.Law.{Law}
use Rattle.machine_spec.specs.declared.Law.TheVariants.{Baseline, Span}
use Rattle.machine_spec.specs.Machine.{Machine, machine, vars_of, bands_of, cap, row_of}
use Rattle.machine_spec.specs.Accepted.{Lawful, Accepted}
use Rattle.machine_spec.specs.Rate.{band_met, part, row_over, neighborhood}
use Rattle.sheet_spec.proofs.Laws.{unless_zero}
use Rattle.sheet_spec.proofs.Box.{and_both, all_at, box_lo, box_hi}
use Rattle.machine_spec.proofs.Neighborhood.{inward, neighborhood_part}
use Rattle.machine_spec.proofs.Facts.{room}
use Rattle.machine_spec.proofs.Part.{part_within, part_ordered}
use Rattle.machine_spec.proofs.Ranges.{near_less, sized_part, above_first, zero_near, trim_near, hull_near, moved_near, rates_near, limit_near, number_near}
use Rattle.boxes_spec.specs.Step.{lifted, grown, end_box, Failure, Result, Step, swept}
use Rattle.boxes_spec.specs.Reach.{max_reached, Reached, reach, law_refusal, sides_refusal, reach_refusal, Answer, refused, answer, reach_of}
use Rattle.boxes_spec.proofs.Settled.{Working, starts, grows, Settled, Place, first_place, StepsTo, here, next, steps_less, Ends, reach_takes}
use Rattle.boxes_spec.proofs.Stages.{Takes, value, failure, spent}
use Rattle.boxes_spec.proofs.Refusals.{reach_passes}
use Rattle.boxes_spec.proofs.Order.{working_holds, face_ordered, end_ordered}

-- ---- a step of length k from S, whose sides are at most b

module _ (m : Machine) (wf : ValidNumbers m.sheet) {S : List ℤ} (k : ℕ) {b : ℕ} (s : Near (vars_of m) b S) where
  pub end_near : (E : List ℤ) → Near (vars_of m) (b + k * max_cap) (end_box m S k E)
  unfolding end_box
  end_near E = moved_near (room wf) k s (rates_near wf m.law S k E)

  pub lifted_near : (E : List ℤ) → Near (vars_of m) (b + (k - 1) * max_cap) (lifted m S k E)
  unfolding lifted
  lifted_near E = hull_near (room wf) (near_less (omega arith) s) (moved_near (room wf) (k - 1) s (rates_near wf m.law S k E))

  pub working_near : {E : List ℤ} → Working m S k E → Near (vars_of m) (b + (k - 1) * max_cap) E
  unfolding grown
  working_near starts = near_less (omega arith) s
  working_near (grows {E = E} w) = hull_near (room wf) (working_near w) (lifted_near E)

-- ---- a reach

-- where it has come, the sides of its box and of what is swept are further out by at most a cap a tick
module _ {m : Machine} (wf : ValidNumbers m.sheet) where
  pub settled_near : {S : List ℤ} {k b : ℕ} {t : Step} → Near (vars_of m) b S → Settled m S k t → Near (vars_of m) (b + t.ticks * max_cap) t.end
  settled_near {t} s e = rw e.end (end_near m wf t.ticks s e.E)

  pub steps_near : {clear : List ℤ → Bool} {w : ℕ} {q p : Place} {b : ℕ} → StepsTo m clear w q p → Near (vars_of m) b p.box → Near (vars_of m) (b + (p.left - q.left) * max_cap) q.box
  steps_near here s = near_less (omega arith) s
  steps_near (next e k w) s = near_less (omega (arith, steps_less w, e.most)) (steps_near w (settled_near s e))

  pub swept_near : {clear : List ℤ → Bool} {w : ℕ} {q p : Place} {b : ℕ} → StepsTo m clear w q p → Near (vars_of m) b p.box → Near (vars_of m) b p.swept
      → Near (vars_of m) (b + (p.left - q.left) * max_cap) q.swept
  unfolding swept
  swept_near here s u = near_less (omega arith) u
  swept_near (next e k w) s u =
      let n = settled_near s e in
      let all = hull_near (room wf) (near_less (omega arith) u) (hull_near (room wf) (near_less (omega arith) s) n) in
      near_less (omega (arith, steps_less w, e.most)) (swept_near w n all)

module _ {m : Machine} (wf : Accepted m) where
  -- after a step
  pub settled_sized : {S : List ℤ} {k b : ℕ} {t : Step} → Sized (vars_of m) b S → b + k * max_cap ≤ max_edge → Settled m S k t → Sized (vars_of m) (b + t.ticks * max_cap) t.end
  settled_sized {S} {t = t} s h e = record {
    near = settled_near wf.sheet s.near e;
    ordered = rw e.end (end_ordered wf S t.ticks s.ordered (working_holds (room wf.sheet) e.working)
        (above_first wf.sheet (near_less (omega (arith, e.most, e.some)) (working_near m wf.sheet t.ticks s.near e.working))));
  }

  -- NEVER REVERSED, wherever a reach has come
  pub steps_sized : {clear : List ℤ → Bool} {w : ℕ} {q p : Place} {b : ℕ} → StepsTo m clear w q p → Sized (vars_of m) b p.box → b + p.left * max_cap ≤ max_edge
      → Sized (vars_of m) (b + (p.left - q.left) * max_cap) q.box
  steps_sized r s h = record { near = steps_near wf.sheet r s.near; ordered = ordered r s h }
    where
      ordered : {clear : List ℤ → Bool} {w : ℕ} {q p : Place} {b : ℕ} → StepsTo m clear w q p → Sized (vars_of m) b p.box → b + p.left * max_cap ≤ max_edge → Ordered (vars_of m) q.box
      ordered here s h = s.ordered
      ordered (next e k r) s h = ordered r (settled_sized s (omega (arith, e.most)) e) (omega (arith, e.most))

-- ---- the numbers of a round

-- the neighborhood of a face of variable i
abbrev pub around : Machine → List ℤ → ℕ → List ℤ → Bool → ℕ → List ℤ
around m S k E up i = neighborhood up S (pos (k + 1) *ℤ cap m i) E i

-- a row's number N over the part of it in band j
abbrev pub numerator_over : Machine → List ℤ → ℕ → List ℤ → Bool → ℕ → ℕ → ℤ
numerator_over m S k E up i j = row_over up m (part m j (around m S k E up i)) i j

-- how far that goes
abbrev pub max_numerator : ℕ
max_numerator = max_vars * (max_coefficient * (max_reached - max_cap)) + max_coefficient * max_command + max_constant

pub record Ranges (m : Machine) (S : List ℤ) (k : ℕ) (E : List ℤ) : Type 0 where
  pub working : Near (vars_of m) (max_reached - max_cap) E
  pub front : Near (vars_of m) (max_reached - max_cap) (lifted m S k E)
  pub end : Near (vars_of m) max_reached (end_box m S k E)
  pub swept : Near (vars_of m) max_reached (hull (vars_of m) S (end_box m S k E))
  pub neighborhoods : (up : Bool) (i : ℕ) → i < vars_of m → Sized (vars_of m) (max_reached - max_cap) (around m S k E up i)
  -- where they are cut
  pub limits : (up : Bool) (i : ℕ) → i < vars_of m → Bound (inward up (side up S i) (pos (k + 1) *ℤ cap m i)) (max_reached + max_cap)
  -- their parts in the bands that they meet
  pub parts : (up : Bool) (i j : ℕ) → i < vars_of m → T (band_met m j (around m S k E up i)) → Sized (vars_of m) (max_reached - max_cap) (part m j (around m S k E up i))
  -- N, N − d and N + d there
  pub numbers : (up : Bool) (i j : ℕ) → i < vars_of m → j < bands_of m → T (band_met m j (around m S k E up i)) → Bound (numerator_over m S k E up i j) max_numerator
  pub below : (up : Bool) (i j : ℕ) → i < vars_of m → j < bands_of m → T (band_met m j (around m S k E up i)) → Bound (numerator_over m S k E up i j -ℤ (row_of m j i).d) (max_numerator + max_spread)
  pub above : (up : Bool) (i j : ℕ) → i < vars_of m → j < bands_of m → T (band_met m j (around m S k E up i)) → Bound (numerator_over m S k E up i j +ℤ (row_of m j i).d) (max_numerator + max_spread)

-- a round of a step of length k, at least 1, from a box that leaves room for k ticks
module _ {m : Machine} (wf : Accepted m) {S : List ℤ} (k : ℕ) {b : ℕ} (s : Sized (vars_of m) b S) (z : 0 < k) (h : b + k * max_cap ≤ max_reached) {E : List ℤ} (w : Working m S k E) where
  near_around : (up : Bool) (i : ℕ) → i < vars_of m → Sized (vars_of m) (max_reached - max_cap) (around m S k E up i)
  near_around up i g =
      sized_part (face_ordered wf S k s.ordered (working_holds (room wf.sheet) w) up i g) (neighborhood_part (room wf.sheet) S _ i g up E)
      (near_less (omega arith) (working_near m wf.sheet k s.near w))

  near_part_of : (up : Bool) (i j : ℕ) → i < vars_of m → T (band_met m j (around m S k E up i)) → Sized (vars_of m) (max_reached - max_cap) (part m j (around m S k E up i))
  near_part_of up i j g t =
      let a = near_around up i g in
      sized_part (part_ordered m wf.sheet j a.ordered t) (part_within m wf.sheet j (around m S k E up i)) a.near

  number : (up : Bool) (i j : ℕ) → i < vars_of m → j < bands_of m → T (band_met m j (around m S k E up i)) → Bound (numerator_over m S k E up i j) max_numerator
  number up i j g l t = bound_less (number_near wf (near_part_of up i j g t).near up i j g l) (omega (arith, wf.sheet.vars_high))

  spread : (i j : ℕ) → i < vars_of m → j < bands_of m → Bound (row_of m j i).d max_spread
  spread i j g l = let d = (wf.sheet.rows j i l g).d in bound_in (omega (ints, d.low)) d.high

  pub round_ranges : Ranges m S k E
  round_ranges = record {
    working = near_less (omega arith) (working_near m wf.sheet k s.near w);
    front = near_less (omega arith) (lifted_near m wf.sheet k s.near E);
    end = near_less (omega arith) (end_near m wf.sheet k s.near E);
    swept = hull_near (room wf.sheet) (near_less (omega arith) s.near) (near_less (omega arith) (end_near m wf.sheet k s.near E));
    neighborhoods = near_around;
    limits = λ up i g. bound_less (limit_near wf.sheet s.near up (k + 1) i g) (omega arith);
    parts = near_part_of;
    numbers = number;
    below = λ up i j g l t. bound_sub (number up i j g l t) (spread i j g l);
    above = λ up i j g l t. bound_sum (number up i j g l t) (spread i j g l);
  }

-- RANGES: each round of each step of a reach, its start box S and its ticks leaving room
pub reach_ranges : {m : Machine} {clear : List ℤ → Bool} {w b ticks : ℕ} {S : List ℤ} {q : Place} {E : List ℤ} (k : ℕ) → Accepted m → Sized (vars_of m) b S → b + ticks * max_cap ≤ max_reached
    → StepsTo m clear w q (first_place S ticks) → 0 < k → k ≤ q.left → Working m q.box k E → Ranges m q.box k E
reach_ranges k wf s h w z l e = round_ranges wf k (steps_sized wf w s (omega arith)) z (omega (arith, steps_less w)) e

-- ---- the start boxes and the laws that are not refused

pub lawful : (v : List ℤ) (l : Law) → law_refusal v l ≡ 0 → Lawful v l
unfolding law_refusal
lawful v Baseline e = tt
lawful v (Span l h) e =
    let a = and_both (le_z (least_command v) l && le_z l h) (le_z h (greatest_command v)) (unless_zero _ Cause.command e) in
    let b = and_both (le_z (least_command v) l) (le_z l h) a.0 in
    record { low = le_true (least_command v) l b.0; order = le_true l h b.1; high = le_true h (greatest_command v) a.1 }

pub sized_by : {n b : ℕ} {B : List ℤ} → ((i : ℕ) → i < n → neg_ℤ (pos b) ≤ℤ lo B i) → Ordered n B → ((i : ℕ) → i < n → hi B i ≤ℤ pos b) → Sized n b B
sized_by {n} {b} {B} l o u = record { near = record { at = at }; ordered = o }
  where
    at : (up : Bool) (i : ℕ) → i < n → Bound (side up B i) b
    at false i h = bound_in (l i h) (omega (ints, o.at i h, u i h))
    at true i h = bound_in (omega (ints, l i h, o.at i h)) (u i h)

pub start_sized : (n : ℕ) (B : List ℤ) → sides_refusal n B ≡ 0 → Sized n max_side B
unfolding sides_refusal
start_sized n B e = sized_by (λ i h. le_true (neg_ℤ (pos max_side)) (lo B i) (both i h).0) (record { at = λ i h. le_true (lo B i) (hi B i) (both i h).1 }) (λ i h. le_true (hi B i) (pos max_side) (last i h).1)
  where
    last : (i : ℕ) → i < n → ((le_z (neg_ℤ (pos max_side)) (lo B i) && le_z (lo B i) (hi B i)) ≡ true) × (le_z (hi B i) (pos max_side) ≡ true)
    last i h = and_both _ (le_z (hi B i) (pos max_side)) (all_at n _ i (unless_zero _ Cause.start e) h)

    both : (i : ℕ) → i < n → (le_z (neg_ℤ (pos max_side)) (lo B i) ≡ true) × (le_z (lo B i) (hi B i) ≡ true)
    both i h = and_both (le_z (neg_ℤ (pos max_side)) (lo B i)) (le_z (lo B i) (hi B i)) (last i h).0

pub recovery_sized : {v : List ℤ} → ValidNumbers v → Sized (vars v) max_recovery_side (recovery_box v)
recovery_sized {v} wf =
    sized_by (λ i h. rw (box_lo v recovery_slot i (room i h)) (wf.recovery.lower i h)) (record { at = λ i h. rw (box_lo v recovery_slot i (room i h), box_hi v recovery_slot i (room i h)) (wf.recovery.ordered i h) })
    (λ i h. rw (box_hi v recovery_slot i (room i h)) (wf.recovery.upper i h))
  where
    room : (i : ℕ) → i < vars v → i < N
    room i h = omega (arith, wf.vars_high)

-- ---- the public reach

-- how far the sides of an answer's two boxes go
pub answer_near : {v : List ℤ} → ValidNumbers v → (ticks w : ℕ) (l : Law) (B : List ℤ) → Near (vars v) max_reached (reach_of v ticks w l B).end × Near (vars v) max_reached (reach_of v ticks w l B).swept
unfolding reach_of unless_refused answer
answer_near {v} wf ticks w l B = by (reach_refusal v ticks w l B) refl
  where
    NearBoth : Answer → Type 0
    NearBoth a = Near (vars v) max_reached a.end × Near (vars v) max_reached a.swept

    none : NearBoth (refused 0)
    none = (zero_near (vars v) max_reached, zero_near (vars v) max_reached)

    walked : {g : Result Reached} {Q : Failure → Type 0} → Near (vars v) max_side (trim (vars v) B) → ticks ≤ max_ticks
        → Takes false 0 0 (73 * ticks) (Ends (machine v l) (clear (vars v) v 0) w (first_place (trim (vars v) B) ticks)) Q g → NearBoth (answer g)
    walked h k (value p n) = (near_less (omega arith) (steps_near wf p.path h), near_less (omega arith) (swept_near wf p.path h h))
    walked h k (failure q n) = none
    walked h k (spent i e n) = none

    by : (r : ℕ) → reach_refusal v ticks w l B ≡ r → NearBoth (unless_refused r refused (answer (reach false 0 (machine v l) (clear (vars v) v 0) w (trim (vars v) B) ticks 0)))
    by (suc r) e = none
    by zero e =
        let passes = reach_passes v ticks w l B e in
        walked (trim_near (room wf) (start_sized (vars v) B passes.start).near) passes.few
        (reach_takes false 0 (machine v l) (clear (vars v) v 0) w 9 (room wf) passes.some (omega (arith, passes.most)) (trim (vars v) B) ticks 0)
