-- How far a box's sides, a rate and a row's number go. Assumes nothing.
use mathlib.Core.Path.{◌≡◌, sym, subst}
use mathlib.Core.Bool.{Bool, true, false}
use mathlib.Core.List.{List}
use Prim.Native.Nat.{ℕ, zero, suc, ◌+◌, ◌*◌, ◌≤◌, ◌<◌}
use native.Mathlib.Omega.{arith}
use lib.IntN.{ℤ, pos, neg_ℤ, ◌*ℤ◌}
use lib.ListN.{replicate}
use lib.Signed.{◌≤ℤ◌}
use Rattle.integers.specs.Bound.{Bound}
use Rattle.integers.proofs.Z.{ints, neg, bound_in, bound_less, bound_sum, bound_sub, bound_mul}
use Rattle.sheet_spec.specs.Limits.{max_command, max_cap, max_edge, max_coefficient, max_constant}
use Rattle.sheet_spec.specs.Slots.{◌!◌, N, box_size, FeedbackLaw, Row, vars, band_var, cap, edge}
use Rattle.sheet_spec.specs.Box.{lo}
use Rattle.sheet_spec.specs.Valid.{Between, ValidLaw, ValidRow, ValidNumbers}
use Rattle.machine_spec.specs.Box.{side, Near, Ordered, Sized, sum, trim, hull, moved}
use Rattle.machine_spec.specs.declared.Law.{Law}
use Rattle.machine_spec.specs.Machine.{Machine, machine, vars_of, bands_of}
use Rattle.machine_spec.specs.Accepted.{Accepted}
use Rattle.machine_spec.specs.Rate.{weighted, law_over, bound, row_over, rate, rates, face_rate}
use Rattle.machine_spec.proofs.Face.{outer_one}
use Rattle.machine_spec.proofs.Inside.{hull_side, moved_side_lem, trim_side, rates_side, Inside}
use Rattle.machine_spec.proofs.Neighborhood.{inward}
use Rattle.machine_spec.proofs.Facts.{room, cap_low, cap_near}
use Rattle.machine_spec.proofs.Offers.{over_near}
use Rattle.machine_spec.proofs.Sound.{rate_between}

pub near_less : {n b c : ℕ} {B : List ℤ} → b ≤ c → Near n b B → Near n c B
near_less h k = record { at = λ up i l. bound_less (k.at up i l) h }

-- an equal box
pub near_as : {n b : ℕ} {A B : List ℤ} → A ≡ B → Near n b B → Near n b A
near_as {n} {b} e h = subst (Near n b) (sym e) h

-- by an equal number of variables
pub near_by : {n k b : ℕ} {B : List ℤ} → n ≡ k → Near n b B → Near k b B
near_by {b} {B} e h = subst (λ (i : ℕ). Near i b B) e h

bound_between : {l h z : ℤ} {b : ℕ} → Bound l b → Bound h b → l ≤ℤ z → z ≤ℤ h → Bound z b
bound_between {b} k j u w = bound_in (omega (ints, neg (pos b), k.at_most)) (omega (ints, j.at_most))

-- nor is one of a part of it that is not empty
pub near_part : {n b : ℕ} {A B : List ℤ} → Ordered n A → Inside n A B → Near n b B → Near n b A
near_part {n} {b} {A} o s k = record { at = at }
  where
    at : (up : Bool) (i : ℕ) → i < n → Bound (side up A i) b
    at false i h = bound_between (k.at false i h) (k.at true i h) (s.at false i h).order (omega (ints, o.at i h, (s.at true i h).order))
    at true i h = bound_between (k.at false i h) (k.at true i h) (omega (ints, o.at i h, (s.at false i h).order)) (s.at true i h).order

-- the same of a box that is not empty
pub sized_less : {n b c : ℕ} {B : List ℤ} → b ≤ c → Sized n b B → Sized n c B
sized_less h s = record { near = near_less h s.near; ordered = s.ordered }

pub sized_as : {n b : ℕ} {A B : List ℤ} → A ≡ B → Sized n b B → Sized n b A
sized_as {n} {b} e s = subst (Sized n b) (sym e) s

pub sized_part : {n b : ℕ} {A B : List ℤ} → Ordered n A → Inside n A B → Near n b B → Sized n b A
sized_part o s k = record { near = near_part o s k; ordered = o }

-- a box within ±2,000,000 is not below the first edge
pub above_first : {v E : List ℤ} → ValidNumbers v → Near (vars v) max_edge E → edge v 0 ≤ℤ lo E (band_var v)
above_first {v} wf e = omega (ints, wf.first_edge, (e.at false (band_var v) wf.var).at_most)

-- the box of zeros
pub zero_near : (n b : ℕ) → Near n b (replicate box_size (pos 0))
zero_near n b = record { at = at }
  where
    zeros : (m j : ℕ) → Bound (replicate m (pos 0) ! j) b
    zeros zero j = record { at_most = omega arith }
    zeros (suc m) zero = record { at_most = omega arith }
    zeros (suc m) (suc j) = zeros m j

    at : (up : Bool) (i : ℕ) → i < n → Bound (side up (replicate box_size (pos 0)) i) b
    at false i h = zeros box_size i
    at true i h = zeros box_size (i + N)

module _ {n : ℕ} (room : n ≤ N) where
  pub trim_near : {b : ℕ} {B : List ℤ} → Near n b B → Near n b (trim n B)
  trim_near {b} {B} h = record { at = λ up i l. rw (trim_side n i room l up B) (h.at up i l) }

  pub hull_near : {b : ℕ} {A B : List ℤ} → Near n b A → Near n b B → Near n b (hull n A B)
  hull_near {b} {A} {B} h k = record { at = λ up i l. rw (hull_side n i room l up A B) (outer_one (λ z. Bound z b) up (h.at up i l) (k.at up i l)) }

  pub moved_near : {b c : ℕ} {A r : List ℤ} (k : ℕ) → Near n b A → Near n c r → Near n (b + k * c) (moved n A k r)
  moved_near {A} {r} k h u = record { at = λ up i l. rw (moved_side_lem n i room l up A k r) (bound_sum (h.at up i l) (bound_mul {x = pos k} {B = k} (record { at_most = omega arith }) (u.at up i l))) }

-- ---- a rate

module _ {v : List ℤ} (wf : ValidNumbers v) (l : Law) where
  rate_near : (up : Bool) (B : List ℤ) (i : ℕ) → i < vars v → Bound (rate up (machine v l) B i) max_cap
  rate_near up B i h =
      let w = rate_between up (machine v l) B i (cap_low wf i h) in
      bound_in (omega (ints, w.low, neg (cap v i), (wf.caps i h).high)) (omega (ints, w.high, (wf.caps i h).high))

  pub rates_near : (S : List ℤ) (k : ℕ) (E : List ℤ) → Near (vars v) max_cap (rates (machine v l) S k E)
  unfolding face_rate
  rates_near S k E = record { at = λ up i h. rw (rates_side (machine v l) i (room wf) h up S k E) (rate_near up _ i h) }

-- where the neighborhood of a face of S is cut
pub limit_near : {v S : List ℤ} {b : ℕ} → ValidNumbers v → Near (vars v) b S → (up : Bool) (k i : ℕ) → i < vars v → Bound (inward up (side up S i) (pos k *ℤ cap v i)) (b + k * max_cap)
limit_near wf s up k i h = at up (s.at up i h) (bound_mul {x = pos k} {B = k} (record { at_most = omega arith }) (cap_near wf i h))
  where
    at : (up : Bool) {x y : ℤ} {b c : ℕ} → Bound x b → Bound y c → Bound (inward up x y) (b + c)
    at false h k = bound_sum h k
    at true h k = bound_sub h k

-- ---- a row's number N, and N ∓ d

sum_bound : {b : ℕ} (n : ℕ) (f : ℕ → ℤ) → ((i : ℕ) → i < n → Bound (f i) b) → Bound (sum n f) (n * b)
unfolding sum
sum_bound zero f h = record { at_most = omega arith }
sum_bound (suc n) f h = bound_less (bound_sum (sum_bound n f (λ i k. h i (omega arith))) (h n (omega arith))) (omega arith)

in_range : {b : ℕ} {z : ℤ} → Between (neg_ℤ (pos b)) (pos b) z → Bound z b
in_range h = bound_in h.low h.high

-- Σ aj·xj over a box
weighted_near : {n b : ℕ} {a : ℕ → ℤ} {B : List ℤ} → ((j : ℕ) → j < n → Between (neg_ℤ (pos max_coefficient)) (pos max_coefficient) (a j)) → Near n b B → (up : Bool)
    → Bound (weighted up n a B) (n * (max_coefficient * b))
unfolding weighted
weighted_near {n} {b} f k up =
    sum_bound n _ (λ j l. let a = in_range (f j l) in outer_one (λ z. Bound z (max_coefficient * b)) up (bound_mul a (k.at false j l)) (bound_mul a (k.at true j l)))

-- the sum of a law that follows the state
pub law_near : {n b : ℕ} {l : FeedbackLaw} {B : List ℤ} → ValidLaw n l → Near n b B → (up : Bool) → Bound (law_over up n l B) (n * (max_coefficient * b) + max_constant)
unfolding law_over
law_near wf k up = bound_sum (weighted_near wf.a k up) (in_range wf.c)

row_near : {n b : ℕ} {r : Row} {B : List ℤ} (u w : ℤ) → ValidRow n r → Near n b B → Bound u max_command → Bound w max_command → (up : Bool)
    → Bound (bound up n r B u w) (n * (max_coefficient * b) + max_coefficient * max_command + max_constant)
unfolding bound
row_near {n} {b} {r} {B} u w wf k h g up =
    bound_sum (bound_sum (weighted_near wf.a k up)
    (let c = in_range wf.b in outer_one (λ z. Bound z (max_coefficient * max_command)) up (bound_mul c h) (bound_mul c g))) (in_range wf.c)

-- the number of band j's row for variable i
pub number_near : {m : Machine} {b : ℕ} {B : List ℤ} → Accepted m → Near (vars_of m) b B → (up : Bool) (i j : ℕ) → i < vars_of m → j < bands_of m
    → Bound (row_over up m B i j) (vars_of m * (max_coefficient * b) + max_coefficient * max_command + max_constant)
number_near {B} wf n up i j h g = row_near _ _ (wf.sheet.rows j i g h) n (over_near wf j g false B) (over_near wf j g true B) up
