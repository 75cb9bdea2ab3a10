-- The working boxes of a step hold its start box and only grow, so that each is M itself; and no end box is reversed. Assumes nothing.
use mathlib.Core.Path.{◌≡◌, sym, ◌∙◌}
use mathlib.Core.Logic.{⊎_elim}
use mathlib.Core.Bool.{Bool, true, false}
use mathlib.Core.List.{List}
use Prim.Native.Nat.{ℕ, ◌+◌, ◌-◌, ◌≤◌, ◌<◌}
use lib.IntN.{ℤ, pos, neg_ℤ, ◌+ℤ◌, ◌-ℤ◌, ◌*ℤ◌}
use lib.ListN.{length}
use lib.Signed.{◌≤ℤ◌}
use Rattle.integers.proofs.Z.{ints, flat, prod, mul_mono, le_or_lt}
use Rattle.sheet_spec.specs.Slots.{N, box_size, edge}
use Rattle.sheet_spec.specs.Box.{lo, hi}
use Rattle.machine_spec.specs.Box.{side, Ordered, In, hull, moved}
use Rattle.machine_spec.specs.Machine.{Machine, vars_of, band_var_of, cap}
use Rattle.machine_spec.specs.Accepted.{Accepted}
use Rattle.machine_spec.specs.Rate.{neutral, neighborhood, face_rate, rates}
use Rattle.machine_spec.proofs.Box.{sides_length}
use Rattle.machine_spec.proofs.Face.{Beyond, beyond_refl, beyond_sum, beyond_times}
use Rattle.machine_spec.proofs.Inside.{lift_side, Inside, inside_refl, inside_trans, inside_in, hull_left, hull_right, hull_least, hull_absorbs, inside_ordered, corner}
use Rattle.machine_spec.proofs.Bands.{has_band}
use Rattle.machine_spec.proofs.Neighborhood.{near_in, neighborhood_length, neighborhood_part, neighborhood_inside, neighborhood_ordered, neighborhoods_touch}
use Rattle.machine_spec.proofs.Facts.{room, cap_low}
use Rattle.machine_spec.proofs.Sound.{rate_between}
use Rattle.machine_spec.proofs.Order.{rate_mono, rates_ordered}
use Rattle.boxes_spec.specs.Step.{lifted, grown, end_box}
use Rattle.boxes_spec.proofs.Settled.{Working, starts, grows}

-- ---- working boxes

module _ {m : Machine} (room : vars_of m ≤ N) {S : List ℤ} {k : ℕ} where
  -- they hold the start box
  pub working_holds : {E : List ℤ} → Working m S k E → Inside (vars_of m) S E
  unfolding grown
  working_holds starts = inside_refl S
  working_holds (grows {E = E} w) = inside_trans (working_holds w) (hull_left room E (lifted m S k E))

pub working_length : {m : Machine} {S : List ℤ} {k : ℕ} {E : List ℤ} → length S ≡ box_size → Working m S k E → length E ≡ box_size
unfolding grown hull
working_length l starts = l
working_length {m} l (grows w) = sides_length (vars_of m) _ _

-- how far a neighborhood goes
reach_in : {c : ℤ} (k : ℕ) → pos 0 ≤ℤ c → pos 0 ≤ℤ (pos k *ℤ c)
reach_in {c} k h = omega (ints, mul_mono (pos k) (pos 0) c (omega ints) h, prod (pos k) (pos 0))

module _ {m : Machine} (wf : Accepted m) (S : List ℤ) (k : ℕ) (o : Ordered (vars_of m) S) where
  -- no neighborhood is empty
  pub face_ordered : {E : List ℤ} → Inside (vars_of m) S E → (up : Bool) (i : ℕ) → i < vars_of m → Ordered (vars_of m) (neighborhood up S (pos (k + 1) *ℤ cap m i) E i)
  face_ordered s up i h = neighborhood_ordered (room wf.sheet) S _ i h (reach_in (k + 1) (cap_low wf.sheet i h)) up s (inside_ordered s o)

  module _ {E F : List ℤ} (l : length E ≡ length F) (s : Inside (vars_of m) S E) (t : Inside (vars_of m) E F) where
    -- the rates of the faces and M grow with the working box
    face_mono : (up : Bool) (i : ℕ) → i < vars_of m → Beyond up (face_rate up m S k F i) (face_rate up m S k E i)
    unfolding face_rate
    face_mono up i h = rate_mono wf (neighborhood_length up S _ E F l i) (face_ordered s up i h) (neighborhood_inside (room wf.sheet) S _ i h up l t) up i h

    lifted_mono : Inside (vars_of m) (lifted m S k E) (lifted m S k F)
    unfolding lifted
    lifted_mono =
        hull_least (room wf.sheet) S _ (hull_left (room wf.sheet) S (moved (vars_of m) S (k - 1) (rates m S k F)))
        (inside_trans (record { at = λ up i h. rw (lift_side m i (room wf.sheet) h up S k F (k - 1), lift_side m i (room wf.sheet) h up S k E (k - 1)) (beyond_sum (beyond_refl up (side up S i)) (beyond_times (k - 1) (face_mono up i h))) })
        (hull_right (room wf.sheet) S (moved (vars_of m) S (k - 1) (rates m S k F))))

  module _ (l : length S ≡ box_size) where
    -- every working box lies in its M
    pub working_lifted : {E : List ℤ} → Working m S k E → Inside (vars_of m) E (lifted m S k E)
    unfolding lifted grown
    working_lifted starts = hull_left (room wf.sheet) S _
    working_lifted (grows {E = E} w) =
        inside_trans (hull_least (room wf.sheet) E (lifted m S k E) (working_lifted w) (inside_refl (lifted m S k E)))
        (lifted_mono (working_length l w ∙ sym (working_length l (grows w))) (working_holds (room wf.sheet) w) (hull_left (room wf.sheet) E (lifted m S k E)))

    -- HULL(E, M) IS M
    pub grown_is : {E : List ℤ} → Working m S k E → grown m S k E ≡ lifted m S k E
    unfolding grown lifted
    grown_is w = hull_absorbs (room wf.sheet) _ S _ (working_lifted w)

-- ---- NEVER REVERSED

-- a lower and an upper face s ≤ s' with the rates r and r' and the cap c: where the neighborhoods touch the rates are in order, and
-- else the faces are too far apart to pass one another
faces_ordered : (k : ℕ) (c s s' r r' : ℤ) → pos 0 ≤ℤ c → s ≤ℤ s' → r ≤ℤ c → neg_ℤ c ≤ℤ r'
    → ((s' -ℤ pos (k + 1) *ℤ c) ≤ℤ (s +ℤ pos (k + 1) *ℤ c) → r ≤ℤ r') → (s +ℤ pos k *ℤ r) ≤ℤ (s' +ℤ pos k *ℤ r')
faces_ordered k c s s' r r' z h l u near =
    ⊎_elim (λ (n : (s' -ℤ pos (k + 1) *ℤ c) ≤ℤ (s +ℤ pos (k + 1) *ℤ c)). simp flat (omega (ints, simp flat at (mul_mono (pos k) r r' (omega ints) (near n)))))
    (λ f. simp flat (omega (ints, simp flat at f, simp flat at (mul_mono (pos k) r c (omega ints) l), simp flat at (mul_mono (pos k) (neg_ℤ c) r' (omega ints) u))))
    (le_or_lt (s' -ℤ pos (k + 1) *ℤ c) (s +ℤ pos (k + 1) *ℤ c))

module _ {m : Machine} (wf : Accepted m) (S : List ℤ) (k : ℕ) (o : Ordered (vars_of m) S) {E : List ℤ} (s : Inside (vars_of m) S E) (low : edge m.sheet 0 ≤ℤ lo E (band_var_of m)) where
  pub end_ordered : Ordered (vars_of m) (end_box m S k E)
  unfolding end_box face_rate neutral
  end_ordered = record {
    at = λ i h.
        rw (lift_side m i (room wf.sheet) h false S k E k, lift_side m i (room wf.sheet) h true S k E k)
        (faces_ordered k (cap m i) (lo S i) (hi S i) _ _ (cap_low wf.sheet i h) (o.at i h) (rate_between false m _ i (cap_low wf.sheet i h)).high (rate_between true m _ i (cap_low wf.sheet i h)).low
        (λ n.
        let U = neighborhood true S (pos (k + 1) *ℤ cap m i) E i in
        let u = corner (face_ordered wf S k o s true i h) in
        let e : In (vars_of m) E U = inside_in (neighborhood_part (room wf.sheet) S _ i h true E) u in
        rates_ordered _ U i wf (has_band wf.sheet.bands_low (omega (ints, e.low (band_var_of m) wf.sheet.var)))
        (near_in (room wf.sheet) S _ i h false e (neighborhoods_touch (room wf.sheet) S _ i h (reach_in (k + 1) (cap_low wf.sheet i h)) true s (record { order = n }))) u h));
  }
