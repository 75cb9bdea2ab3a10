-- Every trajectory of a step, of a reach and of a reach stays where their boxes say. Assumes nothing.
use mathlib.Core.Path.{◌≡◌, subst}
use mathlib.Core.Logic.{⊎_elim}
use mathlib.Core.Bool.{Bool, true, false, not}
use mathlib.Core.List.{List}
use Prim.Native.Nat.{ℕ, zero, suc, ◌+◌, ◌-◌, ◌≤◌, ◌<◌, zero-le}
use native.Mathlib.Omega.{arith}
use native.Mathlib.Nat.{le_refl, add-zero, add-suc}
use native.Mathlib.Decide.{dec_le}
use lib.IntN.{ℤ, pos, ◌+ℤ◌, ◌-ℤ◌, ◌*ℤ◌}
use lib.Signed.{◌≤ℤ◌}
use Rattle.integers.proofs.Z.{ints, flat}
use Rattle.sheet_spec.specs.Slots.{◌!◌, N, unsafe_box}
use Rattle.sheet_spec.specs.Valid.{ValidNumbers}
use Rattle.sheet_spec.specs.Box.{clear}
use Rattle.machine_spec.specs.Box.{side, In, hull, moved}
use Rattle.machine_spec.specs.Machine.{Machine, vars_of, cap, Tick}
use Rattle.machine_spec.specs.Rate.{outer, neutral, face_rate, rates}
use Rattle.sheet_spec.proofs.Box.{differ, clear_at}
use Rattle.machine_spec.proofs.Face.{Beyond, beyond_refl, beyond_trans, beyond_flip, beyond_back, beyond_or, beyond_sum, beyond_times, beyond_more, outer_left, outer_right}
use Rattle.machine_spec.proofs.Inside.{hull_side, lift_side, in_side, in_by, meets_by, Inside, inside_in, within_inside, hull_left, hull_right}
use Rattle.machine_spec.proofs.Neighborhood.{inward, near_in}
use Rattle.machine_spec.proofs.Facts.{room, cap_low}
use Rattle.machine_spec.proofs.Sound.{rate_bounds, cap_bounds, beyond_neutral, rate_between}
use Rattle.boxes_spec.specs.Step.{lifted, settles, end_box, ok, Step, step, swept}
use Rattle.boxes_spec.specs.Reach.{Reached, reach}
use Rattle.boxes_spec.proofs.Stages.{value_of}
use Rattle.boxes_spec.proofs.Settled.{Settled, still, below_power, step_takes, Place, first_place, last_place, after_step, StepsTo, here, next, steps_less, Ends, reach_takes, reach_zero}

-- ---- one face of a step: s is its start, r its rate, c the cap; x is the variable at tick j, z at the next

-- a face that moved by j rates lies between its start and its end
between : (up : Bool) (k j : ℕ) (s r : ℤ) → j ≤ k → Beyond up (outer up s (s +ℤ pos k *ℤ r)) (s +ℤ pos j *ℤ r)
between up k j s r h =
    ⊎_elim
    (λ i. beyond_trans (outer_left up s _) (rw still at (beyond_sum (beyond_refl up s) (beyond_more up {i = 0} {k = j} {r = r} zero-le i))))
    (λ i. beyond_trans (outer_right up s _) (beyond_sum (beyond_refl up s) (beyond_back (beyond_more (not up) h (beyond_flip i)))))
    (beyond_or up (pos 0) r)

-- a cap points in; and a cap out from k + 1 caps in is k caps in
cap_in : (up : Bool) (c : ℤ) → pos 0 ≤ℤ c → Beyond up (pos 0) (neutral up c)
unfolding neutral
cap_in false c h = record { order = h }
cap_in true c h = record { order = simp flat (omega ints) }

caps_in : (up : Bool) (k : ℕ) (c s : ℤ) → inward up s (pos (k + 1) *ℤ c) +ℤ neutral (not up) c ≡ s +ℤ pos k *ℤ neutral up c
unfolding neutral
caps_in false k c s = simp flat (omega ints)
caps_in true k c s = simp flat (omega ints)

-- near the face the change is bounded by the rate, and from further in no change within the cap comes past the face
face_next : (up : Bool) (k j : ℕ) (c s x z r : ℤ) → j < k → pos 0 ≤ℤ c
    → Beyond up (s +ℤ pos j *ℤ r) x → Beyond up r (neutral up c) → Beyond up (neutral (not up) c) (z -ℤ x)
    → (Beyond up x (inward up s (pos (k + 1) *ℤ c)) → Beyond up r (z -ℤ x))
    → Beyond up (s +ℤ pos (suc j) *ℤ r) z
face_next up k j c s x z r l p at inner capped near =
    let back : x +ℤ (z -ℤ x) ≡ z = simp flat (omega ints) in
    let more : (s +ℤ pos j *ℤ r) +ℤ r ≡ s +ℤ pos (suc j) *ℤ r = simp flat (omega ints) in
    ⊎_elim (λ n. rw (more, back) at (beyond_sum at (near n)))
    (λ (f : Beyond up (inward up s (pos (k + 1) *ℤ c)) x). beyond_trans (beyond_sum (beyond_refl up s) (beyond_trans (beyond_times (suc j) inner) (beyond_more up l (cap_in up c p))))
    (rw (caps_in up k c s, back) at (beyond_sum f capped)))
    (beyond_or up x (inward up s (pos (k + 1) *ℤ c)))

-- ---- a step

-- the first ticks of a trajectory follow the machine
abbrev pub Ticks : Machine → (ℕ → List ℤ) → ℕ → Type 0
Ticks m x k = (j : ℕ) → j < k → Tick m (x j) (x (suc j))

module _ (m : Machine) (wf : ValidNumbers m.sheet) (S : List ℤ) (k : ℕ) (E : List ℤ) where
  -- the state lies in S with each face moved by j of its rates
  record Lies (j : ℕ) (x : List ℤ) : Type 0 where
    at : (up : Bool) (i : ℕ) → i < vars_of m → Beyond up (side up S i +ℤ pos j *ℤ face_rate up m S k E i) (x ! i)

  lies_start : {x : List ℤ} → In (vars_of m) S x → Lies 0 x
  lies_start b = record { at = λ up i h. rw (still (side up S i) _) (in_side b up i h) }

  lies_moved : {j : ℕ} {x : List ℤ} → Lies j x → In (vars_of m) (moved (vars_of m) S j (rates m S k E)) x
  lies_moved {j} a = in_by (λ up i h. rw (lift_side m i (room wf) h up S k E j) (a.at up i h))

  lies_hull : {j d : ℕ} {x : List ℤ} → j ≤ d → Lies j x → In (vars_of m) (hull (vars_of m) S (moved (vars_of m) S d (rates m S k E))) x
  lies_hull {j} {d} l a = in_by (λ up i h. rw (hull_side (vars_of m) i (room wf) h up S _, lift_side m i (room wf) h up S k E d) (beyond_trans (between up d j (side up S i) (face_rate up m S k E i) l) (a.at up i h)))

  lies_next : {x y : List ℤ} (j : ℕ) → settles m S k E ≡ true → j < k → Tick m x y → Lies j x → Lies (suc j) y
  unfolding settles lifted face_rate
  lies_next {x} {y} j s l t a = record {
    at = λ up i h.
        let e : In (vars_of m) E x = inside_in (within_inside _ E s) (lies_hull {j = j} {d = k - 1} (omega arith) a) in
        face_next up k j (cap m i) (side up S i) (x ! i) (y ! i) _ l (cap_low wf i h) (a.at up i h) (beyond_neutral (rate_between up m _ i (cap_low wf i h)) up) (cap_bounds wf t i h up)
        (λ near. rate_bounds wf t i h up _ (near_in (room wf) S _ i h up e near));
  }

  lies_at : {x : ℕ → List ℤ} → settles m S k E ≡ true → In (vars_of m) S (x 0) → (j : ℕ) → j ≤ k → Ticks m x j → Lies j (x j)
  lies_at s b zero l t = lies_start b
  lies_at s b (suc j) l t = lies_next j s l (t j (omega arith)) (lies_at s b j (omega arith) (λ i g. t i (omega arith)))

-- STEP: the start box's states are in the swept box at each tick of the step, and in the end box after it
pub record Sound (m : Machine) (S : List ℤ) (t : Step) : Type 0 where
  pub sweeps : (x : ℕ → List ℤ) → In (vars_of m) S (x 0) → (j : ℕ) → j ≤ t.ticks → Ticks m x j → In (vars_of m) (swept m S t) (x j)
  pub ends : (x : ℕ → List ℤ) → In (vars_of m) S (x 0) → Ticks m x t.ticks → In (vars_of m) t.end (x t.ticks)

pub settled_sound : {m : Machine} {S : List ℤ} {k : ℕ} {t : Step} → ValidNumbers m.sheet → Settled m S k t → Sound m S t
unfolding swept end_box
settled_sound {m} {S} {t} wf s =
    let k = t.ticks in
    let E = s.E in
    record {
      sweeps = λ x b j l f. rw s.end (lies_hull m wf S k E l (lies_at m wf S k E s.settled b j l f));
      ends = λ x b f. rw s.end (lies_moved m wf S k E (lies_at m wf S k E s.settled b k (le_refl k) f));
    }

pub step_sound : {m : Machine} (l : Bool) (a : ℕ) (S : List ℤ) (k c : ℕ) {t : Step} {c' : ℕ} → ValidNumbers m.sheet → 0 < k → step l a m S k c ≡ ok t c' → Sound m S t
step_sound l a S k c wf z e = settled_sound wf (value_of (step_takes l a _ S (room wf) k c k z (below_power k)) e).0

-- ---- a reach: steps in a row

-- a trajectory from tick d on
later : (ℕ → List ℤ) → ℕ → ℕ → List ℤ
later x d j = x (d + j)

module _ (x : ℕ → List ℤ) (d : ℕ) where
  later_start : (P : List ℤ → Type 0) → P (x d) → P (later x d 0)
  unfolding later
  later_start P h = rw (add-zero d) h

  later_ticks : {m : Machine} (j : ℕ) → Ticks m x (d + j) → Ticks m (later x d) j
  unfolding later
  later_ticks j f i h = rw (add-suc d i) (f (d + i) (omega arith))

-- a tick is one of the first d, or i more than d
by_tick : (P : ℕ → Type 0) (d j : ℕ) → (j ≤ d → P j) → ((i : ℕ) → 0 < i → P (d + i)) → P j
by_tick P d j f g = go (dec_le j d)
  where
    go : Dec (j ≤ d) → P j
    go (yes h) = f h
    go (no h) = let e : d + (j - d) ≡ j = omega arith in subst P e (g (j - d) (omega arith))

-- a box that is clear holds the state
pub record Cleared (n : ℕ) (clear : List ℤ → Bool) (x : List ℤ) : Type 0 where
  pub box : List ℤ
  pub clears : clear box ≡ true
  pub holds : In n box x

-- d ticks from a state of p's box end in q's box; up to there each state is in q's swept box, and in one that is clear
pub record Contains (m : Machine) (clear : List ℤ → Bool) (p q : Place) (d : ℕ) : Type 0 where
  pub keeps : (y : List ℤ) → In (vars_of m) p.swept y → In (vars_of m) q.swept y
  pub sweeps : (x : ℕ → List ℤ) → In (vars_of m) p.box (x 0) → In (vars_of m) p.swept (x 0) → (j : ℕ) → j ≤ d → Ticks m x j → In (vars_of m) q.swept (x j)
  pub clears : (x : ℕ → List ℤ) → In (vars_of m) p.box (x 0) → (j : ℕ) → 0 < d → j ≤ d → Ticks m x j → Cleared (vars_of m) clear (x j)
  pub ends : (x : ℕ → List ℤ) → In (vars_of m) p.box (x 0) → Ticks m x d → In (vars_of m) q.box (x d)

contains_none : {m : Machine} {clear : List ℤ → Bool} (p : Place) → Contains m clear p p 0
contains_none {m} p = record {
  keeps = λ y h. h;
  sweeps = λ x b w j l f. let e : 0 ≡ j = omega arith in subst (λ (i : ℕ). In (vars_of m) p.swept (x i)) e w;
  clears = λ x b j z l f. absurd (omega arith);
  ends = λ x b f. b;
}

-- a step, and what covers the rest
module _ {m : Machine} (room : vars_of m ≤ N) {clear : List ℤ → Bool} (p q : Place) {t : Step} {d : ℕ} (s : Sound m p.box t) (k : clear (swept m p.box t) ≡ true) (r : Contains m clear (after_step m p t) q d) where
  onward : (x : ℕ → List ℤ) → In (vars_of m) p.box (x 0) → (j : ℕ) → Ticks m x (t.ticks + j) → In (vars_of m) t.end (later x t.ticks 0)
  onward x b j f = later_start x t.ticks (In (vars_of m) t.end) (s.ends x b (λ i g. f i (omega arith)))

  sweep : (x : ℕ → List ℤ) → In (vars_of m) p.box (x 0) → (j : ℕ) → j ≤ t.ticks → Ticks m x j → In (vars_of m) (after_step m p t).swept (x j)
  sweep x b j g f = inside_in (hull_right room p.swept (swept m p.box t)) (s.sweeps x b j g f)

  contains_next : Contains m clear p q (t.ticks + d)
  unfolding later
  contains_next = record {
    keeps = λ y h. r.keeps y (inside_in (hull_left room p.swept (swept m p.box t)) h);
    sweeps = λ x b w j. by_tick (λ j. j ≤ t.ticks + d → Ticks m x j → In (vars_of m) q.swept (x j)) t.ticks j
        (λ g l f. r.keeps (x j) (sweep x b j g f))
        (λ i z l f. r.sweeps (later x t.ticks) (onward x b i f)
        (later_start x t.ticks (In (vars_of m) (after_step m p t).swept) (sweep x b t.ticks (le_refl t.ticks) (λ i g. f i (omega arith)))) i (omega arith) (later_ticks x t.ticks i f));
    clears = λ x b j z. by_tick (λ j. j ≤ t.ticks + d → Ticks m x j → Cleared (vars_of m) clear (x j)) t.ticks j
        (λ g l f. record { box = swept m p.box t; clears = k; holds = s.sweeps x b j g f })
        (λ i z l f. r.clears (later x t.ticks) (onward x b i f) i (omega arith) (omega arith) (later_ticks x t.ticks i f));
    ends = λ x b f. r.ends (later x t.ticks) (onward x b d f) (later_ticks x t.ticks d f);
  }

pub steps_contain : {m : Machine} {clear : List ℤ → Bool} {w : ℕ} {q p : Place} → ValidNumbers m.sheet → StepsTo m clear w q p → Contains m clear p q (p.left - q.left)
steps_contain {m} {clear} {q = q} wf here = let e : 0 ≡ q.left - q.left = omega arith in subst (Contains m clear q q) e (contains_none q)
steps_contain {m} {clear} {w = w} {q = q} wf (next {p = p} {t = t} s k r) =
    let e : t.ticks + (p.left - t.ticks - q.left) ≡ p.left - q.left = omega (arith, steps_less r, s.some, s.most) in
    subst (Contains m clear p q) e (contains_next (room wf) p q (settled_sound wf s) k (steps_contain wf r))

-- ---- a reach

-- REACH: `ticks` ticks from a state of S end in the end box; up to there each state is in the swept box and, but in a reach of
-- no ticks, in a box that is clear
pub record Reaches (m : Machine) (clear : List ℤ → Bool) (S : List ℤ) (ticks : ℕ) (r : Reached) : Type 0 where
  pub sweeps : (x : ℕ → List ℤ) → In (vars_of m) S (x 0) → (j : ℕ) → j ≤ ticks → Ticks m x j → In (vars_of m) r.swept (x j)
  pub clears : (x : ℕ → List ℤ) → In (vars_of m) S (x 0) → (j : ℕ) → 0 < ticks → j ≤ ticks → Ticks m x j → Cleared (vars_of m) clear (x j)
  pub ends : (x : ℕ → List ℤ) → In (vars_of m) S (x 0) → Ticks m x ticks → In (vars_of m) r.end (x ticks)

pub ends_reach : {m : Machine} {clear : List ℤ → Bool} {w : ℕ} {S : List ℤ} {ticks : ℕ} {r : Reached} → ValidNumbers m.sheet → Ends m clear w (first_place S ticks) r → Reaches m clear S ticks r
ends_reach {m} {clear} {S} {ticks} {r} wf e =
    let q : ticks - 0 ≡ ticks = omega arith in
    let k = subst (Contains m clear (first_place S ticks) (last_place r)) q (steps_contain wf e.path) in
    record { sweeps = λ x b. k.sweeps x b b; clears = k.clears; ends = k.ends }

pub reach_sound : {m : Machine} (l : Bool) (a : ℕ) (clear : List ℤ → Bool) (w : ℕ) (S : List ℤ) (ticks c : ℕ) {r : Reached} {c' : ℕ} → ValidNumbers m.sheet
    → reach l a m clear w S ticks c ≡ ok r c' → Reaches m clear S ticks r
reach_sound l a clear zero S ticks c wf e = ends_reach wf (value_of (reach_zero l a clear S ticks c) e).0
reach_sound {m} l a clear (suc w) S ticks c wf e = ends_reach wf (value_of (reach_takes l a m clear (suc w) (suc w) (room wf) (omega arith) (below_power (suc w)) S ticks c) e).0

-- it covers every box inside S too
pub reaches_part : {m : Machine} {clear : List ℤ → Bool} {B S : List ℤ} {ticks : ℕ} {r : Reached} → Inside (vars_of m) B S → Reaches m clear S ticks r → Reaches m clear B ticks r
reaches_part s r = record { sweeps = λ x b. r.sweeps x (inside_in s b); clears = λ x b. r.clears x (inside_in s b); ends = λ x b. r.ends x (inside_in s b) }

-- ---- no-go boxes

-- a state of a box that is clear is in none of the first `count` no-go boxes
pub cleared_avoids : {n : ℕ} (v : List ℤ) (count : ℕ) {x : List ℤ} → Cleared n (clear n v count) x → (j : ℕ) → j < count → In n (unsafe_box v j) x → ⊥
cleared_avoids {n} v count c j h b = differ (meets_by c.holds b) (clear_at n v count c.box c.clears j h)
