-- Boxes by their faces: the states they hold, boxes inside boxes, hulls, moved boxes, the tests. Assumes nothing.
use mathlib.Core.Path.{◌≡◌, refl, ◌∙◌}
use mathlib.Core.Bool.{Bool, true, false, not}
use mathlib.Core.List.{List}
use Prim.Native.Nat.{ℕ, ◌≤◌, ◌<◌}
use lib.IntN.{ℤ, pos, ◌+ℤ◌, ◌*ℤ◌}
use lib.Signed.{◌≤ℤ◌, ≤ℤ_refl}
use Rattle.integers.specs.Order.{min_z, max_z}
use Rattle.integers.proofs.Z.{ints, le_true, min_is, max_is}
use Rattle.sheet_spec.specs.Slots.{◌!◌, N}
use Rattle.sheet_spec.specs.Box.{lo, hi, meets}
use Rattle.machine_spec.specs.Box.{side, Ordered, In, trim, hull, within, moved}
use Rattle.machine_spec.specs.Machine.{Machine, vars_of}
use Rattle.machine_spec.specs.Rate.{outer, face_rate, rates}
use Rattle.sheet_spec.proofs.Box.{le_is, and_both, all_at, all_of}
use Rattle.machine_spec.proofs.Box.{sides_lo, sides_hi, sides_same, hull_lo, hull_hi, moved_lo, moved_hi, trim_lo, trim_hi, within_at}
use Rattle.machine_spec.proofs.Face.{Beyond, beyond_refl, beyond_trans, outer_left, outer_right, outer_in}

-- ---- the sides of a box that is made of others

module _ (n i : ℕ) (room : n ≤ N) (h : i < n) where
  pub hull_side : (up : Bool) (A B : List ℤ) → side up (hull n A B) i ≡ outer up (side up A i) (side up B i)
  unfolding outer
  hull_side false A B = hull_lo n i room h A B
  hull_side true A B = hull_hi n i room h A B

  pub moved_side_lem : (up : Bool) (A : List ℤ) (k : ℕ) (r : List ℤ) → side up (moved n A k r) i ≡ side up A i +ℤ pos k *ℤ side up r i
  moved_side_lem false A k r = moved_lo n i room h A k r
  moved_side_lem true A k r = moved_hi n i room h A k r

  pub trim_side : (up : Bool) (B : List ℤ) → side up (trim n B) i ≡ side up B i
  trim_side false B = trim_lo n i room h B
  trim_side true B = trim_hi n i room h B

module _ (m : Machine) (i : ℕ) (room : vars_of m ≤ N) (h : i < vars_of m) where
  pub rates_side : (up : Bool) (S : List ℤ) (k : ℕ) (E : List ℤ) → side up (rates m S k E) i ≡ face_rate up m S k E i
  unfolding rates
  rates_side false S k E = sides_lo _ _ (vars_of m) i room h
  rates_side true S k E = sides_hi _ _ (vars_of m) i room h

  -- S with each face moved by j of its rates
  pub lift_side : (up : Bool) (S : List ℤ) (k : ℕ) (E : List ℤ) (j : ℕ) → side up (moved (vars_of m) S j (rates m S k E)) i ≡ side up S i +ℤ pos j *ℤ face_rate up m S k E i
  lift_side up S k E j = rw (← rates_side up S k E) (moved_side_lem (vars_of m) i room h up S j (rates m S k E))

-- ---- states

pub in_side : {n : ℕ} {B x : List ℤ} → In n B x → (up : Bool) (i : ℕ) → i < n → Beyond up (side up B i) (x ! i)
in_side b false i h = record { order = b.low i h }
in_side b true i h = record { order = b.high i h }

pub in_by : {n : ℕ} {B x : List ℤ} → ((up : Bool) (i : ℕ) → i < n → Beyond up (side up B i) (x ! i)) → In n B x
in_by f = record { low = λ i h. (f false i h).order; high = λ i h. (f true i h).order }

-- two boxes that hold a state share one
pub meets_by : {n : ℕ} {A B x : List ℤ} → In n A x → In n B x → meets n A B ≡ true
unfolding meets
meets_by {n} {A} {B} {x} a b =
    all_of n _ (λ i h. rw (le_is (lo A i) (hi B i) (omega (ints, a.low i h, b.high i h)), le_is (lo B i) (hi A i) (omega (ints, b.low i h, a.high i h))) refl)

-- ---- A lies in B, side by side

pub record Inside (n : ℕ) (A B : List ℤ) : Type 0 where
  pub at : (up : Bool) (i : ℕ) → i < n → Beyond up (side up B i) (side up A i)

pub inside_refl : {n : ℕ} (A : List ℤ) → Inside n A A
inside_refl A = record { at = λ up i h. beyond_refl up (side up A i) }

pub inside_trans : {n : ℕ} {A B C : List ℤ} → Inside n A B → Inside n B C → Inside n A C
inside_trans a b = record { at = λ up i h. beyond_trans (b.at up i h) (a.at up i h) }

-- in each variable the ranges of two boxes that share a state do
meets_at : (n : ℕ) (A B : List ℤ) (i : ℕ) → i < n → meets n A B ≡ true → (lo A i ≤ℤ hi B i) × (lo B i ≤ℤ hi A i)
unfolding meets
meets_at n A B i h e = let b = and_both _ _ (all_at n _ i e h) in (le_true _ _ b.0, le_true _ _ b.1)

-- a box meets what a box inside it meets
pub inside_meets : {n : ℕ} {A B : List ℤ} (U : List ℤ) → Inside n A B → meets n A U ≡ true → meets n B U ≡ true
unfolding meets
inside_meets {n} {A} {B} U s e =
    all_of n _
    (λ i h.
    let m = meets_at n A U i h e in
    rw (le_is (lo B i) (hi U i) (omega (ints, m.0, (s.at false i h).order)), le_is (lo U i) (hi B i) (omega (ints, m.1, (s.at true i h).order))) refl)

pub inside_in : {n : ℕ} {A B x : List ℤ} → Inside n A B → In n A x → In n B x
inside_in s a = in_by (λ up i h. beyond_trans (s.at up i h) (in_side a up i h))

pub within_inside : {n : ℕ} (A B : List ℤ) → within n A B ≡ true → Inside n A B
within_inside {n} A B e = record { at = at }
  where
    at : (up : Bool) (i : ℕ) → i < n → Beyond up (side up B i) (side up A i)
    at false i h = record { order = (within_at n A B i h e).0 }
    at true i h = record { order = (within_at n A B i h e).1 }

pub inside_within : {n : ℕ} {A B : List ℤ} → Inside n A B → within n A B ≡ true
unfolding within
inside_within {n} s = all_of n _ (λ i h. rw (le_is _ _ (s.at false i h).order, le_is _ _ (s.at true i h).order) refl)

-- the hull is the least box that both lie in
module _ {n : ℕ} (room : n ≤ N) (A B : List ℤ) where
  pub hull_left : Inside n A (hull n A B)
  hull_left = record { at = λ up i h. rw (hull_side n i room h up A B) (outer_left up (side up A i) (side up B i)) }

  pub hull_right : Inside n B (hull n A B)
  hull_right = record { at = λ up i h. rw (hull_side n i room h up A B) (outer_right up (side up A i) (side up B i)) }

  pub hull_least : {C : List ℤ} → Inside n A C → Inside n B C → Inside n (hull n A B) C
  hull_least a b = record { at = λ up i h. rw (hull_side n i room h up A B) (outer_in up _ _ _ (a.at up i h) (b.at up i h)) }

pub trim_holds : {n : ℕ} → n ≤ N → (B : List ℤ) → Inside n B (trim n B)
trim_holds {n} room B = record { at = λ up i h. rw (trim_side n i room h up B) (beyond_refl up (side up B i)) }

-- the hull of a box and of a hull that it lies in is that hull
pub hull_absorbs : {n : ℕ} → n ≤ N → (A B C : List ℤ) → Inside n A (hull n B C) → hull n A (hull n B C) ≡ hull n B C
unfolding hull
hull_absorbs {n} room A B C s =
    let H = hull n B C in
    sides_same n _ _ _ _ (λ i h.
    let low : min_z (lo A i) (lo H i) ≡ lo H i = omega (ints, min_is (lo A i) (lo H i), (s.at false i h).order) in
    let high : max_z (hi A i) (hi H i) ≡ hi H i = omega (ints, max_is (hi A i) (hi H i), (s.at true i h).order) in
    (low ∙ hull_lo n i room h B C, high ∙ hull_hi n i room h B C))

-- ---- no variable's lower side is above its upper one

pub ordered_side : {n : ℕ} {B : List ℤ} → Ordered n B → (up : Bool) (i : ℕ) → i < n → Beyond up (side up B i) (side (not up) B i)
ordered_side o false i h = record { order = o.at i h }
ordered_side o true i h = record { order = o.at i h }

pub ordered_by : {n : ℕ} {B : List ℤ} (up : Bool) → ((i : ℕ) → i < n → Beyond up (side up B i) (side (not up) B i)) → Ordered n B
ordered_by false f = record { at = λ i h. (f i h).order }
ordered_by true f = record { at = λ i h. (f i h).order }

pub inside_ordered : {n : ℕ} {A B : List ℤ} → Inside n A B → Ordered n A → Ordered n B
inside_ordered s o = record { at = λ i h. omega (ints, (s.at false i h).order, o.at i h, (s.at true i h).order) }

-- such a box holds its lower corner
pub corner : {n : ℕ} {B : List ℤ} → Ordered n B → In n B B
corner {B} o = record { low = λ i h. ≤ℤ_refl (lo B i); high = o.at }
