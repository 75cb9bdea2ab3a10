-- Runs go on: from every state that has a band some tick is allowed. Assumes nothing.
use mathlib.Core.Path.{◌≡◌, ◌∙◌}
use mathlib.Core.List.{List}
use mathlib.Core.Bool.{true, false}
use Prim.Native.Nat.{ℕ, ◌≤◌, ◌<◌}
use native.Mathlib.Omega.{arith}
use lib.IntN.{ℤ, pos, nat_abs, ◌+ℤ◌, ◌-ℤ◌}
use lib.ListN.{take, length, length-take}
use lib.Seq.{get_or-take}
use lib.Signed.{◌≤ℤ◌, ≤ℤ_refl}
use Rattle.integers.proofs.Z.{ints, flat}
use Rattle.integers.proofs.Division.{floor_le_ceil, ceil_mono}
use Rattle.sheet_spec.specs.Slots.{◌!◌, N, Row}
use Rattle.machine_spec.specs.Box.{box_of}
use Rattle.machine_spec.specs.Machine.{Machine, vars_of, bands_of, band_var_of, cap, row_of, offered_at, numerator, change, Tick}
use Rattle.machine_spec.specs.Accepted.{Accepted}
use Rattle.machine_spec.proofs.Box.{sides_lo, sides_length}
use Rattle.machine_spec.proofs.Face.{clamp_mono}
use Rattle.machine_spec.proofs.Bands.{Band}
use Rattle.machine_spec.proofs.Facts.{room, divisor}
use Rattle.machine_spec.proofs.Offers.{offers_some}

pub change_ordered : (c : ℤ) (r : Row) (n : ℤ) → 0 < nat_abs r.q → pos 0 ≤ℤ r.d → change false c r n ≤ℤ change true c r n
unfolding change
change_ordered c r n q d =
    let a = floor_le_ceil (n -ℤ r.d) (nat_abs r.q) q in
    let b = ceil_mono (n -ℤ r.d) (n +ℤ r.d) (nat_abs r.q) q (simp flat (omega ints)) in
    clamp_mono c (omega ints)

-- ---- a tick

-- the state whose numbers are f 0, .. f (n − 1)
state_of : ℕ → (ℕ → ℤ) → List ℤ
state_of n f = take n (box_of n f f)

state_length : (n : ℕ) (f : ℕ → ℤ) → n ≤ N → length (state_of n f) ≡ n
unfolding state_of
state_length n f h = omega (arith, length-take n (box_of n f f), sides_length n f f)

state_at : (n : ℕ) (f : ℕ → ℤ) (i : ℕ) → n ≤ N → i < n → state_of n f ! i ≡ f i
unfolding state_of
state_at n f i h k = get_or-take n (box_of n f f) i (pos 0) k ∙ sides_lo f f n i h k

pub record Next (m : Machine) (x : List ℤ) : Type 0 where
  pub next : List ℤ
  pub tick : Tick m x next

-- each variable takes its least allowed change under the least command that the law offers
pub some_tick : {m : Machine} (x : List ℤ) → Accepted m → Band m.sheet (bands_of m) (x ! (band_var_of m)) → Next m x
some_tick {m} x wf b = record {
  next = state_of (vars_of m) (λ i. x ! i +ℤ f i);
  tick = record {
    size = state_length (vars_of m) _ (room wf.sheet);
    band = b.band;
    among = b.among;
    holds = b.holds;
    used = u;
    offered = record { low = ≤ℤ_refl u; high = offers_some wf b.band b.among x };
    change = λ i h. rw (state_at (vars_of m) (λ i. x ! i +ℤ f i) i (room wf.sheet) h) (record {
      above = simp flat (omega ints);
      below = simp flat (omega (ints, change_ordered (cap m i) (row_of m b.band i) (numerator (vars_of m) (row_of m b.band i) x u) (divisor wf.sheet b.band i b.among h) (wf.sheet.rows b.band i b.among h).d.low));
    });
  };
}
  where
    u : ℤ
    u = offered_at false m b.band x

    f : ℕ → ℤ
    f i = change false (cap m i) (row_of m b.band i) (numerator (vars_of m) (row_of m b.band i) x u)
