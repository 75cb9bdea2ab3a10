-- The rates bound every allowed change: over a box that holds the state, a tick changes a variable by no more than the rates
-- of its two faces, and never by more than its cap. Assumes nothing.
use mathlib.Core.Path.{◌≡◌}
use mathlib.Core.Bool.{Bool, true, false, not}
use mathlib.Core.List.{List}
use Prim.Native.Nat.{ℕ, ◌<◌}
use lib.Dec.{T}
use lib.IntN.{ℤ, pos, neg_ℤ, nat_abs, ◌-ℤ◌}
use lib.Signed.{◌≤ℤ◌, ≤ℤ_refl}
use Rattle.integers.specs.Order.{min_z}
use Rattle.integers.proofs.Z.{ints, min_is, max_is, neg}
use Rattle.sheet_spec.specs.Slots.{◌!◌, Row}
use Rattle.sheet_spec.specs.Valid.{Between, ValidNumbers}
use Rattle.machine_spec.specs.Box.{In}
use Rattle.machine_spec.specs.Machine.{Machine, vars_of, bands_of, band_var_of, cap, row_of, clamp, numerator, change, Tick}
use Rattle.machine_spec.specs.Rate.{outer, outermost, bound, band_met, part, offered_over, neutral, band_rate, rate}
use Rattle.machine_spec.proofs.Face.{Beyond, beyond_refl, beyond_trans, beyond_sum, span, change_mono, cond_one, cond_yes, outermost_one, outermost_at}
use Rattle.machine_spec.proofs.Facts.{cap_low, divisor}
use Rattle.machine_spec.proofs.Weighted.{weighted_holds}
use Rattle.machine_spec.proofs.Offers.{offered_between}
use Rattle.machine_spec.proofs.Bands.{meets_read, meets_show, meets_wider}
use Rattle.machine_spec.proofs.Part.{part_holds}

-- ---- a row over a box that holds the state, and over commands that hold the one used

pub bound_holds : (up : Bool) (n : ℕ) (r : Row) (B x : List ℤ) (u v w : ℤ) → In n B x → u ≤ℤ v → v ≤ℤ w → Beyond up (bound up n r B u w) (numerator n r x v)
unfolding bound numerator
bound_holds up n r B x u v w b h k =
    beyond_sum (beyond_sum (weighted_holds up n r.a B x b) (span up r.b u w v h k)) (beyond_refl up r.c)

-- what band k's share in the rates over B is worked out over holds the state x and the command u
pub record InPart (m : Machine) (B : List ℤ) (k : ℕ) (x : List ℤ) (u : ℤ) : Type 0 where
  pub meets : T (band_met m k B)
  pub state : In (vars_of m) (part m k B) x
  pub command : Between (offered_over false m k (part m k B)) (offered_over true m k (part m k B)) u

pub tick_in_part : {m : Machine} {x y : List ℤ} (B : List ℤ) → ValidNumbers m.sheet → In (vars_of m) B x → (t : Tick m x y) → InPart m B t.band x t.used
tick_in_part {m} {x} B wf b t = let s = part_holds m wf t.band B x b t.holds in record {
  meets = meets_show (meets_wider (b.low (band_var_of m) wf.var) (b.high (band_var_of m) wf.var) (meets_read t.holds));
  state = s;
  command = offered_between wf t.band t.among m.law (part m t.band B) x s t.offered;
}

-- ---- the rates

-- a band's share in a rate bounds the outermost change from every state, with every command, that it covers
pub share_bounds : {m : Machine} {B : List ℤ} {k : ℕ} {x : List ℤ} {u : ℤ} (up : Bool) (i : ℕ) → InPart m B k x u → 0 < nat_abs (row_of m k i).q
    → Beyond up (band_rate up m B i k) (change up (cap m i) (row_of m k i) (numerator (vars_of m) (row_of m k i) x u))
unfolding band_rate
share_bounds {m} {B} {k} {x} {u} up i c q =
    rw (cond_yes _ _ _ c.meets)
    (change_mono up (cap m i) (row_of m k i) _ _ q (bound_holds up (vars_of m) (row_of m k i) (part m k B) x _ u _ c.state c.command.low c.command.high))

-- a change lies within the cap
clamp_between : (c z : ℤ) → pos 0 ≤ℤ c → Between (neg_ℤ c) c (clamp c z)
unfolding clamp
clamp_between c z h = record { low = omega (ints, max_is (neg_ℤ c) (min_z z c)); high = omega (ints, max_is (neg_ℤ c) (min_z z c), min_is z c, neg c) }

pub change_between : (up : Bool) (c : ℤ) (r : Row) (n : ℤ) → pos 0 ≤ℤ c → Between (neg_ℤ c) c (change up c r n)
unfolding change
change_between false c r n h = clamp_between c _ h
change_between true c r n h = clamp_between c _ h

-- what lies within the cap is no further out than the one neutral value, and no further in than the other
pub neutral_beyond : {c y : ℤ} → Between (neg_ℤ c) c y → (up : Bool) → Beyond up (neutral (not up) c) y
unfolding neutral
neutral_beyond h false = record { order = h.low }
neutral_beyond h true = record { order = h.high }

pub beyond_neutral : {c y : ℤ} → Between (neg_ℤ c) c y → (up : Bool) → Beyond up y (neutral up c)
unfolding neutral
beyond_neutral h false = record { order = h.high }
beyond_neutral h true = record { order = h.low }

-- so it is the outer one of itself and the neutral value
pub outer_neutral : {c z : ℤ} → Between (neg_ℤ c) c z → (up : Bool) → outer up z (neutral up c) ≡ z
unfolding outer neutral
outer_neutral {c} {z} h false = omega (ints, min_is z c, h.high)
outer_neutral {c} {z} h true = omega (ints, max_is z (neg_ℤ c), h.low)

-- and it does not move the other value, which nothing goes beyond
pub outer_limit : {c z : ℤ} → Between (neg_ℤ c) c z → (up : Bool) → outer up (neutral (not up) c) z ≡ neutral (not up) c
unfolding outer neutral
outer_limit {c} {z} h false = omega (ints, min_is (neg_ℤ c) z, h.low)
outer_limit {c} {z} h true = omega (ints, max_is c z, h.high)

module _ {m : Machine} {x y : List ℤ} (wf : ValidNumbers m.sheet) (t : Tick m x y) (i : ℕ) (h : i < vars_of m) where
  allowed : (up : Bool) → Beyond up (change up (cap m i) (row_of m t.band i) (numerator (vars_of m) (row_of m t.band i) x t.used)) (y ! i -ℤ x ! i)
  allowed false = record { order = (t.change i h).above }
  allowed true = record { order = (t.change i h).below }

  -- a tick from a state of B changes variable i by no more than its rates over B
  pub rate_bounds : (up : Bool) (B : List ℤ) → In (vars_of m) B x → Beyond up (rate up m B i) (y ! i -ℤ x ! i)
  unfolding rate
  rate_bounds up B b =
      beyond_trans (outermost_at up _ (bands_of m) _ t.band t.among)
      (beyond_trans (share_bounds up i (tick_in_part B wf b t) (divisor wf t.band i t.among h)) (allowed up))

  -- and by no more than its cap
  pub cap_bounds : (up : Bool) → Beyond up (neutral (not up) (cap m i)) (y ! i -ℤ x ! i)
  cap_bounds up = beyond_trans (neutral_beyond (change_between up (cap m i) _ _ (cap_low wf i h)) up) (allowed up)

-- the rates too lie within the cap
neutral_between : (up : Bool) (c : ℤ) → pos 0 ≤ℤ c → Between (neg_ℤ c) c (neutral up c)
unfolding neutral
neutral_between false c h = record { low = omega (ints, neg c); high = ≤ℤ_refl c }
neutral_between true c h = record { low = ≤ℤ_refl (neg_ℤ c); high = omega (ints, neg c) }

pub share_between : (up : Bool) (m : Machine) (B : List ℤ) (i k : ℕ) → pos 0 ≤ℤ cap m i → Between (neg_ℤ (cap m i)) (cap m i) (band_rate up m B i k)
unfolding band_rate
share_between up m B i k h =
    cond_one (Between (neg_ℤ (cap m i)) (cap m i)) (band_met m k B) (change_between up (cap m i) (row_of m k i) _ h) (neutral_between up (cap m i) h)

-- the outermost of some bands' shares, and so a rate
pub outermost_between : (up : Bool) (m : Machine) (B : List ℤ) (i n : ℕ) → pos 0 ≤ℤ cap m i → Between (neg_ℤ (cap m i)) (cap m i) (outermost up (neutral up (cap m i)) n (band_rate up m B i))
outermost_between up m B i n h =
    outermost_one (Between (neg_ℤ (cap m i)) (cap m i)) up n (band_rate up m B i) (neutral_between up (cap m i) h) (λ k g. share_between up m B i k h)

pub rate_between : (up : Bool) (m : Machine) (B : List ℤ) (i : ℕ) → pos 0 ≤ℤ cap m i → Between (neg_ℤ (cap m i)) (cap m i) (rate up m B i)
unfolding rate
rate_between up m B i h = outermost_between up m B i (bands_of m) h
