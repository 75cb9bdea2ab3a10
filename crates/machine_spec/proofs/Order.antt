-- A wider box has wider rates, parts of a box have tighter ones, and the rates over two boxes that share a state are in order.
-- Assumes nothing.
use mathlib.Core.Path.{◌≡◌}
use mathlib.Core.Bool.{Bool, true, false, cond}
use mathlib.Core.List.{List}
use Prim.Native.Nat.{ℕ, zero, suc, ◌<◌}
use native.Mathlib.Omega.{arith}
use lib.Dec.{T}
use lib.IntN.{ℤ}
use lib.ListN.{length}
use lib.Signed.{◌≤ℤ◌}
use Rattle.integers.proofs.Z.{ints}
use Rattle.sheet_spec.specs.Slots.{◌!◌, Row}
use Rattle.machine_spec.specs.Box.{Ordered, In}
use Rattle.machine_spec.specs.Machine.{Machine, vars_of, bands_of, band_var_of, cap, row_of}
use Rattle.machine_spec.specs.Accepted.{Accepted}
use Rattle.machine_spec.specs.Rate.{outermost, bound, band_met, part, row_over, band_rate, rate}
use Rattle.machine_spec.proofs.Face.{Beyond, beyond_refl, beyond_sum, outer_mono, change_mono}
use Rattle.machine_spec.proofs.Inside.{Inside}
use Rattle.machine_spec.proofs.Facts.{cap_low, divisor}
use Rattle.machine_spec.proofs.Weighted.{wider_span, weighted_wider}
use Rattle.machine_spec.proofs.Offers.{over_wider, over_ordered}
use Rattle.machine_spec.proofs.Bands.{Band, meets_read, meets_show, meets_wider}
use Rattle.machine_spec.proofs.Part.{part_within, part_ordered, part_inside}
use Rattle.machine_spec.proofs.Sound.{change_between, beyond_neutral, rate_bounds}
use Rattle.machine_spec.proofs.Progress.{some_tick}

-- ---- a wider box has wider rates

outermost_mono : {up : Bool} (z : ℤ) (n : ℕ) (f g : ℕ → ℤ) → ((i : ℕ) → i < n → Beyond up (f i) (g i)) → Beyond up (outermost up z n f) (outermost up z n g)
unfolding outermost
outermost_mono {up} z zero f g h = beyond_refl up z
outermost_mono z (suc n) f g h = outer_mono (outermost_mono z n f g (λ i k. h i (omega arith))) (h n (omega arith))

-- over a wider box and more commands
bound_mono : (up : Bool) (n : ℕ) (r : Row) (A B : List ℤ) {u w u' w' : ℤ} → Ordered n A → Inside n A B → u ≤ℤ w → u' ≤ℤ u → w ≤ℤ w' → Beyond up (bound up n r B u' w') (bound up n r A u w)
unfolding bound
bound_mono up n r A B o s g i j = beyond_sum (beyond_sum (weighted_wider up n r.a A B o s) (wider_span up r.b g i j)) (beyond_refl up r.c)

cond_beyond : {up : Bool} (t t' : Bool) {x y z : ℤ} → (T t → T t') → (T t → Beyond up y x) → Beyond up y z → Beyond up (cond t' y z) (cond t x z)
cond_beyond true true f g h = g tt
cond_beyond true false f g h = absurd (f tt)
cond_beyond false true f g h = h
cond_beyond {up} false false {z = z} f g h = beyond_refl up z

module _ {m : Machine} (wf : Accepted m) {A B : List ℤ} (l : length A ≡ length B) (o : Ordered (vars_of m) A) (s : Inside (vars_of m) A B) where
  met_wider : (k : ℕ) → T (band_met m k A) → T (band_met m k B)
  met_wider k t = meets_show (meets_wider (s.at false (band_var_of m) wf.sheet.var).order (s.at true (band_var_of m) wf.sheet.var).order (meets_read t))

  share_mono : (up : Bool) (i k : ℕ) → i < vars_of m → k < bands_of m → Beyond up (band_rate up m B i k) (band_rate up m A i k)
  unfolding band_rate
  share_mono up i k h g =
      cond_beyond (band_met m k A) (band_met m k B) (met_wider k)
      (λ t.
      let u = part_ordered m wf.sheet k o t in
      let w = part_inside m wf.sheet k l s in
      change_mono up (cap m i) (row_of m k i) _ _ (divisor wf.sheet k i g h)
      (bound_mono up (vars_of m) (row_of m k i) (part m k A) (part m k B) u w (over_ordered wf k g _ u) (over_wider wf.sheet k g m.law _ _ u w false).order (over_wider wf.sheet k g m.law _ _ u w true).order))
      (beyond_neutral (change_between up (cap m i) (row_of m k i) _ (cap_low wf.sheet i h)) up)

  pub rate_mono : (up : Bool) (i : ℕ) → i < vars_of m → Beyond up (rate up m B i) (rate up m A i)
  unfolding rate
  rate_mono up i h = outermost_mono _ (bands_of m) _ _ (λ k g. share_mono up i k h g)

-- ---- TIGHTER: a row's number over the part of a box is no further out than over the whole box

pub part_tightens : {m : Machine} → Accepted m → (B : List ℤ) (up : Bool) (i k : ℕ) → k < bands_of m → Ordered (vars_of m) B → T (band_met m k B) → Beyond up (row_over up m B i k) (row_over up m (part m k B) i k)
part_tightens {m} wf B up i k g o t =
    let u = part_ordered m wf.sheet k o t in
    let w = part_within m wf.sheet k B in
    bound_mono up (vars_of m) (row_of m k i) (part m k B) B u w (over_ordered wf k g _ u) (over_wider wf.sheet k g m.law _ _ u w false).order (over_wider wf.sheet k g m.law _ _ u w true).order

-- ---- rates over two boxes that share a state

pub rates_ordered : {m : Machine} {x : List ℤ} (A B : List ℤ) (i : ℕ) → Accepted m → Band m.sheet (bands_of m) (x ! (band_var_of m)) → In (vars_of m) A x → In (vars_of m) B x → i < vars_of m → rate false m A i ≤ℤ rate true m B i
rates_ordered {m} {x} A B i wf b a c h =
    let t = (some_tick x wf b).tick in
    omega (ints, (rate_bounds wf.sheet t i h false A a).order, (rate_bounds wf.sheet t i h true B c).order)
