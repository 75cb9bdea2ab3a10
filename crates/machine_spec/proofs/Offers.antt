-- What a law offers at a state lies within its bounds over a box that holds the state; and how far those bounds go. Assumes nothing.
use mathlib.Core.Path.{◌≡◌, refl}
use mathlib.Core.List.{List}
use mathlib.Core.Bool.{Bool, true, false}
use Prim.Native.Nat.{ℕ, ◌<◌}
use lib.IntN.{ℤ, nat_abs}
use lib.Signed.{◌≤ℤ◌, ≤ℤ_refl}
use Rattle.integers.specs.Bound.{Bound}
use Rattle.integers.specs.Order.{min_z}
use Rattle.integers.proofs.Z.{ints, min_is, max_is, bound_in}
use Rattle.integers.proofs.Division.{floor_le_ceil}
use Rattle.sheet_spec.specs.Limits.{max_command}
use Rattle.sheet_spec.specs.Slots.{vars, bands, least_command, greatest_command, safety_least, safety_greatest, band_kind, feedback}
use Rattle.sheet_spec.specs.Valid.{Between, ValidNumbers}
use Rattle.sheet_spec.specs.declared.BandKind.{BandKind}
use Rattle.sheet_spec.specs.declared.BandKind.TheVariants.{Fixed, Feedback}
use Rattle.machine_spec.specs.declared.Law.{Law}
use Rattle.machine_spec.specs.declared.Law.TheVariants.{Baseline, Span}
use Rattle.machine_spec.specs.Box.{Ordered, In}
use Rattle.machine_spec.specs.Machine.{Machine, machine, vars_of, bands_of, safety_end, span_end, outward_div, law_sum, baseline_end, offered_at, Offered}
use Rattle.machine_spec.specs.Accepted.{Lawful, Accepted}
use Rattle.machine_spec.specs.Rate.{law_over, offered_over}
use Rattle.machine_spec.proofs.Face.{Beyond, beyond_refl, clamp_to_mono, outward_mono}
use Rattle.machine_spec.proofs.Facts.{law_divisor}
use Rattle.machine_spec.proofs.Weighted.{law_holds, law_wider}
use Rattle.machine_spec.proofs.Inside.{Inside, corner}

-- ---- the plain law's ends

module _ {v : List ℤ} (wf : ValidNumbers v) (k : ℕ) (h : k < bands v) where
  -- they go out with the sum of the law
  end_mono : (b : BandKind) → band_kind v ≡ b → (up : Bool) {s t : ℤ} → Beyond up s t → Beyond up (baseline_end b up v k s) (baseline_end b up v k t)
  unfolding baseline_end
  end_mono Fixed e up o = beyond_refl up (safety_end up v k)
  end_mono Feedback e false {s} {t} o =
      record { order = clamp_to_mono (safety_least v k) (safety_greatest v k) (outward_mono false s t (nat_abs (feedback v k).q) (law_divisor wf e k h) o).order }
  end_mono Feedback e true {s} {t} o =
      record { order = clamp_to_mono (safety_least v k) (safety_greatest v k) (outward_mono true s t (nat_abs (feedback v k).q) (law_divisor wf e k h) o).order }

  -- at one sum the least is not above the greatest
  end_ordered : (b : BandKind) → band_kind v ≡ b → (s : ℤ) → baseline_end b false v k s ≤ℤ baseline_end b true v k s
  unfolding baseline_end outward_div
  end_ordered Fixed e s = wf.safety k h
  end_ordered Feedback e s = clamp_to_mono (safety_least v k) (safety_greatest v k) (floor_le_ceil s (nat_abs (feedback v k).q) (law_divisor wf e k h))

  -- and both lie in the safety range
  end_in_range : (b : BandKind) (up : Bool) (s : ℤ) → Between (safety_least v k) (safety_greatest v k) (baseline_end b up v k s)
  unfolding baseline_end
  end_in_range Fixed false s = record { low = ≤ℤ_refl (safety_least v k); high = wf.safety k h }
  end_in_range Fixed true s = record { low = wf.safety k h; high = ≤ℤ_refl (safety_greatest v k) }
  end_in_range Feedback up s =
      let z = outward_div up s (nat_abs (feedback v k).q) in
      let l = safety_least v k in
      let g = safety_greatest v k in
      record { low = omega (ints, max_is l (min_z z g)); high = omega (ints, max_is l (min_z z g), min_is z g, wf.safety k h) }

  -- ---- what a law offers

  -- neither the least nor the greatest command at a state of the box is beyond its bound
  over_beyond : (l : Law) (B x : List ℤ) → In (vars v) B x → (up : Bool) → Beyond up (offered_over up (machine v l) k B) (offered_at up (machine v l) k x)
  unfolding offered_at offered_over
  over_beyond Baseline B x b up = end_mono (band_kind v) refl up (law_holds up (vars v) (feedback v k) B x b)
  over_beyond (Span l g) B x b up = beyond_refl up (span_end up l g)

  -- OFFERED COMMANDS LIE WITHIN THE BOUNDS over a box that holds the state
  pub offered_between : (l : Law) (B x : List ℤ) {u : ℤ} → In (vars v) B x → Offered (machine v l) k x u → Between (offered_over false (machine v l) k B) (offered_over true (machine v l) k B) u
  offered_between l B x b o = record { low = omega (ints, (over_beyond l B x b false).order, o.low); high = omega (ints, (over_beyond l B x b true).order, o.high) }

  -- a wider box has wider bounds
  pub over_wider : (l : Law) (A B : List ℤ) → Ordered (vars v) A → Inside (vars v) A B → (up : Bool) → Beyond up (offered_over up (machine v l) k B) (offered_over up (machine v l) k A)
  unfolding offered_over
  over_wider Baseline A B o s up = end_mono (band_kind v) refl up (law_wider up (vars v) (feedback v k) A B o s)
  over_wider (Span l g) A B o s up = beyond_refl up (span_end up l g)

  -- the commands at a state are in order
  ordered_at : (l : Law) → Lawful v l → (x : List ℤ) → offered_at false (machine v l) k x ≤ℤ offered_at true (machine v l) k x
  unfolding offered_at
  ordered_at Baseline t x = end_ordered (band_kind v) refl (law_sum (vars v) (feedback v k) x)
  ordered_at (Span a b) t x = omega (ints, t.order)

  head_near : {u : ℤ} → Between (least_command v) (greatest_command v) u → Bound u max_command
  head_near b = bound_in (omega (ints, wf.commands_low, b.low)) (omega (ints, wf.commands_high, b.high))

  near_over : (l : Law) → Lawful v l → (up : Bool) (B : List ℤ) → Bound (offered_over up (machine v l) k B) max_command
  unfolding offered_over
  near_over Baseline t up B =
      let s = end_in_range (band_kind v) up (law_over up (vars v) (feedback v k) B) in
      head_near (record { low = omega (ints, wf.safety_low k h, s.low); high = omega (ints, wf.safety_high k h, s.high) })
  near_over (Span a b) t false B = head_near (record { low = t.low; high = omega (ints, t.order, t.high) })
  near_over (Span a b) t true B = head_near (record { low = omega (ints, t.low, t.order); high = t.high })

-- ---- of an accepted machine

module _ {m : Machine} (wf : Accepted m) (k : ℕ) (h : k < bands_of m) where
  -- some command is offered at every state
  pub offers_some : (x : List ℤ) → offered_at false m k x ≤ℤ offered_at true m k x
  offers_some x = ordered_at wf.sheet k h m.law wf.law x

  -- so the bounds over a box that is not empty are in order
  pub over_ordered : (B : List ℤ) → Ordered (vars_of m) B → offered_over false m k B ≤ℤ offered_over true m k B
  over_ordered B o =
      let c = corner o in
      omega (ints, (over_beyond wf.sheet k h m.law B B c false).order, offers_some B, (over_beyond wf.sheet k h m.law B B c true).order)

  pub over_near : (up : Bool) (B : List ℤ) → Bound (offered_over up m k B) max_command
  over_near up B = near_over wf.sheet k h m.law wf.law up B
