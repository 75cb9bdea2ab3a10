-- The ends of the plain law's commands over a box, as the code takes them from the band at a slot. Assumes nothing.
use mathlib.Core.Path.{◌≡◌, refl, ap, ◌∙◌}
use mathlib.Core.Bool.{Bool, true, false}
use mathlib.Core.List.{List}
use Prim.Native.Nat.{ℕ, ◌+◌, ◌<◌, ◌≤◌}
use native.Mathlib.Omega.{arith}
use lib.Dec.{lit≤}
use lib.IntN.{ℤ, pos, nat_abs, ◌*ℤ◌}
use lib.Signed.{◌≤ℤ◌}
use Rattle.integers.specs.Bound.{Bound}
use Rattle.integers.specs.Order.{min_z}
use Rattle.integers.proofs.Z.{ints, flat, neg, min_is, max_is, bound_in, bound_less}
use Rattle.sheet_spec.specs.Limits.{max_command}
use Rattle.sheet_spec.specs.Slots.{◌!◌, N, band_size, band_slot, slots, least_in_band, greatest_in_band, law_in_band, divisor_in_law, vars, bands, band_kind, feedback_at}
use Rattle.sheet_spec.specs.Valid.{ValidNumbers}
use Rattle.sheet_spec.specs.declared.BandKind.TheVariants.{Feedback}
use Rattle.machine_spec.specs.declared.Law.TheVariants.{Baseline}
use Rattle.machine_spec.specs.Box.{Ordered}
use Rattle.machine_spec.specs.Machine.{machine, clamp_to, outward_div, baseline_end}
use Rattle.machine_spec.specs.Rate.{law_over, outer}
use Rattle.machine_spec.proofs.Face.{outer_one}
use Rattle.machine_spec.proofs.Offers.{over_ordered}
use Rattle.boxes_arithmetic.specs.Limits.{word}
use Rattle.boxes_rates.specs.Limits.{BandAt, end_over}
use Rattle.boxes_rates.proofs.Rates.{over_plain}

module _ {v : List ℤ} (wf : ValidNumbers v) {at : ℕ} (slot : BandAt v at) where
  -- the band's numbers are within the value
  pub band_room : at + band_size ≤ slots
  band_room = omega (arith, slot.place, slot.among, wf.bands_high)

  -- a slot is that of one band
  pub band_among : (k : ℕ) → at ≡ band_slot k → k < bands v
  band_among k p = omega (arith, p, slot.place, slot.among)

-- what is read at a band's slot is the end of the law that follows the state
pub end_at : (up : Bool) (v : List ℤ) (at n : ℕ) (B : List ℤ) (k : ℕ) → at ≡ band_slot k → n ≡ vars v
    → clamp_to (v ! (at + least_in_band)) (v ! (at + greatest_in_band)) (outward_div up (law_over up n (feedback_at v (at + law_in_band)) B) (nat_abs (v ! (at + law_in_band + (N + divisor_in_law))))) ≡ end_over Feedback up v k B
unfolding baseline_end
end_at up v at n B k p e =
    let q : at + law_in_band + (N + divisor_in_law) ≡ at + law_in_band + N + divisor_in_law = omega arith in
    let read : ℕ → ℕ → ℕ → ℤ = λ i j n. clamp_to (v ! (i + least_in_band)) (v ! (i + greatest_in_band)) (outward_div up (law_over up n (feedback_at v (i + law_in_band)) B) (nat_abs (v ! j))) in
    ap (λ (j : ℕ). read at j n) q ∙ ap (λ (i : ℕ). read i (i + law_in_band + N + divisor_in_law) n) p ∙ ap (λ (n : ℕ). read (band_slot k) (band_slot k + law_in_band + N + divisor_in_law) n) e

-- a clamped number goes no further than its range
pub clamp_near : {l h : ℤ} (y : ℤ) {b : ℕ} → Bound l b → Bound h b → l ≤ℤ h → Bound (clamp_to l h y) b
clamp_near {l} {h} y {b} p q o =
    bound_in (omega (ints, p.at_most, neg (pos b), max_is l (min_z y h))) (omega (ints, q.at_most, o, max_is l (min_z y h), min_is y h))

-- so does an end of the law that follows the state: its range is the safety range
pub end_near : {v : List ℤ} → ValidNumbers v → (up : Bool) (k : ℕ) → k < bands v → (B : List ℤ) → Bound (end_over Feedback up v k B) word
unfolding baseline_end
end_near {v} wf up k h B =
    clamp_near _
    (bound_less {B = max_command} (bound_in (omega (ints, wf.commands_low, wf.safety_low k h)) (omega (ints, wf.safety k h, wf.safety_high k h, wf.commands_high))) (lit≤ tt))
    (bound_less {B = max_command} (bound_in (omega (ints, wf.commands_low, wf.safety_low k h, wf.safety k h)) (omega (ints, wf.safety_high k h, wf.commands_high))) (lit≤ tt))
    (wf.safety k h)

-- over a box that is not empty the least end is not above the greatest
pub ends_ordered : {v : List ℤ} → ValidNumbers v → band_kind v ≡ Feedback → (B : List ℤ) → Ordered (vars v) B → (k : ℕ) → k < bands v → end_over Feedback false v k B ≤ℤ end_over Feedback true v k B
ends_ordered {v} wf e B o k h =
    let least = over_plain {l = Baseline} false v k B refl e in
    let greatest = over_plain {l = Baseline} true v k B refl e in
    omega (ints, over_ordered {m = machine v Baseline} (record { sheet = wf; law = tt }) k h B o, least, greatest)

-- a coefficient of 0 has no term
pub no_term : (up : Bool) {c : ℤ} (x y : ℤ) → c ≡ pos 0 → pos 0 ≡ outer up (c *ℤ x) (c *ℤ y)
no_term up {c} x y e = outer_one (λ z. pos 0 ≡ z) up (rw e (simp flat (omega ints))) (rw e (simp flat (omega ints)))
