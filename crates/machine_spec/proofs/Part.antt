-- The part of a box that lies in a band: it holds the box's states that are in the band, it lies in the box, it is wider in a wider
-- one, and never empty where the box meets the band. Assumes nothing.
use mathlib.Core.Path.{◌≡◌, refl, ◌∙◌}
use mathlib.Core.Bool.{Bool, true, false}
use mathlib.Core.List.{List}
use Prim.Native.Nat.{ℕ, ◌+◌, ◌≤◌, ◌<◌}
use native.Mathlib.Omega.{arith}
use lib.Dec.{T, leb, leb→le, nleb→lt}
use lib.IntN.{ℤ, pos, ◌-ℤ◌}
use lib.ListN.{length}
use lib.Signed.{◌≤ℤ◌, ◌<ℤ◌}
use borrow.Author.Tests.{le-leb, lt-leb}
use Rattle.integers.specs.Order.{min_z}
use Rattle.integers.proofs.Z.{ints, sub, min_is, max_is}
use Rattle.sheet_spec.specs.Slots.{◌!◌, N, edge}
use Rattle.sheet_spec.specs.Box.{lo, hi}
use Rattle.sheet_spec.specs.Valid.{ValidNumbers}
use Rattle.machine_spec.specs.Box.{side, Ordered, In}
use Rattle.machine_spec.specs.Machine.{Machine, vars_of, bands_of, band_var_of, band_holds}
use Rattle.machine_spec.specs.Rate.{band_met, cut_to_band, part}
use Rattle.machine_spec.proofs.Box.{set_two}
use Rattle.machine_spec.proofs.Face.{Beyond, beyond_refl, cond_cases}
use Rattle.machine_spec.proofs.Inside.{in_side, in_by, Inside}
use Rattle.machine_spec.proofs.Facts.{room}
use Rattle.machine_spec.proofs.Bands.{Meets, meets_read, edge_below}

-- ---- a side that is cut to band k

module _ (m : Machine) (k : ℕ) where
  -- just below the next edge
  abbrev last : ℤ
  last = edge m.sheet (k + 1) -ℤ pos 1

  cut_last : (h : ℤ) → bands_of m ≤ k + 1 → cut_to_band true m k h ≡ h
  unfolding cut_to_band
  cut_last h e = rw (le-leb (bands_of m) (k + 1) e) refl

  cut_next : (h : ℤ) → k + 1 < bands_of m → cut_to_band true m k h ≡ min_z h last
  unfolding cut_to_band
  cut_next h e = rw (lt-leb (bands_of m) (k + 1) e) refl

  cut_cases : (P : ℤ → Type 0) (h : ℤ) → (bands_of m ≤ k + 1 → P h) → (k + 1 < bands_of m → P (min_z h last)) → P (cut_to_band true m k h)
  unfolding cut_to_band
  cut_cases P h f g = cond_cases P (leb (bands_of m) (k + 1)) (λ t. f (leb→le (bands_of m) (k + 1) t)) (λ t. g (nleb→lt (bands_of m) (k + 1) t))

  -- a side that does not reach beyond the band stays; one that does becomes the band's own
  pub low_stays : {l : ℤ} → edge m.sheet k ≤ℤ l → cut_to_band false m k l ≡ l
  unfolding cut_to_band
  low_stays {l} h = omega (ints, max_is l (edge m.sheet k))

  pub low_cut : {l : ℤ} → l ≤ℤ edge m.sheet k → cut_to_band false m k l ≡ edge m.sheet k
  unfolding cut_to_band
  low_cut {l} h = omega (ints, max_is l (edge m.sheet k))

  pub high_stays : {h : ℤ} → (k + 1 < bands_of m → h <ℤ edge m.sheet (k + 1)) → cut_to_band true m k h ≡ h
  high_stays {h} n = cut_cases (λ z. z ≡ h) h (λ e. refl) (λ e. omega (ints, n e, min_is h last, sub (edge m.sheet (k + 1)) (pos 1)))

  pub high_cut : {h : ℤ} → k + 1 < bands_of m → edge m.sheet (k + 1) ≤ℤ h → cut_to_band true m k h ≡ last
  high_cut {h} e g = cut_next h e ∙ omega (ints, g, min_is h last, sub (edge m.sheet (k + 1)) (pos 1))

  cut_inward : (up : Bool) (s : ℤ) → Beyond up s (cut_to_band up m k s)
  unfolding cut_to_band
  cut_inward false s = record { order = omega (ints, max_is s (edge m.sheet k)) }
  cut_inward true s = cut_cases (Beyond true s) s (λ e. beyond_refl true s) (λ e. record { order = omega (ints, min_is s last) })

  cut_mono : {up : Bool} {s t : ℤ} → Beyond up s t → Beyond up (cut_to_band up m k s) (cut_to_band up m k t)
  unfolding cut_to_band
  cut_mono {up = false} {s} {t} h = record { order = omega (ints, max_is s (edge m.sheet k), max_is t (edge m.sheet k)) }
  cut_mono {up = true} {s} {t} h =
      cut_cases (λ z. Beyond true z (cut_to_band true m k t)) s (λ e. rw (cut_last t e) h)
      (λ e. rw (cut_next t e) (record { order = omega (ints, h.order, min_is s last, min_is t last) }))

  -- a number of the band stays inside
  cut_holds : {x : ℤ} → Meets m.sheet (bands_of m) k x x → (up : Bool) (s : ℤ) → Beyond up s x → Beyond up (cut_to_band up m k s) x
  unfolding cut_to_band
  cut_holds {x} b false s h = record { order = omega (ints, h.order, b.above, max_is s (edge m.sheet k)) }
  cut_holds {x} b true s h =
      cut_cases (λ z. Beyond true z x) s (λ e. h) (λ e. record { order = omega (ints, h.order, b.below e, min_is s last, sub (edge m.sheet (k + 1)) (pos 1)) })

  -- the sides of a range that the band meets stay in order
  cut_ordered : ValidNumbers m.sheet → {l h : ℤ} → l ≤ℤ h → Meets m.sheet (bands_of m) k l h → cut_to_band false m k l ≤ℤ cut_to_band true m k h
  unfolding cut_to_band
  cut_ordered wf {l} {h} o b =
      cut_cases (λ z. cut_to_band false m k l ≤ℤ z) h (λ e. omega (ints, o, b.above, max_is l (edge m.sheet k)))
      (λ e. omega (ints, o, b.above, b.below e, max_is l (edge m.sheet k), min_is h last, sub (edge m.sheet (k + 1)) (pos 1), edge_below wf k e))

-- ---- the part

module _ (m : Machine) (wf : ValidNumbers m.sheet) (k : ℕ) where
  -- what relates a side of two boxes, and the two cut sides if it is the band variable's, relates it in their parts
  sides_both : (face : Bool) (R : ℤ → ℤ → Type 0) (A B : List ℤ) (j : ℕ) → length A ≡ length B → j < vars_of m → R (side face A j) (side face B j)
      → (j ≡ band_var_of m → R (cut_to_band face m k (side face A (band_var_of m))) (cut_to_band face m k (side face B (band_var_of m)))) → R (side face (part m k A) j) (side face (part m k B) j)
  unfolding part
  sides_both false R A B j e h r f = set_two R A B (band_var_of m) (band_var_of m + N) j _ _ _ _ e r f (λ q. absurd (omega (arith, room wf)))
  sides_both true R A B j e h r f = set_two R A B (band_var_of m) (band_var_of m + N) (j + N) _ _ _ _ e r (λ q. absurd (omega (arith, room wf, wf.var))) (λ q. f (omega arith))

  -- the same of one
  sides_one : (face : Bool) (P : ℤ → Type 0) (B : List ℤ) (j : ℕ) → j < vars_of m → P (side face B j) → (j ≡ band_var_of m → P (cut_to_band face m k (side face B (band_var_of m)))) → P (side face (part m k B) j)
  sides_one face P B j h p f = sides_both face (λ a b. P a) B B j refl h p f

  -- A STATE OF THE BOX IN BAND K IS IN ITS PART
  pub part_holds : (B x : List ℤ) → In (vars_of m) B x → T (band_holds m k x) → In (vars_of m) (part m k B) x
  part_holds B x b t =
      in_by (λ up j h. sides_one up (λ a. Beyond up a (x ! j)) B j h (in_side b up j h)
      (λ q. rw q (cut_holds m k (meets_read t) up _ (in_side b up (band_var_of m) wf.var))))

  pub part_within : (B : List ℤ) → Inside (vars_of m) (part m k B) B
  part_within B = record { at = λ up j h. sides_one up (λ a. Beyond up (side up B j) a) B j h (beyond_refl up (side up B j)) (λ q. rw q (cut_inward m k up (side up B (band_var_of m)))) }

  pub part_inside : {A B : List ℤ} → length A ≡ length B → Inside (vars_of m) A B → Inside (vars_of m) (part m k A) (part m k B)
  part_inside {A} {B} e s = record { at = λ up j h. sides_both up (λ a b. Beyond up b a) A B j e h (s.at up j h) (λ q. cut_mono m k (s.at up (band_var_of m) wf.var)) }

  -- NEVER EMPTY where the band is met
  pub part_ordered : {B : List ℤ} → Ordered (vars_of m) B → T (band_met m k B) → Ordered (vars_of m) (part m k B)
  part_ordered {B} o t = record {
    at = λ j h. sides_one false (λ a. a ≤ℤ hi (part m k B) j) B j h
        (sides_one true (λ b. lo B j ≤ℤ b) B j h (o.at j h) (λ q. rw q (omega (ints, low.order, cut))))
        (λ q. sides_one true (λ b. cut_to_band false m k (lo B (band_var_of m)) ≤ℤ b) B j h (rw q (omega (ints, high.order, cut))) (λ _. cut));
  }
    where
      cut : cut_to_band false m k (lo B (band_var_of m)) ≤ℤ cut_to_band true m k (hi B (band_var_of m))
      cut = cut_ordered m k wf (o.at (band_var_of m) wf.var) (meets_read t)

      low : Beyond false (lo B (band_var_of m)) (cut_to_band false m k (lo B (band_var_of m)))
      low = cut_inward m k false (lo B (band_var_of m))

      high : Beyond true (hi B (band_var_of m)) (cut_to_band true m k (hi B (band_var_of m)))
      high = cut_inward m k true (hi B (band_var_of m))
