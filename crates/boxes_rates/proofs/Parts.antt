-- A rate, band by band: from the first band that a box meets to the last, each over the part of the box that lies in it. The parts are
-- made in the box itself by two sides, which are put back. Assumes nothing.
use mathlib.Core.Path.{◌≡◌, refl, sym, ap, ◌∙◌}
use mathlib.Core.Bool.{Bool, true, false, not, ◌&&◌}
use mathlib.Core.List.{List}
use Prim.Native.Nat.{ℕ, zero, suc, ◌+◌, ◌<◌}
use native.Mathlib.Nat.{add-zero, add-suc}
use native.Mathlib.Numerals.{unary_clauses}
use native.Mathlib.Omega.{arith}
use lib.Dec.{leb, nleb→lt}
use lib.IntN.{ℤ, pos}
use lib.ListN.{set}
use lib.Seq.{set-set, set_comm}
use lib.Signed.{le_z, ◌≤ℤ◌, ◌<ℤ◌}
use borrow.Author.Tests.{lt-leb}
use Rattle.integers.proofs.Z.{ints, le_true, le_false}
use Rattle.sheet_spec.specs.Slots.{◌!◌, N, band_size, band_slot, bands, edge}
use Rattle.sheet_spec.specs.Box.{lo, hi}
use Rattle.sheet_spec.specs.Valid.{ValidNumbers}
use Rattle.machine_spec.specs.Machine.{Machine, bands_of, band_var_of, cap, row_of, change}
use Rattle.machine_spec.specs.Rate.{outermost, band_met, cut_to_band, part, row_over, neutral, band_rate}
use Rattle.sheet_spec.proofs.Box.{differ}
use Rattle.machine_spec.proofs.Bands.{Meets, meets_read, meets_show, edge_below, edges_ascend}
use Rattle.machine_spec.proofs.Part.{low_stays, low_cut}
use Rattle.machine_spec.proofs.Sound.{share_between, outer_neutral, outer_limit, outermost_between}
use Rattle.machine_spec.proofs.Face.{cond_yes, cond_no}
use Rattle.boxes_rates.specs.Plant.{next_starts_by, FirstBand}
use Rattle.boxes_rates.proofs.Cut.{put_back, set_own}

-- ---- whether the next band starts at or below a number

-- the slots are those of band k and of the last band
module _ (v : List ℤ) (k last : ℕ) {at : ℕ} (x : ℤ) (p : at ≡ band_slot k) (q : last + band_size ≡ band_slot (bands v)) where
  next_place : at + band_size ≡ band_slot (k + 1)
  next_place = omega (arith, p)

  pub starts_yes : next_starts_by v last at x ≡ true → (k + 1 < bands v) × (edge v (k + 1) ≤ℤ x)
  unfolding next_starts_by
  starts_yes e = by (leb last at) refl e
    where
      by : (t : Bool) → leb last at ≡ t → (not t && le_z (v ! (at + band_size)) x) ≡ true → (k + 1 < bands v) × (edge v (k + 1) ≤ℤ x)
      by true u e = absurd (differ e refl)
      by false u e = (let less : at < last = nleb→lt last at (rw u tt) in omega (arith, p, q), rw next_place at (le_true (v ! (at + band_size)) x e))

  pub starts_no : next_starts_by v last at x ≡ false → k + 1 < bands v → x <ℤ edge v (k + 1)
  unfolding next_starts_by
  starts_no e h = rw next_place at (le_false (v ! (at + band_size)) x (rw (lt-leb last at (omega (arith, p, q))) at e))

-- ---- the bands that are met

-- the first band with a number from l on starts at or below l, and is met by what reaches from l to h
module _ {v : List ℤ} {l : ℤ} {at : ℕ} (f : FirstBand v l at) (low : edge v 0 ≤ℤ l) where
  pub first_starts : edge v f.from.band ≤ℤ l
  first_starts = by f.from.band f.from.before
    where
      by : (k : ℕ) → ((j : ℕ) → j < k → edge v (j + 1) ≤ℤ l) → edge v k ≤ℤ l
      by zero g = low
      by (suc j) g = simp unary_clauses at (g j (omega arith))

  pub first_met : {h : ℤ} → l ≤ℤ h → Meets v (bands v) f.from.band l h
  first_met o = record { above = omega (ints, first_starts, o); below = f.next }

-- the one after a band that is met is met too if it starts at or below h
pub next_met : {v : List ℤ} {k : ℕ} {l h : ℤ} → ValidNumbers v → Meets v (bands v) k l h → k + 1 < bands v → edge v (k + 1) ≤ℤ h → Meets v (bands v) (k + 1) l h
next_met {k} wf s g e = record { above = e; below = λ u. omega (ints, s.below g, edge_below wf (k + 1) u) }

-- none before the first is met, and none from one on that starts above h
pub unmet_before : {v : List ℤ} {l h : ℤ} {at : ℕ} (f : FirstBand v l at) (j : ℕ) → j < f.from.band → Meets v (bands v) j l h → ⊥
unmet_before f j g s = omega (ints, f.from.before j g, s.below (omega (arith, f.from.among)))

pub unmet_behind : {v : List ℤ} {l h : ℤ} → ValidNumbers v → (k d : ℕ) → (k < bands v → h <ℤ edge v k) → k + d < bands v → Meets v (bands v) (k + d) l h → ⊥
unmet_behind wf k d e g s = omega (ints, e (omega arith), edges_ascend wf k d g, s.above)

-- ---- their shares in a rate

module _ (m : Machine) (B : List ℤ) (up : Bool) (i : ℕ) where
  -- the band variable's sides meet band k
  abbrev Met : ℕ → Type 0
  Met k = Meets m.sheet (bands_of m) k (lo B (band_var_of m)) (hi B (band_var_of m))

  pub share_met : (k : ℕ) → Met k → band_rate up m B i k ≡ change up (cap m i) (row_of m k i) (row_over up m (part m k B) i k)
  unfolding band_rate
  share_met k s = cond_yes (band_met m k B) _ _ (meets_show s)

  share_unmet : (k : ℕ) → (Met k → ⊥) → band_rate up m B i k ≡ neutral up (cap m i)
  unfolding band_rate
  share_unmet k n = cond_no (band_met m k B) _ _ (λ t. n (meets_read t))

  -- bands that are not met leave the outermost as it is
  pub unmet_stays : pos 0 ≤ℤ cap m i → (k d : ℕ) → ((j : ℕ) → j < d → Met (k + j) → ⊥)
      → outermost up (neutral up (cap m i)) (k + d) (band_rate up m B i) ≡ outermost up (neutral up (cap m i)) k (band_rate up m B i)
  unfolding outermost
  unmet_stays c k zero n = rw (add-zero k) refl
  unmet_stays c k (suc d) n =
      rw (add-suc k d, share_unmet (k + d) (n d (omega arith)))
      (outer_neutral (outermost_between up m B i (k + d) c) up ∙ unmet_stays c k d (λ j h. n j (omega arith)))

  -- none moves the outermost where it is the cap's outer end
  pub limit_stays : pos 0 ≤ℤ cap m i → (k d : ℕ) → outermost up (neutral up (cap m i)) k (band_rate up m B i) ≡ neutral (not up) (cap m i)
      → outermost up (neutral up (cap m i)) (k + d) (band_rate up m B i) ≡ neutral (not up) (cap m i)
  unfolding outermost
  limit_stays c k zero e = rw (add-zero k) e
  limit_stays c k (suc d) e = rw (add-suc k d, limit_stays c k d e) (outer_limit (share_between up m B i (k + d) c) up)

-- ---- the parts, made in the box

-- but for the band variable's upper side O is the part of B that lies in band k
pub record Cutting (m : Machine) (k : ℕ) (B O : List ℤ) : Type 0 where
  pub cut : (x : ℤ) → set O (band_var_of m + N) x ≡ set (set B (band_var_of m) (cut_to_band false m k (lo B (band_var_of m)))) (band_var_of m + N) x

module _ (m : Machine) (k : ℕ) (B : List ℤ) where
  abbrev i : ℕ
  i = band_var_of m

  -- a band that starts at or below the box
  pub cutting_starts : edge m.sheet k ≤ℤ lo B i → Cutting m k B B
  cutting_starts e = record { cut = λ x. ap (λ (l : List ℤ). set l (i + N) x) (sym (ap (set B i) (low_stays m k e) ∙ set_own B i)) }

  -- j is the band variable, as the code has it
  module _ {j : ℕ} (v : j ≡ band_var_of m) where
    -- with the upper side cut to the band
    pub cutting_part : {O : List ℤ} → Cutting m k B O → {x : ℤ} → x ≡ cut_to_band true m k (hi B i) → set O (j + N) x ≡ part m k B
    unfolding part
    cutting_part c e = rw v (c.cut _ ∙ ap (set (set B i (cut_to_band false m k (lo B i))) (i + N)) e)

    -- the next band
    pub cutting_on : j < N → {P : List ℤ} → P ≡ part m k B → {e : ℤ} → e ≡ edge m.sheet (k + 1) → lo B i ≤ℤ e → Cutting m (k + 1) B (set P j e)
    unfolding part
    cutting_on r {P} p {e} q h =
        let A = set B i (cut_to_band false m k (lo B i)) in
        let y = cut_to_band true m k (hi B i) in
        let same : e ≡ cut_to_band false m (k + 1) (lo B i) = q ∙ sym (low_cut m (k + 1) (omega (ints, h, q))) in
        record {
          cut = λ x.
              rw v (ap (λ (l : List ℤ). set (set l i e) (i + N) x) p
              ∙ (ap (λ (l : List ℤ). set l (i + N) x) (set_comm A (i + N) i y e (λ z. omega arith) ∙ ap (λ (l : List ℤ). set l (i + N) y) (set-set B i _ e))
              ∙ (set-set (set B i e) (i + N) y x ∙ ap (λ (z : ℤ). set (set B i z) (i + N) x) same)));
        }

    -- both sides are put back
    pub cutting_undone : j < N → {P : List ℤ} → P ≡ part m k B → {x y : ℤ} → x ≡ lo B i → y ≡ hi B i → set (set P (j + N) y) j x ≡ B
    unfolding part
    cutting_undone r p q e =
        let c = cut_to_band false m k (lo B i) in
        rw (v, q, e) (ap (λ (l : List ℤ). set (set l (i + N) (hi B i)) i (lo B i)) p
        ∙ (ap (λ (l : List ℤ). set l i (lo B i)) (set-set (set B i c) (i + N) _ (hi B i))
        ∙ (set_comm (set B i c) (i + N) i (hi B i) (lo B i) (λ z. omega arith)
        ∙ (ap (λ (l : List ℤ). set l (i + N) (hi B i)) (put_back B i c) ∙ set_own B (i + N)))))

    -- the last one: both sides are as they were once the lower is put back
    pub cutting_ends : j < N → {P : List ℤ} → P ≡ part m k B → cut_to_band true m k (hi B i) ≡ hi B i → {x : ℤ} → x ≡ lo B i → set P j x ≡ B
    unfolding part
    cutting_ends r p e q =
        let c = cut_to_band false m k (lo B i) in
        rw (v, q) (ap (λ (l : List ℤ). set l i (lo B i)) (p ∙ ap (set (set B i c) (i + N)) e)
        ∙ (set_comm (set B i c) (i + N) i (hi B i) (lo B i) (λ z. omega arith)
        ∙ (ap (λ (l : List ℤ). set l (i + N) (hi B i)) (put_back B i c) ∙ set_own B (i + N))))
