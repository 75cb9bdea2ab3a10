-- What rates read: of a sheet its counts, caps, edges, safety ranges, laws and rows, of a box the sides of the sheet's variables. So they are the
-- same for two sheets that agree in these, over two boxes that agree in those. Assumes nothing.
use mathlib.Core.Path.{◌≡◌, refl, sym, ap, ap₂, ◌∙◌, subst}
use mathlib.Core.Bool.{Bool, true, false, cond, ◌&&◌, ◌||◌}
use mathlib.Core.List.{List}
use Prim.Native.Nat.{ℕ, zero, suc, ◌+◌, ◌≤◌, ◌<◌}
use native.Mathlib.Omega.{arith}
use lib.Dec.{leb}
use lib.IntN.{ℤ, pos, nat_abs, ◌+ℤ◌, ◌-ℤ◌, ◌*ℤ◌}
use lib.ListN.{set, length, length-set}
use lib.Signed.{le_z, lt_z}
use borrow.Author.Tests.{leb-false}
use Rattle.integers.specs.Order.{min_z, max_z}
use Rattle.integers.specs.Division.{floor_div, ceil_div}
use Rattle.sheet_spec.specs.Slots.{N, FeedbackLaw, Row, vars, bands, band_var, edge, band_kind, feedback, row}
use Rattle.sheet_spec.specs.Slots as sheet
use Rattle.sheet_spec.specs.Box.{lo, hi}
use Rattle.sheet_spec.specs.declared.BandKind.{BandKind}
use Rattle.sheet_spec.specs.declared.BandKind.TheVariants.{Fixed, Feedback}
use Rattle.machine_spec.specs.declared.Law.{Law}
use Rattle.machine_spec.specs.declared.Law.TheVariants.{Baseline, Span}
use Rattle.machine_spec.specs.Box.{sum, box_of, side}
use Rattle.machine_spec.specs.Machine.{machine, band_meets, safety_end, outward_div, clamp_to, baseline_end, clamp, change}
use Rattle.machine_spec.specs.Rate.{outer, outermost, weighted, law_over, bound, band_met, cut_to_band, part, offered_over, row_over, neutral, band_rate, rate, neighborhood, face_rate, rates}
use Rattle.machine_spec.proofs.Box.{set_both, set_two, sides_same}

-- ---- boxes

-- A and B are as long, and have the same sides in the first n variables
pub record AlikeBoxes (n : ℕ) (A B : List ℤ) : Type 0 where
  pub size : length A ≡ length B
  pub at : (up : Bool) (i : ℕ) → i < n → side up A i ≡ side up B i

pub alike_refl : {n : ℕ} (B : List ℤ) → AlikeBoxes n B B
alike_refl B = record { size = refl; at = λ up i h. refl }

pub alike_is : {n : ℕ} {A B : List ℤ} → A ≡ B → AlikeBoxes n A B
alike_is e = record { size = ap length e; at = λ up i h. ap (λ (B : List ℤ). side up B i) e }

module _ {n : ℕ} (room : n ≤ N) (i : ℕ) (h : i < n) {S T : List ℤ} (start : AlikeBoxes n S T) {x y : ℤ} (reach : x ≡ y) where
  -- the neighborhoods of a face
  neighborhood_same : (up : Bool) {E F : List ℤ} → AlikeBoxes n E F → AlikeBoxes n (neighborhood up S x E i) (neighborhood up T y F i)
  unfolding neighborhood
  neighborhood_same false {E} {F} e = record { size = length-set E (i + N) _ ∙ e.size ∙ sym (length-set F (i + N) _); at = sides }
    where
      sides : (up : Bool) (j : ℕ) → j < n → side up (neighborhood false S x E i) j ≡ side up (neighborhood false T y F i) j
      sides false j g = set_both ◌≡◌ E F (i + N) j _ _ e.size (e.at false j g) (λ q. absurd (omega arith))
      sides true j g = set_both ◌≡◌ E F (i + N) (j + N) _ _ e.size (e.at true j g) (λ q. ap₂ min_z (e.at true i h) (ap₂ (λ (x y : ℤ). x +ℤ y) (start.at false i h) reach))
  neighborhood_same true {E} {F} e = record { size = length-set E i _ ∙ e.size ∙ sym (length-set F i _); at = sides }
    where
      sides : (up : Bool) (j : ℕ) → j < n → side up (neighborhood true S x E i) j ≡ side up (neighborhood true T y F i) j
      sides false j g = set_both ◌≡◌ E F i j _ _ e.size (e.at false j g) (λ q. ap₂ max_z (e.at false i h) (ap₂ (λ (x y : ℤ). x -ℤ y) (start.at true i h) reach))
      sides true j g = set_both ◌≡◌ E F i (j + N) _ _ e.size (e.at true j g) (λ q. absurd (omega arith))

-- ---- sheets

pub record AlikeRows (n : ℕ) (r s : Row) : Type 0 where
  pub a : (j : ℕ) → j < n → r.a j ≡ s.a j
  pub b : r.b ≡ s.b
  pub c : r.c ≡ s.c
  pub d : r.d ≡ s.d
  pub q : r.q ≡ s.q

pub record AlikeLaws (n : ℕ) (r s : FeedbackLaw) : Type 0 where
  pub a : (j : ℕ) → j < n → r.a j ≡ s.a j
  pub c : r.c ≡ s.c
  pub q : r.q ≡ s.q

-- v and w agree in what their machines are made of
pub record AlikeSheets (v w : List ℤ) : Type 0 where
  pub room : vars v ≤ N
  pub var : band_var v < vars v
  pub vars_same : vars v ≡ vars w
  pub bands_same : bands v ≡ bands w
  pub var_same : band_var v ≡ band_var w
  pub caps : (i : ℕ) → i < vars v → sheet.cap v i ≡ sheet.cap w i
  pub edges : (k : ℕ) → k < bands v → edge v k ≡ edge w k
  pub safety : (up : Bool) (k : ℕ) → k < bands v → safety_end up v k ≡ safety_end up w k
  pub kind : band_kind v ≡ band_kind w
  pub laws : band_kind v ≡ Feedback → (k : ℕ) → k < bands v → AlikeLaws (vars v) (feedback v k) (feedback w k)
  pub rows : (k i : ℕ) → k < bands v → i < vars v → AlikeRows (vars v) (row v k i) (row w k i)

-- ---- for each i below n

cond_same : {t t' : Bool} {x x' y y' : ℤ} → t ≡ t' → x ≡ x' → y ≡ y' → cond t x y ≡ cond t' x' y'
cond_same {t} {t'} {x} {x'} {y} {y'} e f g = ap (λ (t : Bool). cond t x y) e ∙ ap₂ (λ (x y : ℤ). cond t' x y) f g

sum_same : (n : ℕ) (f g : ℕ → ℤ) → ((i : ℕ) → i < n → f i ≡ g i) → sum n f ≡ sum n g
unfolding sum
sum_same zero f g h = refl
sum_same (suc n) f g h = ap₂ (λ (x y : ℤ). x +ℤ y) (sum_same n f g (λ i l. h i (omega arith))) (h n (omega arith))

outermost_same : (up : Bool) {x y : ℤ} (n : ℕ) (f g : ℕ → ℤ) → x ≡ y → ((k : ℕ) → k < n → f k ≡ g k) → outermost up x n f ≡ outermost up y n g
unfolding outermost
outermost_same up zero f g e h = e
outermost_same up (suc n) f g e h = ap₂ (outer up) (outermost_same up n f g e (λ k l. h k (omega arith))) (h n (omega arith))

weighted_same : (up : Bool) {n : ℕ} {a b : ℕ → ℤ} {A B : List ℤ} → ((j : ℕ) → j < n → a j ≡ b j) → AlikeBoxes n A B → weighted up n a A ≡ weighted up n b B
unfolding weighted
weighted_same up {n} e b =
    sum_same n _ _ (λ j l. ap₂ (outer up) (ap₂ (λ (x y : ℤ). x *ℤ y) (e j l) (b.at false j l)) (ap₂ (λ (x y : ℤ). x *ℤ y) (e j l) (b.at true j l)))

-- ---- a law that follows the state

law_over_same : (up : Bool) {n : ℕ} {r s : FeedbackLaw} {A B : List ℤ} → AlikeLaws n r s → AlikeBoxes n A B → law_over up n r A ≡ law_over up n s B
unfolding law_over
law_over_same up e b = ap₂ (λ (x y : ℤ). x +ℤ y) (weighted_same up e.a b) e.c

-- ---- a row

module _ {n : ℕ} {r s : Row} (e : AlikeRows n r s) where
  bound_same : (up : Bool) {A B : List ℤ} {u u' z z' : ℤ} → AlikeBoxes n A B → u ≡ u' → z ≡ z' → bound up n r A u z ≡ bound up n s B u' z'
  unfolding bound
  bound_same up b f g =
      ap₂ (λ (x y : ℤ). x +ℤ y)
      (ap₂ (λ (x y : ℤ). x +ℤ y) (weighted_same up e.a b) (ap₂ (outer up) (ap₂ (λ (x y : ℤ). x *ℤ y) e.b f) (ap₂ (λ (x y : ℤ). x *ℤ y) e.b g)))
      e.c

  change_same : (up : Bool) {c c' x x' : ℤ} → c ≡ c' → x ≡ x' → change up c r x ≡ change up c' s x'
  unfolding change
  change_same false f g = ap₂ clamp f (ap₂ (λ (x q : ℤ). floor_div x (nat_abs q)) (ap₂ (λ (x d : ℤ). x -ℤ d) g e.d) e.q)
  change_same true f g = ap₂ clamp f (ap₂ (λ (x q : ℤ). ceil_div x (nat_abs q)) (ap₂ (λ (x d : ℤ). x +ℤ d) g e.d) e.q)

-- ---- bands

-- band k of n, by edges that agree
module _ (v w : List ℤ) (n : ℕ) (edges : (k : ℕ) → k < n → edge v k ≡ edge w k) (k : ℕ) (l : k < n) where
  meets_edges : (x y : ℤ) → band_meets v n k x y ≡ band_meets w n k x y
  unfolding band_meets
  meets_edges x y = by (leb n (k + 1)) refl
    where
      by : (t : Bool) → leb n (k + 1) ≡ t → (le_z (edge v k) y && (t || lt_z x (edge v (k + 1)))) ≡ (le_z (edge w k) y && (t || lt_z x (edge w (k + 1))))
      by true e = ap (λ (z : ℤ). le_z z y && true) (edges k l)
      by false e = ap₂ (λ (z z' : ℤ). le_z z y && lt_z x z') (edges k l) (edges (k + 1) (leb-false n (k + 1) e))

  end_edges : (h : ℤ) → cond (leb n (k + 1)) h (min_z h (edge v (k + 1) -ℤ pos 1)) ≡ cond (leb n (k + 1)) h (min_z h (edge w (k + 1) -ℤ pos 1))
  end_edges h = by (leb n (k + 1)) refl
    where
      by : (t : Bool) → leb n (k + 1) ≡ t → cond t h (min_z h (edge v (k + 1) -ℤ pos 1)) ≡ cond t h (min_z h (edge w (k + 1) -ℤ pos 1))
      by true e = refl
      by false e = ap (λ (z : ℤ). min_z h (z -ℤ pos 1)) (edges (k + 1) (leb-false n (k + 1) e))

module _ {v w : List ℤ} (s : AlikeSheets v w) (l : Law) where
  module _ (k : ℕ) (h : k < bands v) where
    meets_same : (x y : ℤ) → band_meets v (bands v) k x y ≡ band_meets w (bands w) k x y
    meets_same x y = meets_edges v w (bands v) s.edges k h x y ∙ ap (λ (n : ℕ). band_meets w n k x y) s.bands_same

    cut_same : (up : Bool) {x y : ℤ} → x ≡ y → cut_to_band up (machine v l) k x ≡ cut_to_band up (machine w l) k y
    unfolding cut_to_band
    cut_same false e = ap₂ max_z e (s.edges k h)
    cut_same true {y} e =
        ap (λ (x : ℤ). cond (leb (bands v) (k + 1)) x (min_z x (edge v (k + 1) -ℤ pos 1))) e ∙ end_edges v w (bands v) s.edges k h y
        ∙ ap (λ (n : ℕ). cond (leb n (k + 1)) y (min_z y (edge w (k + 1) -ℤ pos 1))) s.bands_same

    -- the plain law's ends
    end_same : (up : Bool) {A B : List ℤ} → AlikeBoxes (vars v) A B → (b : BandKind) → band_kind v ≡ b
        → baseline_end b up v k (law_over up (vars v) (feedback v k) A) ≡ baseline_end b up w k (law_over up (vars w) (feedback w k) B)
    unfolding baseline_end
    end_same up e Fixed t = s.safety up k h
    end_same up {A} {B} e Feedback t =
        let law = s.laws t k h in
        let x = law_over_same up law e ∙ ap (λ (n : ℕ). law_over up n (feedback w k) B) s.vars_same in
        let z = ap₂ (λ (x q : ℤ). outward_div up x (nat_abs q)) x law.q in
        ap₂ (λ (l z : ℤ). clamp_to l (safety_end true v k) z) (s.safety false k h) z
        ∙ ap (λ (g : ℤ). clamp_to (safety_end false w k) g (outward_div up (law_over up (vars w) (feedback w k) B) (nat_abs (feedback w k).q))) (s.safety true k h)

    offered_same : (up : Bool) {A B : List ℤ} → AlikeBoxes (vars v) A B → offered_over up (machine v l) k A ≡ offered_over up (machine w l) k B
    unfolding offered_over
    offered_same up {A} {B} e = by l
      where
        by : (l : Law) → offered_over up (machine v l) k A ≡ offered_over up (machine w l) k B
        by Baseline = end_same up e (band_kind v) refl ∙ ap (λ (b : BandKind). baseline_end b up w k (law_over up (vars w) (feedback w k) B)) s.kind
        by (Span a b) = refl

    part_same : {A B : List ℤ} → AlikeBoxes (vars v) A B → AlikeBoxes (vars v) (part (machine v l) k A) (part (machine w l) k B)
    unfolding part
    part_same {A} {B} e =
        let i = band_var v in
        let made : List ℤ → ℕ → List ℤ = λ w i. set (set B i (cut_to_band false (machine w l) k (lo B i))) (i + N) (cut_to_band true (machine w l) k (hi B i)) in
        subst (AlikeBoxes (vars v) (part (machine v l) k A)) (ap (made w) s.var_same) (record {
          size = length-set (set A i _) (i + N) _ ∙ length-set A i _ ∙ e.size ∙ sym (length-set B i _) ∙ sym (length-set (set B i _) (i + N) _);
          at = sides;
        })
      where
        sides : (up : Bool) (j : ℕ) → j < vars v
            → side up (part (machine v l) k A) j ≡ side up (set (set B (band_var v) (cut_to_band false (machine w l) k (lo B (band_var v)))) (band_var v + N) (cut_to_band true (machine w l) k (hi B (band_var v)))) j
        sides false j g =
            set_two ◌≡◌ A B (band_var v) (band_var v + N) j _ _ _ _ e.size (e.at false j g) (λ q. cut_same false (e.at false (band_var v) s.var))
            (λ q. absurd (omega (arith, s.room)))
        sides true j g =
            set_two ◌≡◌ A B (band_var v) (band_var v + N) (j + N) _ _ _ _ e.size (e.at true j g) (λ q. absurd (omega (arith, s.room, s.var)))
            (λ q. cut_same true (e.at true (band_var v) s.var))

    row_over_same : (up : Bool) {A B : List ℤ} (i : ℕ) → i < vars v → AlikeBoxes (vars v) A B → row_over up (machine v l) A i k ≡ row_over up (machine w l) B i k
    row_over_same up {A} {B} i g e =
        bound_same (s.rows k i h g) up e (offered_same false e) (offered_same true e)
        ∙ ap (λ (n : ℕ). bound up n (row w k i) B (offered_over false (machine w l) k B) (offered_over true (machine w l) k B)) s.vars_same

    met_same : {A B : List ℤ} → AlikeBoxes (vars v) A B → band_met (machine v l) k A ≡ band_met (machine w l) k B
    met_same {A} {B} e =
        meets_same (lo A (band_var v)) (hi A (band_var v))
        ∙ ap₂ (band_meets w (bands w) k) (e.at false (band_var v) s.var ∙ ap (lo B) s.var_same) (e.at true (band_var v) s.var ∙ ap (hi B) s.var_same)

    band_rate_same : (up : Bool) {A B : List ℤ} (i : ℕ) → i < vars v → AlikeBoxes (vars v) A B → band_rate up (machine v l) A i k ≡ band_rate up (machine w l) B i k
    unfolding band_rate
    band_rate_same up {A} {B} i g e =
        cond_same (met_same e) (change_same (s.rows k i h g) up (s.caps i g) (row_over_same up i g (part_same e))) (ap (neutral up) (s.caps i g))

  -- ---- rates

  rate_same : (up : Bool) {A B : List ℤ} (i : ℕ) → i < vars v → AlikeBoxes (vars v) A B → rate up (machine v l) A i ≡ rate up (machine w l) B i
  unfolding rate
  rate_same up {A} {B} i g e =
      outermost_same up (bands v) _ _ (ap (neutral up) (s.caps i g)) (λ k h. band_rate_same k h up i g e)
      ∙ ap (λ (n : ℕ). outermost up (neutral up (sheet.cap w i)) n (band_rate up (machine w l) B i)) s.bands_same

  module _ {S T : List ℤ} (start : AlikeBoxes (vars v) S T) (ticks : ℕ) {E F : List ℤ} (working : AlikeBoxes (vars v) E F) where
    face_rate_same : (up : Bool) (i : ℕ) → i < vars v → face_rate up (machine v l) S ticks E i ≡ face_rate up (machine w l) T ticks F i
    unfolding face_rate
    face_rate_same up i h = rate_same up i h (neighborhood_same s.room i h start (ap (λ (c : ℤ). pos (ticks + 1) *ℤ c) (s.caps i h)) up working)

    pub rates_same : rates (machine v l) S ticks E ≡ rates (machine w l) T ticks F
    unfolding rates
    rates_same =
        sides_same (vars v) _ _ _ _ (λ i h. (face_rate_same false i h, face_rate_same true i h))
        ∙ ap (λ (n : ℕ). box_of n (face_rate false (machine w l) T ticks F) (face_rate true (machine w l) T ticks F)) s.vars_same
