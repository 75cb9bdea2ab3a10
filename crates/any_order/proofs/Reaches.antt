-- A step and a reach read of a sheet what its rates read, and the no-go boxes through the test of a swept box alone. So they are the same for
-- two sheets that agree in that, with tests that agree. Assumes nothing.
use mathlib.Core.Path.{◌≡◌, refl, ap, ap₂, ◌∙◌, subst}
use mathlib.Core.Bool.{Bool, true, false, ◌&&◌}
use mathlib.Core.List.{List}
use Prim.Native.Nat.{ℕ, zero, suc, ◌+◌, ◌-◌, ◌/◌, min}
use lib.Dec.{leb}
use lib.IntN.{ℤ, pos, ◌+ℤ◌, ◌*ℤ◌}
use lib.Signed.{le_z}
use Rattle.integers.specs.Order.{min_z, max_z}
use Rattle.sheet_spec.specs.Slots.{vars}
use Rattle.sheet_spec.specs.Box.{lo, hi}
use Rattle.sheet_spec.proofs.Box.{all_same}
use Rattle.machine_spec.specs.Box.{hull, within, moved}
use Rattle.machine_spec.specs.declared.Law.{Law}
use Rattle.machine_spec.specs.Machine.{machine}
use Rattle.machine_spec.specs.Rate.{rates}
use Rattle.machine_spec.proofs.Box.{sides_same}
use Rattle.boxes_spec.specs.Step.{lifted, settles, end_box, grown, Failure, unsafe, Result, ok, failed, exhausted, and_then, retry, is_exhausted, Step, rounds, halving, step, swept}
use Rattle.boxes_spec.specs.Reach.{Reached, tested_step, steps, reach}
use Rattle.any_order.proofs.Rates.{AlikeBoxes, alike_refl, alike_is, AlikeSheets, rates_same}

-- ---- boxes that are made of alike boxes are equal

module _ {n : ℕ} {A A' : List ℤ} (a : AlikeBoxes n A A') where
  hull_same : {B B' : List ℤ} → AlikeBoxes n B B' → hull n A B ≡ hull n A' B'
  unfolding hull
  hull_same b = sides_same n _ _ _ _ (λ i h. (ap₂ min_z (a.at false i h) (b.at false i h), ap₂ max_z (a.at true i h) (b.at true i h)))

  moved_same : (ticks : ℕ) (r : List ℤ) → moved n A ticks r ≡ moved n A' ticks r
  unfolding moved
  moved_same ticks r = sides_same n _ _ _ _ (λ i h. (ap (λ (x : ℤ). x +ℤ pos ticks *ℤ lo r i) (a.at false i h), ap (λ (x : ℤ). x +ℤ pos ticks *ℤ hi r i) (a.at true i h)))

  pub within_same : {B B' : List ℤ} → AlikeBoxes n B B' → within n A B ≡ within n A' B'
  unfolding within
  within_same b = all_same n _ _ (λ i h. ap₂ ◌&&◌ (ap₂ le_z (b.at false i h) (a.at false i h)) (ap₂ le_z (a.at true i h) (b.at true i h)))

-- ---- stages

-- two results that agree: in their values by P, in everything else they are equal
pub data Agree {A : Type 0} (P : A → A → Type 0) : Result A → Result A → Type 0 where
  values : {a b : A} {c : ℕ} → P a b → Agree P (ok a c) (ok b c)
  failures : {why : Failure} {c : ℕ} → Agree P (failed why c) (failed why c)
  ends : {c : ℕ} → Agree P (exhausted c) (exhausted c)

agree_failed : {A : Type 0} {P : A → A → Type 0} {why why' : Failure} {c : ℕ} → why ≡ why' → Agree P (failed why c) (failed why' c)
agree_failed {P} {why} {c} e = subst (λ (other : Failure). Agree P (failed why c) (failed other c)) e failures

pub agree_then : {A B : Type 0} {P : A → A → Type 0} {Q : B → B → Type 0} {x y : Result A} {f g : A → ℕ → Result B}
    → Agree P x y → ((a b : A) (c : ℕ) → P a b → Agree Q (f a c) (g b c)) → Agree Q (and_then x f) (and_then y g)
unfolding and_then
agree_then (values {a = a} {b = b} {c = c} p) h = h a b c p
agree_then failures h = failures
agree_then ends h = ends

agree_retry : {A : Type 0} {P : A → A → Type 0} {x y : Result A} {f g : ℕ → Result A} → Agree P x y → ((c : ℕ) → Agree P (f c) (g c)) → Agree P (retry x f) (retry y g)
unfolding retry
agree_retry (values p) h = values p
agree_retry (failures {c = c}) h = h c
agree_retry ends h = ends

pub agree_if : {A : Type 0} {P : A → A → Type 0} {s t : Bool} {x x' y y' : Result A} → s ≡ t → Agree P x x' → Agree P y y'
    → Agree P (elim s [ true ↦ x | false ↦ y ]) (elim t [ true ↦ x' | false ↦ y' ])
agree_if {A} {P} {s} {t} {x} {x'} {y} {y'} e f g = subst (λ (t : Bool). Agree P (chosen s x y) (chosen t x' y')) e (by s)
  where
    chosen : Bool → Result A → Result A → Result A
    chosen s x y = elim s [ true ↦ x | false ↦ y ]

    by : (s : Bool) → Agree P (chosen s x y) (chosen s x' y')
    by true = f
    by false = g

-- ---- a step

module _ {v w : List ℤ} (s : AlikeSheets v w) (l : Law) where
  abbrev n : ℕ
  n = vars v

  module _ {S T : List ℤ} (start : AlikeBoxes n S T) (ticks : ℕ) {E F : List ℤ} (working : AlikeBoxes n E F) where
    moved_by_rates : (t : ℕ) → moved n S t (rates (machine v l) S ticks E) ≡ moved n T t (rates (machine w l) T ticks F)
    moved_by_rates t = moved_same start t _ ∙ ap (moved n T t) (rates_same s l start ticks working)

    lifted_same : lifted (machine v l) S ticks E ≡ lifted (machine w l) T ticks F
    unfolding lifted
    lifted_same =
        hull_same start (alike_is (moved_by_rates (ticks - 1)))
        ∙ ap (λ (n : ℕ). hull n T (moved n T (ticks - 1) (rates (machine w l) T ticks F))) s.vars_same

    settles_same : settles (machine v l) S ticks E ≡ settles (machine w l) T ticks F
    unfolding settles
    settles_same = within_same (alike_is lifted_same) working ∙ ap (λ (n : ℕ). within n (lifted (machine w l) T ticks F) F) s.vars_same

    end_same : end_box (machine v l) S ticks E ≡ end_box (machine w l) T ticks F
    unfolding end_box
    end_same = moved_by_rates ticks ∙ ap (λ (n : ℕ). moved n T ticks (rates (machine w l) T ticks F)) s.vars_same

    grown_same : grown (machine v l) S ticks E ≡ grown (machine w l) T ticks F
    unfolding grown
    grown_same = hull_same working (alike_is lifted_same) ∙ ap (λ (n : ℕ). hull n F (lifted (machine w l) T ticks F)) s.vars_same

  module _ (limited : Bool) (allowance : ℕ) {S T : List ℤ} (start : AlikeBoxes n S T) where
    rounds_same : (ticks left : ℕ) {E F : List ℤ} (c : ℕ) → AlikeBoxes n E F → Agree ◌≡◌ (rounds limited allowance (machine v l) S ticks left E c) (rounds limited allowance (machine w l) T ticks left F c)
    unfolding rounds
    rounds_same ticks zero c e = failures
    rounds_same ticks (suc left) {E} {F} c e =
        agree_if {s = is_exhausted limited allowance c} refl ends
        (agree_if (settles_same start ticks e) (values (ap (λ (B : List ℤ). record { ticks = ticks; end = B }) (end_same start ticks e)))
        (rounds_same ticks left (c + 1) (alike_is (grown_same start ticks e))))

    halving_same : (fuel ticks c : ℕ) → Agree ◌≡◌ (halving limited allowance (machine v l) S fuel ticks c) (halving limited allowance (machine w l) T fuel ticks c)
    unfolding halving
    halving_same zero ticks c = failures
    halving_same (suc fuel) ticks c =
        agree_retry (rounds_same ticks 8 c start) (λ c'. agree_if {s = leb ticks 1} refl failures (halving_same fuel (ticks / 2) c'))

    step_same : (ticks c : ℕ) → Agree ◌≡◌ (step limited allowance (machine v l) S ticks c) (step limited allowance (machine w l) T ticks c)
    unfolding step
    step_same ticks c = halving_same ticks ticks c

-- ---- a reach, under tests that agree

module _ {v w : List ℤ} (s : AlikeSheets v w) (l : Law) {clear clear' : List ℤ → Bool} (tests : (B : List ℤ) → clear B ≡ clear' B) (limited : Bool) (allowance width : ℕ) where
  swept_same : {S T : List ℤ} → AlikeBoxes (vars v) S T → (t : Step) → swept (machine v l) S t ≡ swept (machine w l) T t
  unfolding swept
  swept_same {T} start t = hull_same start (alike_refl t.end) ∙ ap (λ (n : ℕ). hull n T t.end) s.vars_same

  tested_same : {S T : List ℤ} → AlikeBoxes (vars v) S T → (left c : ℕ)
      → Agree ◌≡◌ (tested_step limited allowance (machine v l) clear width S left c) (tested_step limited allowance (machine w l) clear' width T left c)
  unfolding tested_step
  tested_same {S} {T} start left c =
      agree_then (step_same s l limited allowance start (min width left) c) (λ t t' c' e.
      let p = swept_same start t ∙ ap (swept (machine w l) T) e in
      agree_if (ap clear p ∙ tests _) (values e) (agree_failed (ap (unsafe left) p)))

  -- two reaches that end in alike boxes
  abbrev AlikeEnds : Reached → Reached → Type 0
  AlikeEnds r r' = AlikeBoxes (vars v) r.end r'.end

  steps_same : (fuel : ℕ) {S T : List ℤ} (W X : List ℤ) → AlikeBoxes (vars v) S T → (left c : ℕ)
      → Agree AlikeEnds (steps limited allowance (machine v l) clear width fuel S W left c) (steps limited allowance (machine w l) clear' width fuel T X left c)
  unfolding steps
  steps_same zero W X start left c = failures
  steps_same (suc fuel) {S} {T} W X start left c =
      agree_if {s = leb left 0} refl (values start)
      (agree_then (tested_same start left c) (λ t t' c' e.
      let W' = hull (vars v) W (swept (machine v l) S t) in
      let X' : Step → List ℤ = λ t. hull (vars w) X (swept (machine w l) T t) in
      subst (λ (t' : Step). Agree AlikeEnds (steps limited allowance (machine v l) clear width fuel t.end W' (left - t.ticks) c') (steps limited allowance (machine w l) clear' width fuel t'.end (X' t') (left - t'.ticks) c')) e
      (steps_same fuel W' (X' t) (alike_refl t.end) (left - t.ticks) c')))

  pub reach_same : {S T : List ℤ} → AlikeBoxes (vars v) S T → (ticks c : ℕ)
      → Agree AlikeEnds (reach limited allowance (machine v l) clear width S ticks c) (reach limited allowance (machine w l) clear' width T ticks c)
  unfolding reach
  reach_same {S} {T} start ticks c = steps_same (suc ticks) S T start ticks c
