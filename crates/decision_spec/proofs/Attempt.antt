-- An attempt that succeeds covers every state of its start box; so a recovery check that passes covers the recovery box, and a keep the measured box.
-- Assumes nothing.
use mathlib.Core.Path.{◌≡◌, refl, sym, subst}
use mathlib.Core.Bool.{Bool, true, false}
use mathlib.Core.List.{List, [], ◌∷◌, ◌++◌, append-nil}
use Prim.Native.Nat.{ℕ, zero, suc, ◌/◌}
use native.Mathlib.Omega.{arith}
use lib.Dec.{T, leb}
use lib.IntN.{ℤ}
use lib.ListN.{replicate}
use Rattle.sheet_spec.specs.Slots.{vars, boxes, δ, α, ρ, recovery_box}
use Rattle.sheet_spec.specs.Refusals.{unless_refused}
use Rattle.sheet_spec.specs.Sheet.{refusal, values}
use Rattle.sheet_spec.specs.Valid.{ValidNumbers}
use Rattle.sheet_spec.specs.Box.{clear}
use Rattle.machine_spec.specs.Box.{In}
use Rattle.machine_spec.specs.declared.Law.{Law}
use Rattle.machine_spec.specs.declared.Law.TheVariants.{Baseline}
use Rattle.machine_spec.proofs.Inside.{inside_in, within_inside}
use Rattle.boxes_spec.specs.Step.{Result, ok, failed, exhausted, and_then}
use Rattle.boxes_spec.proofs.Sound.{reach_sound, cleared_avoids}
use Rattle.decision_spec.specs.Question.{question_refusal, question_of}
use Rattle.decision_spec.specs.declared.Phase.{Phase}
use Rattle.decision_spec.specs.Decision.{finish, follow, attempt, finest, Reply, refused, answered, decision_phases, decision_of, recovery_phases, recovery_of, decision_to, check_recovery, decide, is_keep}
use Rattle.decision_spec.proofs.Attempts.{outcome, reply_from, reply_none, reply_turn}
use Rattle.decision_spec.proofs.Cover.{Covered, covered_by}

-- ---- stages that give a value

abbrev Gave : {A : Type 0} → Result A → Type 0
Gave (ok a c) = Unit {0}
Gave (failed why c) = ⊥
Gave (exhausted c) = ⊥

record Both {A B : Type 0} (g : Result A) (k : A → ℕ → Result B) (b : B) (c : ℕ) : Type 0 where
  value : A
  count : ℕ
  first : g ≡ ok value count
  second : k value count ≡ ok b c

both : {A B : Type 0} (g : Result A) (k : A → ℕ → Result B) {b : B} {c : ℕ} → and_then g k ≡ ok b c → Both g k b c
unfolding and_then
both (ok a c) k e = record { value = a; count = c; first = refl; second = e }
both (failed why c) k e = absurd (subst Gave (sym e) tt)
both (exhausted c) k e = absurd (subst Gave (sym e) tt)

-- a test without which there would be no value
passed : {A : Type 0} (t : Bool) (x y : Result A) {a : A} {c : ℕ} → (Gave y → ⊥) → ◌≡◌ {A = Result A} (elim t [ true ↦ x | false ↦ y ]) (ok a c) → t ≡ true
passed true x y none e = refl
passed false x y none e = absurd (none (subst Gave (sym e) tt))

-- ---- an attempt

-- the laws of the phases, tick by tick
unfoldable pub laws : List Phase → List Law
laws [] = []
laws (p ∷ ps) = replicate p.ticks p.law ++ laws ps

module _ (limited : Bool) (allowance : ℕ) {v : List ℤ} (wf : ValidNumbers v) (w : ℕ) where
  follow_sound : (ps : List Phase) (S : List ℤ) (c : ℕ) {E : List ℤ} {c' : ℕ} → follow limited allowance v w ps S c ≡ ok E c'
      → ((y : List ℤ) → In (vars v) E y → In (vars v) (recovery_box v) y) → (x : List ℤ) → In (vars v) S x → Covered v (laws ps) x
  unfolding follow laws Covered
  follow_sound [] S c {E} e ends x b = ends x (let q : S ≡ E = cc in subst (λ (B : List ℤ). In (vars v) B x) q b)
  follow_sound (p ∷ ps) S c e ends x b =
      let s = both _ _ e in
      let r = reach_sound limited allowance (clear (vars v) v (boxes v)) w S p.ticks c wf s.first in
      covered_by v p.law (laws ps) p.ticks x
      (λ y q j h f. record { outside = cleared_avoids v (boxes v) (r.clears y (rw q b) j (omega arith) (omega arith) f) })
      (λ y q f. follow_sound ps s.value.end s.count s.second ends (y p.ticks) (r.ends y (rw q b) f))

  pub attempt_sound : (ps : List Phase) (S : List ℤ) (c : ℕ) {E : List ℤ} {c' : ℕ} → attempt limited allowance v w ps S c ≡ ok E c'
      → (x : List ℤ) → In (vars v) S x → Covered v (laws ps) x
  unfolding attempt finish
  attempt_sound ps S c e =
      let s = both _ _ e in
      follow_sound ps S c s.first (λ y. inside_in (within_inside s.value (recovery_box v) (passed _ _ _ (λ g. g) s.second)))

-- ---- keep is answered only if an attempt succeeded

outcome_keep : {G : Type 0} (g : Result (List ℤ)) (w : ℕ) (next : ℕ → Reply)
    → ((E : List ℤ) (c : ℕ) → g ≡ ok E c → G) → ((c : ℕ) → T (is_keep (next c)) → G) → T (is_keep (outcome g w next)) → G
unfolding outcome is_keep
outcome_keep (ok E c) w next now later t = now E c refl
outcome_keep {G} (failed why c) w next now later t = by (leb w 1) t
  where
    by : (b : Bool) → T (is_keep (elim b [ true ↦ answered finest w c | false ↦ next c ])) → G
    by true t = absurd t
    by false t = later c t
outcome_keep (exhausted c) w next now later t = absurd t

-- at some width, after some rounds, the attempt succeeded
pub record Succeeded (attemptAt : ℕ → ℕ → Result (List ℤ)) : Type 0 where
  pub width : ℕ
  pub before : ℕ
  pub end : List ℤ
  pub after : ℕ
  pub gives : attemptAt width before ≡ ok end after

module _ (attemptAt : ℕ → ℕ → Result (List ℤ)) where
  pub attempts_keep : (fuel w c : ℕ) → T (is_keep (reply_from attemptAt fuel w c)) → Succeeded attemptAt
  unfolding is_keep
  attempts_keep zero w c t = absurd (subst (λ (r : Reply). T (is_keep r)) (reply_none attemptAt w c) t)
  attempts_keep (suc fuel) w c t =
      outcome_keep (attemptAt w c) w (reply_from attemptAt fuel (w / 2)) (λ E c' e. record { width = w; before = c; end = E; after = c'; gives = e })
      (attempts_keep fuel (w / 2)) (subst (λ (r : Reply). T (is_keep r)) (reply_turn attemptAt fuel w c) t)

module _ {v : List ℤ} (wf : ValidNumbers v) where
  pub recovery_sound : {x : List ℤ} → T (is_keep (recovery_of v)) → In (vars v) (recovery_box v) x → Covered v (replicate (ρ v) Baseline) x
  unfolding recovery_of recovery_phases laws
  recovery_sound {x} t b =
      let s = attempts_keep (λ w c. attempt false 0 v w (recovery_phases v) (recovery_box v) c) (ρ v) (ρ v) 0 t in
      rw append-nil at (attempt_sound false 0 wf s.width (recovery_phases v) (recovery_box v) s.before s.gives x b)

  pub decision_sound : (l : Law) (a : ℕ) {B x : List ℤ} → T (is_keep (decision_of v B l a)) → In (vars v) B x
      → Covered v (replicate (δ v) l ++ replicate (α v) Baseline) x
  unfolding decision_of decision_phases laws
  decision_sound l a {B} {x} t b =
      let s = attempts_keep (λ w c. attempt true a v w (decision_phases v l) B c) _ _ 0 t in
      rw append-nil at (attempt_sound true a wf s.width (decision_phases v l) B s.before s.gives x b)

-- ---- from bytes

unless_keep : (r : ℕ) (a : Reply) → T (is_keep (unless_refused r refused a)) → (r ≡ 0) × T (is_keep a)
unfolding unless_refused is_keep
unless_keep zero a t = (refl, t)
unless_keep (suc r) a t = absurd t

pub check_keep : (f : List ℕ) → T (is_keep (check_recovery f)) → (refusal f ≡ 0) × T (is_keep (recovery_of (values f)))
unfolding check_recovery
check_keep f t = unless_keep (refusal f) (recovery_of (values f)) t

pub decide_keep : (f g : List ℕ) → T (is_keep (decide f g))
    → (question_refusal (values f) g ≡ 0) × T (is_keep (decision_to (values f) (question_of (vars (values f)) g)))
unfolding decide
decide_keep f g t = unless_keep (question_refusal (values f) g) _ (unless_keep (refusal f) _ t).1
