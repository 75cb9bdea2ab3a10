-- A period that asks by readings is one with a question's bytes or with none, and a run over such periods is a run. So it is safe. Assumes nothing.
use mathlib.Core.Path.{◌≡◌, refl, sym, ap, ◌∙◌, subst}
use mathlib.Core.Bool.{Bool, true, false}
use mathlib.Core.List.{List, [], ◌∷◌, map}
use mathlib.Core.Option.{none, some}
use Prim.Native.Nat.{ℕ, zero, suc, ◌+◌, ◌*◌, ◌/◌, ◌%◌, ◌≤◌, ◌<◌}
use native.Mathlib.Nat.{mod-lt, div-add-mod', div-lt_iff_lt-mul, mul-le-mul_right}
use native.Mathlib.Omega.{arith}
use lib.Dec.{T}
use lib.IntN.{ℤ}
use lib.ListN.{length, get_or, length-map, get_or-map}
use Rattle.sheet_spec.specs.Slots.{◌!◌, N, vars, δ}
use Rattle.sheet_spec.specs.Sizes.{box_bytes}
use Rattle.sheet_spec.specs.Refusals.{unless_refused, first_of}
use Rattle.sheet_spec.specs.Sheet.{refusal, values}
use Rattle.sheet_spec.proofs.FirstRefusal.{all_pass}
use Rattle.machine_spec.specs.Box.{In}
use Rattle.machine_spec.specs.declared.Law.{Law}
use Rattle.machine_spec.specs.declared.Law.TheVariants.{Baseline}
use Rattle.machine_spec.specs.Machine.{machine, Tick}
use Rattle.boxes_spec.specs.Reach.{sides_refusal}
use Rattle.readings_spec.specs.declared.Reading.{Reading}
use Rattle.readings_spec.specs.Reading.{reading_at, readings_refusal, readings_box}
use Rattle.readings_spec.specs.Allowed.{Allows}
use Rattle.readings_spec.proofs.Allowed.{holds_states}
use Rattle.decision_spec.specs.declared.QuestionHead.{QuestionHead}
use Rattle.decision_spec.specs.Question.{question_of, question_head, measured, head_refusal, question_refusal}
use Rattle.decision_spec.specs.Decision.{Reply, refused, decision_to, decide, check_recovery, is_keep}
use Rattle.decision_spec.specs.Readings.{as_bytes, read_refusal, decide_readings}
use Rattle.decision_spec.proofs.Passes.{head_passes}
use Rattle.decision_spec.proofs.Attempt.{decide_keep}
use Rattle.decision_spec.proofs.Readings.{same_head, head_same, said_box}
use Rattle.safety.specs.Run.{Period, kept, period_law, law_at, Measured, Run}
use Rattle.safety.specs.Asked.{Asked, nothing, bytes, readings, asked_kept, asked_law, AskedMeasured, as_period, SamePeriod, AskedRun, SafeAskedRuns}
use Rattle.safety.proofs.Acting.{law_at_lem}
use Rattle.safety.proofs.Run.{wf, safe_runs}

-- ---- refusals in their order, by number: the sheet's, the head's, the readings' and the sides'

-- where the readings are not refused, the tests before the question's own change nothing
tests_again : (sheet head reads sides : ℕ) (a : Reply) → reads ≡ 0
    → unless_refused sheet refused (unless_refused (first_of (head ∷ reads ∷ [])) refused (unless_refused sheet refused (unless_refused (first_of (head ∷ sides ∷ [])) refused a)))
    ≡ unless_refused sheet refused (unless_refused (first_of (head ∷ sides ∷ [])) refused a)
unfolding unless_refused first_of
tests_again zero zero reads sides a e = rw e refl
tests_again zero (suc head) reads sides a e = refl
tests_again (suc sheet) head reads sides a e = refl

-- where they are, nothing is kept
none_kept : (sheet head reads : ℕ) (a : Reply) → (reads ≡ 0 → ⊥) → is_keep (unless_refused sheet refused (unless_refused (first_of (head ∷ reads ∷ [])) refused a)) ≡ false
unfolding unless_refused first_of is_keep
none_kept zero zero zero a n = absurd (n refl)
none_kept zero zero (suc reads) a n = refl
none_kept zero (suc head) reads a n = refl
none_kept (suc sheet) head reads a n = refl

-- ---- a head and readings

module _ (f h : List ℕ) (rs : List Reading) where
  abbrev v : List ℤ
  v = values f

  abbrev n : ℕ
  n = vars v

  abbrev g : List ℕ
  g = as_bytes v h rs

  -- the decision by readings that are not refused is that on the bytes of their box
  by_bytes : readings_refusal n rs ≡ 0 → decide_readings f h rs ≡ decide f g
  unfolding decide_readings decide question_refusal
  by_bytes e =
      subst (λ (r : ℕ). unless_refused (refusal f) refused (unless_refused (first_of (r ∷ readings_refusal n rs ∷ [])) refused (decide f g)) ≡ decide f g)
      (head_same v n h (readings_box n rs))
      (tests_again (refusal f) (head_refusal v (box_bytes n) g) (readings_refusal n rs) (sides_refusal n (measured n g)) (decision_to v (question_of n g)) e)

  not_kept : (readings_refusal n rs ≡ 0 → ⊥) → is_keep (decide_readings f h rs) ≡ false
  unfolding decide_readings
  not_kept = none_kept (refusal f) (head_refusal v 0 h) (readings_refusal n rs) (decide f g)

  -- their period is one with these bytes; that of readings that are refused is one with none
  turned : (P : Period → Type 0) → (readings_refusal n rs ≡ 0 → P (some g)) → ((readings_refusal n rs ≡ 0 → ⊥) → P none) → P (as_period f (readings h rs))
  unfolding as_period unless_refused
  turned P passed stopped = by (readings_refusal n rs) passed stopped
    where
      by : (r : ℕ) → (r ≡ 0 → P (some g)) → ((r ≡ 0 → ⊥) → P none) → P (unless_refused r (λ r. none) (some g))
      by zero passed stopped = passed refl
      by (suc r) passed stopped = stopped (λ e. omega arith)

  -- a keep means that the head is not refused
  head_passed : T (is_keep (decide f g)) → head_refusal v 0 h ≡ 0
  unfolding question_refusal
  head_passed t =
      sym (head_same v n h (readings_box n rs))
      ∙ (all_pass (head_refusal v (box_bytes n) g ∷ sides_refusal n (measured n g) ∷ []) (decide_keep f g t).0).0

  read_passed : T (is_keep (decide f g)) → readings_refusal n rs ≡ 0 → read_refusal v h rs ≡ 0
  unfolding first_of unless_refused
  read_passed t e = rw (head_passed t, e) refl

  -- and then the bytes say the head's span
  same_law : T (is_keep (decide f g)) → (question_head h).law ≡ (question_head g).law
  same_law t = ap (λ (q : QuestionHead). q.law) (sym (same_head n h (readings_box n rs) (head_passes v 0 h (head_passed t)).form))

  -- and a box that holds the states that the readings allow
  holds : n ≤ N → (x : List ℤ) → T (is_keep (decide f g)) → readings_refusal n rs ≡ 0 → ((i : ℕ) → i < n → Allows (reading_at rs i) (x ! i) 1) → In n (measured n g) x
  holds few x t e a = rw (said_box v few h rs (read_passed t e)) (holds_states n rs few e x a)

-- ---- a period

abbrev acts_if : Bool → Law → Law
acts_if b l = elim b [ true ↦ l | false ↦ Baseline ]

-- the law of a kept period has to be the same only if it is kept
acts_same : (a b : Bool) (l m : Law) → a ≡ b → (T b → l ≡ m) → acts_if a l ≡ acts_if b m
acts_same a b l m q e = ap (λ (a : Bool). acts_if a l) q ∙ by b e
  where
    by : (b : Bool) → (T b → l ≡ m) → acts_if b l ≡ acts_if b m
    by true e = e tt
    by false e = refl

pub same_period : SamePeriod
unfolding asked_kept asked_law as_period kept period_law
same_period f nothing = (refl, refl)
same_period f (bytes g) = (refl, refl)
same_period f (readings h rs) = turned f h rs (λ q. (asked_kept f (readings h rs) ≡ kept f q) × (asked_law f (readings h rs) ≡ period_law f q))
    (λ e. let k = ap is_keep (by_bytes f h rs e) in (k, acts_same _ _ _ _ k (same_law f h rs)))
    (λ r. let k = not_kept f h rs r in (k, acts_same _ false _ Baseline k (λ t. absurd t)))

period_measured : (f : List ℕ) → vars (values f) ≤ N → (a : Asked) (x : List ℤ) → AskedMeasured f a x → Measured f (as_period f a) x
unfolding AskedMeasured Measured as_period asked_kept kept
period_measured f few nothing x m = tt
period_measured f few (bytes g) x m = m
period_measured f few (readings h rs) x m = turned f h rs (λ q. Measured f q x)
    (λ e t. holds f h rs few x t e (m (subst (λ (r : Reply). T (is_keep r)) (sym (by_bytes f h rs e)) t)))
    (λ r. tt)

-- ---- a run that asks is a run over the periods that it comes to, and the other way round

module _ (f : List ℕ) (periods : List Asked) where
  abbrev qs : List Period
  qs = map (as_period f) periods

  period_at : (p : ℕ) → get_or qs p none ≡ as_period f (get_or periods p nothing)
  unfolding as_period
  period_at p = get_or-map (as_period f) periods p nothing

  same_acting : (p i : ℕ) → p < length qs → i < δ (values f) → law_at f qs (p * δ (values f) + i) ≡ asked_law f (get_or periods p nothing)
  same_acting p i h k = law_at_lem f qs p i h k ∙ ap (period_law f) (period_at p) ∙ sym (same_period f (get_or periods p nothing)).1

  same_count : length qs ≡ length periods
  same_count = length-map periods (as_period f)

  as_run : T (is_keep (check_recovery f)) → (x : ℕ → List ℤ) → AskedRun f periods x → Run f qs x
  as_run passed x run = record {
    starts = run.starts;
    ticks = λ t h.
        let n = δ (values f) in
        let some-ticks = (wf f passed).δ_low in
        let i = mod-lt t {m = n} some-ticks in
        let p = (div-lt_iff_lt-mul {k = n} {x = t} {y = length qs} some-ticks).1 h in
        subst (λ (z : ℕ). Tick (machine (values f) (law_at f qs z)) (x z) (x (suc z))) (div-add-mod' t n)
        (rw (same_acting (t / n) (t % n) p i) (run.ticks (t / n) (t % n) (rw same_count at p) i));
    measured = λ p h. rw (period_at p) (period_measured f (omega (arith, (wf f passed).vars_high)) (get_or periods p nothing) _ (run.measured p (rw same_count at h)));
  }

  pub run_asked : (x : ℕ → List ℤ) → Run f qs x → ((p : ℕ) → p < length periods → AskedMeasured f (get_or periods p nothing) (x (p * δ (values f)))) → AskedRun f periods x
  run_asked x run measured = record {
    starts = run.starts;
    ticks = λ p i h k.
        let l : p < length qs = rw same_count h in
        rw (same_acting p i l k) at (run.ticks (p * δ (values f) + i) (omega (arith, mul-le-mul_right (δ (values f)) l)));
    measured = measured;
  }

pub safe_asked_runs : SafeAskedRuns
safe_asked_runs f passed periods x start run = safe_runs f passed (map (as_period f) periods) x start (as_run f periods passed x run)
