-- A phase of an attempt for a turn of the code's loop over phases, and an attempt for a turn of its loop over widths. Assumes nothing.
use mathlib.Core.Path.{◌≡◌, refl, sym, ap, ◌∙◌, subst}
use mathlib.Core.Bool.{Bool, true, false}
use mathlib.Core.List.{List, [], ◌∷◌}
use Prim.Native.Nat.{ℕ, zero, suc, ◌+◌, ◌*◌, ◌-◌, ◌/◌, ◌≤◌, ◌<◌}
use native.Mathlib.Omega.{arith}
use native.Mathlib.Nat.{le_refl}
use native.Mathlib.Numerals.{add-one}
use borrow.Author.Tests.{le-leb, lt-leb}
use lib.Dec.{leb}
use lib.IntN.{ℤ}
use lib.ListN.{get_or, length, drop}
use lib.Seq.{drop-cons}
use Rattle.sheet_spec.specs.Slots.{N, vars, boxes, recovery_box}
use Rattle.sheet_spec.specs.Valid.{ValidNumbers}
use Rattle.sheet_spec.specs.Box.{all, lowest_met, clear}
use Rattle.machine_spec.specs.Box.{Sized, trim, within}
use Rattle.machine_spec.specs.declared.Law.{Law}
use Rattle.machine_spec.specs.Machine.{machine}
use Rattle.machine_spec.proofs.Box.{trim_lo, trim_hi}
use Rattle.std.specs.declared.option.Option.{Option}
use Rattle.std.specs.declared.result.Result.TheVariants.{Ok, Err}
use Rattle.boxes_step.specs.declared.Covered.{Covered}
use Rattle.boxes.specs.declared.steps.Stopped.{Stopped}
use Rattle.boxes.specs.declared.steps.Stopped.TheVariants as stopped
use Rattle.boxes_spec.specs.Step.{Result, ok, failed, exhausted, unrecovered, and_then}
use Rattle.sheet_spec.specs.Limits.{max_side, max_ticks, max_width}
use Rattle.boxes_spec.specs.Reach.{Reached, reach}
use Rattle.boxes.specs.ReachResult.{Outcome, result_of, reached_of, Names}
use Rattle.boxes_spec.proofs.Stages.{value, failure, spent}
use Rattle.machine_spec.proofs.Ranges.{sized_less}
use Rattle.boxes_step.specs.Allowance.{is_limited, allowed}
use Rattle.boxes_step.specs.Limits.{step_limit}
use Rattle.boxes.proofs.Bounds.{reach_sized}
use Rattle.integers.proofs.Tests.{pick_yes, pick_no}
use Rattle.decision_answers.specs.declared.Verdict.TheVariants.{Keep, Finest, Spent}
use Rattle.decision_attempt.specs.declared.Failure.{Failure}
use Rattle.decision_attempt.specs.declared.Failure.TheVariants.{Unsafe, Unrecovered}
use Rattle.decision_attempt.specs.declared.Fault.{Fault}
use Rattle.decision_attempt.specs.declared.Fault.TheVariants.{Failed, Exhausted}
use Rattle.decision_spec.specs.declared.Phase.{Phase}
use Rattle.decision_spec.specs.Decision.{ticks_of, finish, phase_reach, follow, attempt, keep, finest, Reply, answered}
use Rattle.decision_spec.specs.Decision as decision
use Rattle.decision_answers.specs.Decision.{reply_of}
use Rattle.decision_attempt.specs.AttemptResult.{Attempted, attempt_of, failure_of, fault_of, summary}
use Rattle.decision_attempt.specs.Limits.{AllLawful}
use Rattle.decision_spec.proofs.Attempts.{outcome, reply_from, reply_turn}
use Rattle.decision_spec.proofs.Allowance.{Spends, attempt_takes}

-- ---- a phase

-- a reach with the law and the number of no-go boxes that the code has
pub plant_reach : (v : List ℤ) {used : Law} (p : Phase) → used ≡ p.law → (limited : Bool) (allowance count w : ℕ) (S : List ℤ) (c : ℕ) → count ≡ boxes v
    → reach limited allowance (machine v used) (clear (vars v) v count) w S p.ticks c ≡ phase_reach limited allowance v w p S c
plant_reach v p under limited allowance count w S c all_boxes =
    ap (λ (l : Law). reach limited allowance (machine v l) (clear (vars v) v count) w S p.ticks c) under
    ∙ ap (λ (j : ℕ). reach limited allowance (machine v p.law) (clear (vars v) v j) w S p.ticks c) all_boxes

-- the number of a no-go box, with the number of them that the code has
pub names_all : (v : List ℤ) {count : ℕ} (W : List ℤ) (r : Outcome) → count ≡ boxes v → Names (lowest_met (vars v) v count W) r → Names (lowest_met (vars v) v (boxes v) W) r
names_all v W r all_boxes names = subst (λ (j : ℕ). Names (lowest_met (vars v) v j W) r) all_boxes names

-- ---- the end of an attempt

-- a box lies in another exactly if it lies in what counts of it
pub within_trim : (n : ℕ) (A B : List ℤ) → n ≤ N → within n A (trim n B) ≡ within n A B
unfolding within all
within_trim n A B room = same n (λ i i<n. rw (trim_lo n i room i<n B, trim_hi n i room i<n B) refl)
  where
    same : (m : ℕ) {test other : ℕ → Bool} → ((i : ℕ) → i < m → test i ≡ other i) → all m test ≡ all m other
    same zero each = refl
    same (suc m) each = rw (same m (λ i i<m. each i (omega arith)), each m (omega arith)) refl

module _ (v E : List ℤ) (c : ℕ) where
  pub finish_inside : within (vars v) E (recovery_box v) ≡ true → Ok c ≡ summary v (finish v E c)
  unfolding finish summary
  finish_inside inside = ap (summary {A = List ℤ} v) (sym (pick_yes (within (vars v) E (recovery_box v)) (ok E c) (failed unrecovered c) inside))

  pub finish_outside : within (vars v) E (recovery_box v) ≡ false → Err (Failed Unrecovered c) ≡ summary v (finish v E c)
  unfolding finish summary failure_of
  finish_outside outside = ap (summary {A = List ℤ} v) (sym (pick_no (within (vars v) E (recovery_box v)) (ok E c) (failed unrecovered c) outside))

-- ---- an attempt

-- the phase after the first k
pub next_phase : (ps : List Phase) (k : ℕ) (other : Phase) → k < length ps → drop k ps ≡ get_or ps k other ∷ drop (k + 1) ps
next_phase ps k other more = drop-cons ps k other more ∙ ap (λ (j : ℕ). get_or ps k other ∷ drop j ps) (sym (add-one k))

-- a reach that stopped
stopped_summary : (v E W : List ℤ) (o : Stopped) → Names (lowest_met (vars v) v (boxes v) W) (Err o) → Err (fault_of o) ≡ summary v (reached_of E W (Err o))
unfolding summary failure_of result_of Names
stopped_summary v E W (stopped.Unsettled c) names = refl
stopped_summary v E W (stopped.Unsafe left number c) names = ap (λ (j : ℕ). Err (Failed (Unsafe left j) c)) names
stopped_summary v E W (stopped.Exhausted c) names = refl

module _ (limited : Bool) (allowance : ℕ) (v : List ℤ) (w : ℕ) where
  abbrev attempted : List Phase → List ℤ → ℕ → Result (List ℤ)
  attempted = attempt limited allowance v w

  -- an attempt of the phases ps from S after c rounds, whose loop has come to E after d rounds with the phases `rest` left
  pub record Following (ps : List Phase) (S : List ℤ) (c : ℕ) (rest : List Phase) (E : List ℤ) (d : ℕ) : Type 0 where
    pub few : ticks_of rest ≤ max_ticks
    pub laws : AllLawful v rest
    pub sized : Sized (vars v) (step_limit (ticks_of rest)) E
    pub counts : d + 73 * ticks_of rest ≤ c + 73 * ticks_of ps
    pub same : attempted ps S c ≡ attempted rest E d

  pub following_starts : (ps : List Phase) (S : List ℤ) (c : ℕ) → ticks_of ps ≤ max_ticks → AllLawful v ps → Sized (vars v) max_side S → Following ps S c ps S c
  following_starts ps S c few laws sized = record { few = few; laws = laws; sized = sized_less (omega arith) sized; counts = omega arith; same = refl }

  -- no phase is left
  pub following_ends : {ps : List Phase} {S : List ℤ} {c : ℕ} {E : List ℤ} {d : ℕ} → Following ps S c [] E d → finish v E d ≡ attempted ps S c
  unfolding attempt follow and_then
  following_ends k = sym k.same

  -- the reach of the next phase p came to r, with the end box F and the swept box W
  module _ {ps : List Phase} {S : List ℤ} {c : ℕ} {p : Phase} {rest : List Phase} {E : List ℤ} {d : ℕ} (k : Following ps S c (p ∷ rest) E d) (r : Outcome) (F W : List ℤ)
      (reaches : reached_of F W r ≡ phase_reach limited allowance v w p E d) where
    abbrev others : Result Reached → Result (List ℤ)
    others result = and_then (and_then result (λ x i. follow limited allowance v w rest x.end i)) (finish v)

    phase_turn : others (reached_of F W r) ≡ attempted (p ∷ rest) E d
    unfolding attempt follow
    phase_turn = ap others reaches

    pub following_on : (o : Covered) → r ≡ Ok o → ValidNumbers v → 0 < w → w ≤ max_width → Following ps S c rest F o.count
    unfolding attempt and_then result_of ticks_of
    following_on o ended sheet some most =
        let b = reach_sized limited allowance _ _ w E p.ticks d (record { sheet = sheet; law = k.laws.0 }) some most k.sized (omega (arith, k.few)) (sym reaches ∙ ap (reached_of F W) ended) in
        record {
          few = omega (arith, k.few);
          laws = k.laws.1;
          sized = sized_less (omega (arith, k.few)) b.0;
          counts = omega (arith, k.counts, b.1);
          same = k.same ∙ sym phase_turn ∙ ap (λ (x : Outcome). others (reached_of F W x)) ended;
        }

    -- it stopped
    pub following_stops : (o : Stopped) → r ≡ Err o → Names (lowest_met (vars v) v (boxes v) W) r → Err (fault_of o) ≡ summary v (attempted ps S c)
    unfolding and_then result_of summary
    following_stops o stops names =
        stopped_summary v F W o (subst (Names (lowest_met (vars v) v (boxes v) W)) stops names)
        ∙ passes o ∙ ap (λ (x : Outcome). summary {A = List ℤ} v (others (reached_of F W x))) (sym stops)
        ∙ ap (summary {A = List ℤ} v) (phase_turn ∙ sym k.same)
      where
        passes : (o : Stopped) → summary v (reached_of F W (Err o)) ≡ summary v (others (reached_of F W (Err o)))
        passes (stopped.Unsettled i) = refl
        passes (stopped.Unsafe t j i) = refl
        passes (stopped.Exhausted i) = refl

-- ---- attempts at ever smaller widths

-- the count after an attempt that failed
pub failed_count : (allowance : Option ℕ) (ps : List Phase) {v : List ℤ} (S : List ℤ) (w c : ℕ) → ValidNumbers v → 0 < w → w ≤ max_width → ticks_of ps ≤ max_ticks
    → {why : Failure} {d : ℕ} → summary v (attempt_of allowance ps v S w c) ≡ Err (Failed why d) → d ≤ c + 73000
unfolding summary
failed_count given ps {v} S w c sheet some most ticks = few (attempt_takes _ _ sheet w 9 some (omega arith) _ S c)
  where
    few : {result : Result (List ℤ)} → Spends (is_limited given) (allowed given) c (73 * ticks_of ps) result → {why : Failure} {d : ℕ} → summary v result ≡ Err (Failed why d) → d ≤ c + 73000
    few (value p taken) fails = let no : ◌≡◌ {A = ℕ} 0 1 = cc in absurd (omega arith)
    few (failure {c' = counted} q taken) {d = d} fails = let same : counted ≡ d = cc in omega (arith, taken.few)
    few (spent a b taken) fails = let no : ◌≡◌ {A = ℕ} 0 1 = cc in absurd (omega arith)

-- the loop has come from the width w to the width k, after c rounds
pub record Attempting (at : ℕ → ℕ → Result (List ℤ)) (w k c : ℕ) : Type 0 where
  pub some : 0 < k
  pub fuel : ℕ
  pub enough : k ≤ fuel
  pub same : reply_from at w w 0 ≡ reply_from at fuel k c

pub attempting_starts : (at : ℕ → ℕ → Result (List ℤ)) (w : ℕ) → 0 < w → Attempting at w w 0
attempting_starts at w some = record { some = some; fuel = w; enough = le_refl w; same = refl }

-- what an attempt comes to at the width w, by its summary
unfoldable outcome_of : Attempted → ℕ → (ℕ → Reply) → Reply
outcome_of (Ok c) w next = answered keep w c
outcome_of (Err (Failed why c)) w next = elim (leb w 1) [ true ↦ answered finest w c | false ↦ next c ]
outcome_of (Err (Exhausted c)) w next = answered decision.spent w c

outcome_is : (v : List ℤ) (result : Result (List ℤ)) (w : ℕ) (next : ℕ → Reply) → outcome result w next ≡ outcome_of (summary v result) w next
unfolding outcome summary outcome_of
outcome_is v (ok E c) w next = refl
outcome_is v (failed why c) w next = refl
outcome_is v (exhausted c) w next = refl

-- the attempt at the width k on the sheet v came to r
module _ {at : ℕ → ℕ → Result (List ℤ)} {w k c : ℕ} (attempting : Attempting at w k c) (v : List ℤ) (r : Attempted) (attempted : r ≡ summary v (at k c)) where
  abbrev next : ℕ → Reply
  next = reply_from at (attempting.fuel - 1) (k / 2)

  attempting_turn : (o : Attempted) → r ≡ o → reply_from at w w 0 ≡ outcome_of o k next
  attempting_turn o is =
      let more : attempting.fuel ≡ suc (attempting.fuel - 1) = omega (arith, attempting.some, attempting.enough) in
      attempting.same ∙ ap (λ (fuel : ℕ). reply_from at fuel k c) more ∙ reply_turn at (attempting.fuel - 1) k c
      ∙ outcome_is v (at k c) k next ∙ ap (λ (o : Attempted). outcome_of o k next) (sym attempted ∙ is)

  pub attempting_keeps : (d : ℕ) → r ≡ Ok d → reply_of (Ok (record { verdict = Keep; width = k; rounds = d })) ≡ reply_from at w w 0
  unfolding reply_of outcome_of
  attempting_keeps d succeeds = sym (attempting_turn (Ok d) succeeds)

  pub attempting_spent : (d : ℕ) → r ≡ Err (Exhausted d) → reply_of (Ok (record { verdict = Spent; width = k; rounds = d })) ≡ reply_from at w w 0
  unfolding reply_of outcome_of
  attempting_spent d exhausts = sym (attempting_turn (Err (Exhausted d)) exhausts)

  module _ (why : Failure) (d : ℕ) (fails : r ≡ Err (Failed why d)) where
    pub attempting_finest : k ≤ 1 → reply_of (Ok (record { verdict = Finest; width = k; rounds = d })) ≡ reply_from at w w 0
    unfolding reply_of outcome_of
    attempting_finest least = sym (attempting_turn (Err (Failed why d)) fails ∙ pick_yes (leb k 1) _ _ (le-leb k 1 least))

    pub attempting_on : 1 < k → Attempting at w (k / 2) d
    unfolding outcome_of
    attempting_on wider =
        record {
          some = omega arith;
          fuel = attempting.fuel - 1;
          enough = omega (arith, attempting.enough);
          same = attempting_turn (Err (Failed why d)) fails ∙ pick_no (leb k 1) _ _ (lt-leb k 1 wider);
        }
