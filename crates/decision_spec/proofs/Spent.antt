-- A decision is spent exactly if it would count more rounds than its allowance. An attempt with an allowance is the attempt with none, cut at the allowance
-- (boxes_spec/proofs/Cut), and so is the decision over all widths. Assumes nothing.
use mathlib.Core.Path.{◌≡◌, refl, sym, ap, ◌∙◌, subst}
use mathlib.Core.Bool.{Bool, true, false}
use mathlib.Core.List.{List, [], ◌∷◌}
use Prim.Native.Nat.{ℕ, zero, suc, ◌+◌, ◌*◌, ◌-◌, ◌/◌, ◌≤◌, ◌<◌, max}
use native.Mathlib.Nat.{le_refl, le_trans, lt_of_lt_of_le}
use native.Mathlib.Omega.{arith}
use lib.Dec.{leb}
use lib.IntN.{ℤ}
use lib.ListN.{get_or, drop}
use lib.Seq.{get_or-take, drop-drop}
use borrow.Author.Tests.{lt-ltb, le-ltb, ltb-true, le-leb, leb-true}
use Rattle.sheet_spec.specs.Slots.{vars, boxes, δ, α, recovery_box}
use Rattle.sheet_spec.specs.Fields.{i32, decoded}
use Rattle.sheet_spec.specs.Sizes.{letters, upper_at, pair_bytes}
use Rattle.sheet_spec.specs.Limits.{max_allowance}
use Rattle.sheet_spec.specs.Refusals.{Cause, unless_refused}
use Rattle.sheet_spec.specs.Sheet.{refusal, values}
use Rattle.sheet_spec.specs.Box.{clear}
use Rattle.sheet_spec.proofs.Laws.{unless_zero}
use Rattle.machine_spec.specs.Box.{box_of, within}
use Rattle.machine_spec.specs.declared.Law.{Law}
use Rattle.machine_spec.specs.Machine.{machine}
use Rattle.sheet_spec.proofs.Box.{differ}
use Rattle.boxes_spec.specs.Step.{Result, ok, failed, exhausted}
use Rattle.boxes_spec.proofs.Count.{count}
use Rattle.boxes_spec.proofs.Cut.{Cut, value, failure, spent, CutFrom, cut_value, cut_failure, cut_if, cut_then, reach_cut}
use Rattle.decision_spec.specs.Question.{kind_of, command_at, greatest_at, sides_at, form_refusal, allowance_refusal, head_refusal, question_refusal, allowance_of, least_of, greatest_of, pairs, measured, question_head}
use Rattle.decision_spec.specs.declared.Phase.{Phase}
use Rattle.decision_spec.specs.Decision.{finish, follow, attempt, keep, finest, spent, Reply, refused, answered, decision_phases, decision_within, decision_of, decide, rounds_of}
use Rattle.decision_spec.proofs.Marks.{greatest_from}
use Rattle.decision_spec.proofs.Attempts.{outcome, reply_from, reply_none, reply_turn}
use Rattle.decision_spec.specs.Spent.{is_spent, CutAt, SpentOnValues, SameButAllowance, SpentOnBytes}

-- ---- an attempt

module _ (A : ℕ) (v : List ℤ) (w : ℕ) where
  follow_cut : (ps : List Phase) (S : List ℤ) (c : ℕ) → CutFrom A c (follow true A v w ps S c) (follow false 0 v w ps S c)
  unfolding follow
  follow_cut [] S c = cut_value
  follow_cut (p ∷ ps) S c = cut_then _ _ (λ r c'. follow_cut ps r.end c') (reach_cut A (machine v p.law) (clear (vars v) v (boxes v)) w S p.ticks c)

  attempt_cut : (ps : List Phase) (S : List ℤ) (c : ℕ) → CutFrom A c (attempt true A v w ps S c) (attempt false 0 v w ps S c)
  unfolding attempt finish
  attempt_cut ps S c = cut_then _ _ (λ E c'. cut_if (within (vars v) E (recovery_box v)) cut_value cut_failure) (follow_cut ps S c)

-- ---- attempts at ever smaller widths

module _ {A : ℕ} where
  same_reply : (r : Reply) → is_spent r ≡ false → rounds_of r ≤ A → CutAt A r r
  same_reply r n h = record { exactly = n ∙ sym (le-ltb A (rounds_of r) h); rounds = λ e. absurd (differ e n); same = λ _. refl }

  spent_reply : (w : ℕ) (more : Reply) → A < rounds_of more → CutAt A (answered spent w A) more
  unfolding is_spent rounds_of
  spent_reply w more h = record { exactly = sym (lt-ltb A (rounds_of more) h); rounds = λ _. refl; same = λ e. absurd (differ refl e) }

-- the same for a reply after the count c
record CutAfter (A c : ℕ) (reply more : Reply) : Type 0 where
  grows : c ≤ rounds_of more
  cuts : c ≤ A → CutAt A reply more

module _ {A : ℕ} (w : ℕ) (next next' : ℕ → Reply) (later : (c : ℕ) → CutAfter A c (next c) (next' c)) where
  failed_cut : (t : Bool) (c : ℕ) → CutAfter A c (elim t [ true ↦ answered finest w c | false ↦ next c ]) (elim t [ true ↦ answered finest w c | false ↦ next' c ])
  unfolding is_spent rounds_of
  failed_cut true c = record { grows = le_refl c; cuts = same_reply (answered finest w c) refl }
  failed_cut false c = later c

  outcome_grows : (g : Result (List ℤ)) → count g ≤ rounds_of (outcome g w next')
  unfolding outcome rounds_of
  outcome_grows (ok E c) = le_refl c
  outcome_grows (failed why c) = (failed_cut (leb w 1) c).grows
  outcome_grows (exhausted c) = le_refl c

  outcome_cut : {g g' : Result (List ℤ)} → Cut A g g' → CutAt A (outcome g w next) (outcome g' w next')
  unfolding outcome is_spent rounds_of
  outcome_cut (value {c = c} h) = same_reply (answered keep w c) refl h
  outcome_cut (failure {c = c} h) = (failed_cut (leb w 1) c).cuts h
  outcome_cut (spent {whole = g} h) = spent_reply w (outcome g w next') (lt_of_lt_of_le h (outcome_grows g))

module _ {A : ℕ} (a a' : ℕ → ℕ → Result (List ℤ)) (each-cut : (w c : ℕ) → CutFrom A c (a w c) (a' w c)) where
  attempts_cut : (fuel w c : ℕ) → CutAfter A c (reply_from a fuel w c) (reply_from a' fuel w c)
  unfolding is_spent rounds_of
  attempts_cut zero w c = rw (reply_none a w c, reply_none a' w c) (record { grows = le_refl c; cuts = same_reply (answered finest w c) refl })
  attempts_cut (suc fuel) w c =
      let later : (c' : ℕ) → CutAfter A c' (reply_from a fuel (w / 2) c') (reply_from a' fuel (w / 2) c') = attempts_cut fuel (w / 2) in
      rw (reply_turn a fuel w c, reply_turn a' fuel w c)
      (record { grows = le_trans (each-cut w c).grows (outcome_grows w _ _ later (a' w c)); cuts = λ h. outcome_cut w _ _ later ((each-cut w c).cuts h) })

-- ---- the decision on values

-- two allowances: both replies are the one with no allowance, cut
between : {A A' : ℕ} {reply reply' whole : Reply} → A < A' → CutAt A reply whole → CutAt A' reply' whole → CutAt A reply reply'
between {A} {A'} {reply} {reply'} {whole} h k k' = by (is_spent reply') refl
  where
    by : (t : Bool) → is_spent reply' ≡ t → CutAt A reply reply'
    by true e =
        let q = k'.rounds e in
        let n = ltb-true A' (rounds_of whole) (sym k'.exactly ∙ e) in
        let s : is_spent reply ≡ true = k.exactly ∙ lt-ltb A (rounds_of whole) (omega arith) in
        record { exactly = s ∙ sym (lt-ltb A (rounds_of reply') (omega arith)); rounds = k.rounds; same = λ n. absurd (differ s n) }
    by false e = subst (CutAt A reply) (sym (k'.same e)) k

decision_cut : (v B : List ℤ) (l : Law) (A : ℕ) → CutAt A (decision_of v B l A) (decision_within false 0 v B l)
unfolding decision_of
decision_cut v B l A = (attempts_cut _ _ (λ w c. attempt_cut A v w (decision_phases v l) B c) (max (δ v) (α v)) (max (δ v) (α v)) 0).cuts (omega arith)

pub spent_on_values : SpentOnValues
spent_on_values v B l A = (decision_cut v B l A, λ A' h. between h (decision_cut v B l A) (decision_cut v B l A'))

-- ---- the decision on bytes

module _ {g g' : List ℕ} (s : SameButAllowance g g') where
  -- the bytes after the allowance
  same_from : (at : ℕ) → command_at ≤ at → drop at g ≡ drop at g'
  same_from at h =
      let q : command_at + (at - command_at) ≡ at = omega arith in
      rw q at (sym (drop-drop (at - command_at) command_at g) ∙ ap (λ (r : List ℕ). drop (at - command_at) r) s.rest ∙ drop-drop (at - command_at) command_at g')

  same_number : (at : ℕ) → command_at ≤ at → decoded i32 (drop at g) ≡ decoded i32 (drop at g')
  same_number at h = ap (decoded i32) (same_from at h)

  same_letter : (i : ℕ) → i < letters → get_or g i 0 ≡ get_or g' i 0
  same_letter i h = sym (get_or-take letters g i 0 h) ∙ ap (λ (r : List ℕ). get_or r i 0) s.mark ∙ get_or-take letters g' i 0 h

  same_kind : kind_of g ≡ kind_of g'
  unfolding kind_of
  same_kind = rw (same_letter 0 (omega arith), same_letter 1 (omega arith)) refl

  same_least : least_of g ≡ least_of g'
  unfolding least_of
  same_least = same_number command_at (omega arith)

  same_greatest : greatest_of g ≡ greatest_of g'
  unfolding greatest_of
  same_greatest = rw same_kind (same_number (greatest_at (kind_of g')) (greatest_from (kind_of g')))

  same_measured : (n : ℕ) → measured n g ≡ measured n g'
  unfolding measured pairs
  same_measured n =
      let from = greatest_from (kind_of g') in
      rw same_kind (λ t. box_of n (λ i. same_number (sides_at (kind_of g') + pair_bytes * i) (omega arith) t) (λ i. same_number (sides_at (kind_of g') + pair_bytes * i + upper_at) (omega arith) t))

  same_refusal : (v : List ℤ) → allowance_refusal g ≡ allowance_refusal g' → question_refusal v g ≡ question_refusal v g'
  unfolding question_refusal head_refusal form_refusal
  same_refusal v e = rw (s.size, same_kind, e, same_least, same_greatest, same_measured (vars v)) refl

-- a smaller allowance is not refused either
less_allowed : (g g' : List ℕ) → allowance_of g < allowance_of g' → allowance_refusal g' ≡ 0 → allowance_refusal g ≡ allowance_refusal g'
unfolding allowance_refusal
less_allowed g g' h e =
    let n = leb-true (allowance_of g') max_allowance (unless_zero _ Cause.allowance e) in
    rw (le-leb (allowance_of g) max_allowance (omega arith), le-leb (allowance_of g') max_allowance n) refl

unless_cut : {A : ℕ} (r : ℕ) {reply more : Reply} → CutAt A reply more → CutAt A (unless_refused r refused reply) (unless_refused r refused more)
unfolding unless_refused is_spent rounds_of
unless_cut zero k = k
unless_cut (suc r) k = same_reply (refused (suc r)) refl (omega arith)

pub spent_on_bytes : SpentOnBytes
unfolding decide
spent_on_bytes f g g' s h e =
    let v = values f in
    unless_cut (refusal f)
    (rw (same_refusal s v (less_allowed g g' h e), same_least s, same_greatest s, same_measured s (vars v))
    (unless_cut (question_refusal v g') ((spent_on_values v (measured (vars v) g') (question_head g').law (allowance_of g)).1 (allowance_of g') h)))
