-- The rounds of a decision and of a recovery check: never past the allowance, and at most 370,000, so that an allowance of 730,000 is never spent. Their
-- widths, and the parts of the packed answer. Assumes nothing.
use mathlib.Core.Path.{◌≡◌, refl, sym, ◌∙◌, subst}
use mathlib.Core.Bool.{Bool, true, false, ◌&&◌}
use mathlib.Core.List.{List, [], ◌∷◌}
use Prim.Native.Nat.{ℕ, zero, suc, ◌+◌, ◌*◌, ◌/◌, ◌%◌, ◌^◌, ◌≤◌, ◌<◌, max}
use native.Mathlib.Nat.{le_refl}
use native.Mathlib.Omega.{arith}
use lib.Dec.{leb}
use lib.IntN.{ℤ}
use lib.Signed.{le_z}
use borrow.Author.Tests.{leb-true, leb-false}
use Rattle.sheet_spec.specs.Sizes.{box_bytes}
use Rattle.sheet_spec.specs.Slots.{vars, boxes, δ, α, ρ, recovery_box}
use Rattle.sheet_spec.specs.Limits.{max_allowance, max_ticks, max_width}
use Rattle.sheet_spec.specs.Refusals.{Cause, greatest_number, unless_refused}
use Rattle.sheet_spec.specs.Sheet.{refusal, values}
use Rattle.sheet_spec.specs.Valid.{ValidNumbers}
use Rattle.sheet_spec.specs.Box.{clear}
use Rattle.sheet_spec.proofs.Valid.{valid_numbers}
use Rattle.sheet_spec.proofs.GreatestNumber.{refusal_most}
use Rattle.sheet_spec.proofs.Laws.{first_most, unless_most}
use Rattle.sheet_spec.proofs.FirstRefusal.{first_of_most}
use Rattle.machine_spec.specs.Box.{within}
use Rattle.machine_spec.specs.declared.Law.{Law}
use Rattle.machine_spec.specs.Machine.{machine}
use Rattle.sheet_spec.proofs.Box.{differ}
use Rattle.machine_spec.proofs.Facts.{room}
use Rattle.boxes_spec.specs.Step.{Result, ok, failed, exhausted}
use Rattle.boxes_spec.proofs.Refusals.{law_most, sides_most}
use Rattle.readings_spec.specs.Causes as readings
use Rattle.readings_spec.proofs.Causes as of_reading
use Rattle.boxes_spec.proofs.Stages.{Counted, Takes, value, failure, spent, counted_none, counted_less, counted_on, takes_map, takes_then, takes_if}
use Rattle.boxes_spec.proofs.Settled.{reach_takes}
use Rattle.readings_spec.specs.declared.Reading.{Reading}
use Rattle.readings_spec.specs.declared.Reading.TheVariants.{Point, Pair, Missing}
use Rattle.readings_spec.specs.Exact.{scaled}
use Rattle.readings_spec.specs.Reading.{value_in, tolerance_in, reading_refusal, reading_at, readings_refusal}
use Rattle.decision_spec.specs.Question.{measured, question_head, well_formed, form_refusal, allowance_refusal, head_refusal, question_refusal, allowance_of}
use Rattle.decision_spec.specs.declared.Phase.{Phase}
use Rattle.decision_spec.specs.Decision.{ticks_of, finish, follow, attempt, keep, finest, spent, Reply, refused, answered, decision_phases, decision_of, recovery_phases, recovery_of, check_recovery, decide, code_of, width_of, rounds_of, packed}
use Rattle.decision_spec.specs.Readings.{as_bytes, read_refusal, decide_readings}
use Rattle.decision_spec.proofs.Attempts.{outcome, reply_from, reply_turn}

-- ---- an attempt

-- from the count c the stage takes at most `most` rounds
abbrev pub Spends : Bool → ℕ → ℕ → ℕ → Result (List ℤ) → Type 0
Spends l a c most g = Takes l a c most (λ E. Unit {0}) (λ why. Unit {0}) g

-- an attempt at a width below 2^(e + 1) takes at most 8·e + 1 rounds a tick
module _ (l : Bool) (a : ℕ) {v : List ℤ} (wf : ValidNumbers v) (w e : ℕ) (z : 0 < w) (h : w < 2 ^ suc e) where
  follow_takes : (ps : List Phase) (S : List ℤ) (c : ℕ) → Spends l a c ((8 * e + 1) * ticks_of ps) (follow l a v w ps S c)
  unfolding follow ticks_of
  follow_takes [] S c = value tt (counted_less (omega arith) (counted_none c))
  follow_takes (p ∷ ps) S c =
      takes_then _ (omega arith)
      (takes_map (le_refl ((8 * e + 1) * p.ticks)) (λ r i. tt {0}) (λ why i. tt) (reach_takes l a (machine v p.law) (clear (vars v) v (boxes v)) w e (room wf) z h S p.ticks c))
      (λ r c' _. follow_takes ps _ c')

  pub attempt_takes : (ps : List Phase) (S : List ℤ) (c : ℕ) → Spends l a c ((8 * e + 1) * ticks_of ps) (attempt l a v w ps S c)
  unfolding attempt finish
  attempt_takes ps S c =
      takes_then {d = 0} _ (omega arith) (follow_takes ps S c)
      (λ E c' _. takes_if (within (vars v) E (recovery_box v)) _ _ (λ i. value tt (counted_none c')) (λ i. failure tt (counted_none c')))

-- ---- attempts at ever smaller widths

-- the most rounds a tick over all widths from one below 2^(e + 1) on: 8·e + 1 at the first
unfoldable pub most_aTick : ℕ → ℕ
most_aTick zero = 1
most_aTick (suc e) = 8 * suc e + 1 + most_aTick e

-- finest is at width 1; spent only if there is an allowance, and with the count at it
abbrev pub Reason : Bool → ℕ → Reply → Type 0
Reason l a (refused r) = Unit {0}
Reason l a (answered keep w c) = Unit {0}
Reason l a (answered finest w c) = w ≡ 1
Reason l a (answered spent w c) = (l ≡ true) × (c ≡ a)

-- a reply after at most `most` rounds from the count c, with a width from 1 to w
pub record Concluded (l : Bool) (a c most w : ℕ) (r : Reply) : Type 0 where
  pub some : 0 < width_of r
  pub wide : width_of r ≤ w
  pub counted : Counted l a c most (rounds_of r)
  pub reason : Reason l a r

module _ {l : Bool} {a c most w : ℕ} where
  concluded_on : {c' b d j : ℕ} {r : Reply} → b + d ≤ most → j ≤ w → Counted l a c b c' → Concluded l a c' d j r → Concluded l a c most w r
  concluded_on h k n o = record { some = o.some; wide = omega (arith, o.wide); counted = counted_on h n o.counted; reason = o.reason }

  outcome_concluded : {b : ℕ} (g : Result (List ℤ)) (next : ℕ → Reply) → 0 < w → b ≤ most → Spends l a c b g
      → ((c' : ℕ) → 1 < w → Counted l a c b c' → Concluded l a c most w (next c')) → Concluded l a c most w (outcome g w next)
  unfolding outcome width_of rounds_of
  outcome_concluded g next z h (value p n) k = record { some = z; wide = le_refl w; counted = counted_less h n; reason = tt }
  outcome_concluded g next z h (failure {c' = c'} q n) k = by (leb w 1) refl
    where
      by : (t : Bool) → leb w 1 ≡ t → Concluded l a c most w (elim t [ true ↦ answered finest w c' | false ↦ next c' ])
      by true e = record { some = z; wide = le_refl w; counted = counted_less h n; reason = omega (arith, leb-true w 1 e) }
      by false e = k c' (leb-false w 1 e) n
  outcome_concluded g next z h (spent i e n) k = record { some = z; wide = le_refl w; counted = counted_less h n; reason = (i, e) }

module _ (attemptAt : ℕ → ℕ → Result (List ℤ)) (l : Bool) (a ticks : ℕ)
    (takes : (w e c : ℕ) → 0 < w → w < 2 ^ suc e → Spends l a c ((8 * e + 1) * ticks) (attemptAt w c)) where
  pub attempts_concluded : (fuel w c e : ℕ) → 0 < w → w ≤ fuel → w < 2 ^ suc e → Concluded l a c (most_aTick e * ticks) w (reply_from attemptAt fuel w c)
  unfolding most_aTick
  attempts_concluded zero w c e z f h = absurd (omega arith)
  attempts_concluded (suc fuel) w c zero z f h =
      rw (reply_turn attemptAt fuel w c) (outcome_concluded _ _ z (omega arith) (takes w 0 c z h) (λ c' i n. absurd (omega arith)))
  attempts_concluded (suc fuel) w c (suc e) z f h =
      rw (reply_turn attemptAt fuel w c) (outcome_concluded _ _ z (omega arith) (takes w (suc e) c z h)
      (λ c' i n. concluded_on (omega arith) (omega arith) n (attempts_concluded fuel (w / 2) c' e (omega arith) (omega arith) (omega arith))))

outcome_same : (g : Result (List ℤ)) (w : ℕ) (next other : ℕ → Reply) → (1 < w → (c : ℕ) → next c ≡ other c) → outcome g w next ≡ outcome g w other
unfolding outcome
outcome_same (ok E c) w next other k = refl
outcome_same (failed why c) w next other k = by (leb w 1) refl
  where
    by : (t : Bool) → leb w 1 ≡ t → ◌≡◌ {A = Reply} (elim t [ true ↦ answered finest w c | false ↦ next c ]) (elim t [ true ↦ answered finest w c | false ↦ other c ])
    by true e = refl
    by false e = k (leb-false w 1 e) c
outcome_same (exhausted c) w next other k = refl

-- the fuel is not used up: more of it changes nothing
pub attempts_fuel : (attemptAt : ℕ → ℕ → Result (List ℤ)) (fuel w c : ℕ) → 0 < w → w ≤ fuel → reply_from attemptAt (suc fuel) w c ≡ reply_from attemptAt fuel w c
attempts_fuel attemptAt zero w c z f = absurd (omega arith)
attempts_fuel attemptAt (suc fuel) w c z f =
    reply_turn attemptAt (suc fuel) w c
    ∙ outcome_same (attemptAt w c) w _ _ (λ i c'. attempts_fuel attemptAt fuel (w / 2) c' (omega arith) (omega arith)) ∙ sym (reply_turn attemptAt fuel w c)

-- ---- on values: at most 1,000 ticks and ten widths

-- a reply to a question or a sheet; of a refusal the width is its number
abbrev pub ReplyBounds : Bool → ℕ → Reply → Type 0
ReplyBounds l a r = Concluded l a 0 370000 max_width r

module _ {v : List ℤ} (wf : ValidNumbers v) where
  phases_answer : (l : Bool) (a : ℕ) (ps : List Phase) (S : List ℤ) (w : ℕ) → 0 < w → w ≤ max_width → ticks_of ps ≤ max_ticks → ReplyBounds l a (reply_from (λ w c. attempt l a v w ps S c) w w 0)
  unfolding most_aTick
  phases_answer l a ps S w z h t =
      concluded_on (omega arith) h (counted_none 0)
      (attempts_concluded (λ w c. attempt l a v w ps S c) l a (ticks_of ps) (λ w e c z h. attempt_takes l a wf w e z h ps S c) w w 0 9 z (le_refl w) (omega arith))

  pub decision_answer : (B : List ℤ) (l : Law) (a : ℕ) → ReplyBounds true a (decision_of v B l a)
  unfolding decision_of decision_phases ticks_of
  decision_answer B l a = phases_answer true a (decision_phases v l) B (max (δ v) (α v)) (omega (arith, wf.δ_low)) (omega (arith, wf.sum_high)) (omega (arith, wf.sum_high))

  pub recovery_answer : ReplyBounds false 0 (recovery_of v)
  unfolding recovery_of recovery_phases ticks_of
  recovery_answer = phases_answer false 0 (recovery_phases v) (recovery_box v) (ρ v) wf.ρ_low wf.ρ_high (omega (arith, wf.ρ_high))

-- ---- refusals

head_most : (v : List ℤ) (rest : ℕ) (g : List ℕ) → head_refusal v rest g ≤ greatest_number
unfolding head_refusal form_refusal allowance_refusal
head_most v rest g =
    first_of_most _ (unless_most (well_formed rest g) Cause.question, (unless_most (leb (allowance_of g) max_allowance) Cause.allowance, (law_most v (question_head g).law, tt)))

question_most : (v : List ℤ) (g : List ℕ) → question_refusal v g ≤ greatest_number
unfolding question_refusal
question_most v g = first_of_most _ (head_most v (box_bytes (vars v)) g, (sides_most (vars v) (measured (vars v) g), tt))

reading_most : (r : Reading) → reading_refusal r ≤ greatest_number
unfolding reading_refusal
reading_most (Point m) = of_reading.unless_most (value_in m.value && tolerance_in m.tolerance) readings.Cause.reading
reading_most (Pair l u) = of_reading.unless_most (value_in l && value_in u && le_z (scaled l) (scaled u)) readings.Cause.reading
reading_most Missing = of_reading.unless_most false readings.Cause.missing

read_most : (v : List ℤ) (h : List ℕ) (rs : List Reading) → read_refusal v h rs ≤ greatest_number
unfolding readings_refusal
read_most v h rs = first_of_most _ (head_most v 0 h, (first_most (λ i. reading_refusal (reading_at rs i)) (vars v) (λ i l. reading_most (reading_at rs i)), tt))

unless_answer : {l : Bool} {a : ℕ} (k : ℕ) {r : Reply} → k ≤ greatest_number → (k ≡ 0 → ReplyBounds l a r) → ReplyBounds l a (unless_refused k refused r)
unfolding unless_refused width_of rounds_of
unless_answer zero h o = o refl
unless_answer (suc k) h o = record { some = omega arith; wide = omega arith; counted = counted_less (omega arith) (counted_none 0); reason = tt }

-- ---- for all bytes

pub decide_answer : (f g : List ℕ) → ReplyBounds true (allowance_of g) (decide f g)
unfolding decide
decide_answer f g =
    unless_answer (refusal f) (refusal_most f)
    (λ e. unless_answer (question_refusal (values f) g) (question_most (values f) g) (λ _. decision_answer (valid_numbers f e) _ _ _))

pub readings_answer : (f h : List ℕ) (rs : List Reading) → ReplyBounds true (allowance_of (as_bytes (values f) h rs)) (decide_readings f h rs)
unfolding decide_readings
readings_answer f h rs =
    unless_answer (refusal f) (refusal_most f)
    (λ _. unless_answer (read_refusal (values f) h rs) (read_most (values f) h rs) (λ _. decide_answer f (as_bytes (values f) h rs)))

pub check_answer : (f : List ℕ) → ReplyBounds false 0 (check_recovery f)
unfolding check_recovery
check_answer f = unless_answer (refusal f) (refusal_most f) (λ e. recovery_answer (valid_numbers f e))

-- on values, a recovery check is never spent
pub recovery_of_unspent : {v : List ℤ} → ValidNumbers v → {w c : ℕ} → recovery_of v ≡ answered spent w c → ⊥
recovery_of_unspent wf e = differ (subst (ReplyBounds false 0) e (recovery_answer wf)).reason.0 refl

module _ (f g : List ℕ) where
  -- the rounds of a decision never pass its allowance, nor 370,000
  pub decide_allowed : rounds_of (decide f g) ≤ allowance_of g
  decide_allowed = (decide_answer f g).counted.allowed refl (omega arith)

  pub answer_allowed : {r : Reply} → r ≡ decide f g → (r ≡ decide f g) × (rounds_of r ≤ allowance_of g)
  answer_allowed e = (e, subst (λ (r : Reply). rounds_of r ≤ allowance_of g) (sym e) decide_allowed)

  pub decide_few : rounds_of (decide f g) ≤ 370000
  decide_few = (decide_answer f g).counted.few

  -- so an allowance above that is never spent
  pub decide_unspent : {w c : ℕ} → 370000 < allowance_of g → decide f g ≡ answered spent w c → ⊥
  unfolding rounds_of
  decide_unspent h e = let o = subst (ReplyBounds true (allowance_of g)) e (decide_answer f g) in omega (arith, o.counted.few, o.reason.1)

  -- 730,000 rounds are always enough
  pub decide_enough : {w c : ℕ} → 730000 ≤ allowance_of g → decide f g ≡ answered spent w c → ⊥
  decide_enough h = decide_unspent (omega arith)

  -- finest has width 1
  pub decide_finest : {w c : ℕ} → decide f g ≡ answered finest w c → w ≡ 1
  decide_finest e = (subst (ReplyBounds true (allowance_of g)) e (decide_answer f g)).reason

module _ (f : List ℕ) where
  pub check_few : rounds_of (check_recovery f) ≤ 370000
  check_few = (check_answer f).counted.few

  -- a recovery check is never spent, and fail has width 1
  pub check_unspent : {w c : ℕ} → check_recovery f ≡ answered spent w c → ⊥
  check_unspent e = differ (subst (ReplyBounds false 0) e (check_answer f)).reason.0 refl

  pub check_finest : {w c : ℕ} → check_recovery f ≡ answered finest w c → w ≡ 1
  check_finest e = (subst (ReplyBounds false 0) e (check_answer f)).reason

-- ---- the packed answer

code_most : (r : Reply) → code_of r ≤ 3
unfolding code_of
code_most (refused r) = omega arith
code_most (answered keep w c) = omega arith
code_most (answered finest w c) = omega arith
code_most (answered spent w c) = omega arith

-- it fits 64 bits, and code, width and rounds can be taken out of it
pub record Parts (r : Reply) : Type 0 where
  pub fits : packed r < 2 ^ 64
  pub code : packed r / 2 ^ 48 ≡ code_of r
  pub width : packed r / 2 ^ 32 % 2 ^ 16 ≡ width_of r
  pub rounds : packed r % 2 ^ 32 ≡ rounds_of r

packed_parts : (r : Reply) → width_of r < 2 ^ 16 → rounds_of r < 2 ^ 32 → Parts r
unfolding packed
packed_parts r w c = record { fits = omega (arith, code_most r); code = omega arith; width = omega arith; rounds = omega arith }

answer_parts : {l : Bool} {a : ℕ} {r : Reply} → ReplyBounds l a r → Parts r
answer_parts {r} o = packed_parts r (omega (arith, o.wide)) (omega (arith, o.counted.few))

pub decide_parts : (f g : List ℕ) → Parts (decide f g)
decide_parts f g = answer_parts (decide_answer f g)

pub check_parts : (f : List ℕ) → Parts (check_recovery f)
check_parts f = answer_parts (check_answer f)
