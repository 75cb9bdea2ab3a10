-- The decision and the recovery check (document 01, "The decision"). All of it computes.
use Rattle.std.specs.Prelude.{Bool, true, false, List, [], ◌∷◌, ℕ, zero, suc, ◌+◌, ◌*◌, ◌/◌, ◌^◌, max, leb, ℤ}
use Rattle.sheet_spec.specs.Slots.{vars, boxes, δ, α, ρ, recovery_box}
use Rattle.sheet_spec.specs.Refusals.{unless_refused}
use Rattle.sheet_spec.specs.Sheet.{refusal, values}
use Rattle.sheet_spec.specs.Box.{clear}
use Rattle.machine_spec.specs.Box.{within}
use Rattle.machine_spec.specs.declared.Law.{Law}
use Rattle.machine_spec.specs.declared.Law.TheVariants.{Baseline}
use Rattle.machine_spec.specs.Machine.{machine}
use Rattle.boxes_spec.specs.Step.{Failure, unsettled, unrecovered, Result, ok, failed, exhausted, and_then}
use Rattle.boxes_spec.specs.Reach.{Reached, reach}
use Rattle.decision_spec.specs.declared.Phase.{Phase}
use Rattle.decision_spec.specs.declared.Question.{Question}
use Rattle.decision_spec.specs.Question.{question_of, question_refusal}

-- ---- an attempt at a width

abbrev pub phase : Law → ℕ → Phase
phase l t = record { law = l; ticks = t }

unfoldable pub ticks_of : List Phase → ℕ
ticks_of [] = 0
ticks_of (p ∷ ps) = p.ticks + ticks_of ps

-- the last end box E has to be within the recovery box of the sheet v
unfoldable pub finish : List ℤ → List ℤ → ℕ → Result (List ℤ)
finish v E c = elim (within (vars v) E (recovery_box v)) [ true ↦ ok E c | false ↦ failed unrecovered c ]

-- an allowance (if `limited`), a sheet's value, the width
module _ (limited : Bool) (allowance : ℕ) (v : List ℤ) (w : ℕ) where
  -- the reach of a phase, clear of every no-go box
  abbrev pub phase_reach : Phase → List ℤ → ℕ → Result Reached
  phase_reach p S c = reach limited allowance (machine v p.law) (clear (vars v) v (boxes v)) w S p.ticks c

  -- the reaches of the phases, each from the end box of the one before
  unfoldable pub follow : List Phase → List ℤ → ℕ → Result (List ℤ)
  follow [] S c = ok S c
  follow (p ∷ ps) S c = and_then (phase_reach p S c) (λ r c'. follow ps r.end c')

  unfoldable pub attempt : List Phase → List ℤ → ℕ → Result (List ℤ)
  attempt ps S c = and_then (follow ps S c) (finish v)

-- ---- the attempts made

-- an attempt: its width, and what it came to
pub record Attempt : Type 0 where
  pub width : ℕ
  pub result : Result (List ℤ)

abbrev pub tried : ℕ → Result (List ℤ) → Attempt
tried w result = record { width = w; result = result }

-- the attempt at width w and, if it failed at a width over 1, those that follow it
unfoldable pub with_next : ℕ → Result (List ℤ) → (ℕ → List Attempt) → List Attempt
with_next w (ok E c) next = tried w (ok E c) ∷ []
with_next w (failed why c) next = tried w (failed why c) ∷ elim (leb w 1) [ true ↦ [] | false ↦ next c ]
with_next w (exhausted c) next = tried w (exhausted c) ∷ []

-- the attempts at width w, then at half of it rounded down, and so on, after c rounds: widest first, up to one that does not
-- fail, or to width 1. The fuel is not used up if it is at least w
unfoldable pub attempts : (ℕ → ℕ → Result (List ℤ)) → ℕ → ℕ → ℕ → List Attempt
attempts attemptAt zero w c = tried w (failed unsettled c) ∷ []
attempts attemptAt (suc fuel) w c = with_next w (attemptAt w c) (λ c'. attempts attemptAt fuel (w / 2) c')

-- a width at which the attempt failed, and why
pub record FailedWidth : Type 0 where
  pub width : ℕ
  pub why : Failure

unfoldable pub with_failure : ℕ → Result (List ℤ) → List FailedWidth → List FailedWidth
with_failure w (ok E c) others = others
with_failure w (failed why c) others = record { width = w; why = why } ∷ others
with_failure w (exhausted c) others = others

-- the failures of a list of attempts, widest first
unfoldable pub failures : List Attempt → List FailedWidth
failures [] = []
failures (a ∷ others) = with_failure a.width a.result (failures others)

-- ---- answers

-- for the recovery check `keep` is pass and `finest` is fail
pub data Verdict : Type 0 where
  keep : Verdict
  finest : Verdict
  spent : Verdict

-- a refusal number, or a verdict with the width and the rounds over all widths
pub data Reply : Type 0 where
  refused : ℕ → Reply
  answered : Verdict → ℕ → ℕ → Reply

unfoldable pub is_keep : Reply → Bool
is_keep (answered keep w c) = true
is_keep (answered finest w c) = false
is_keep (answered spent w c) = false
is_keep (refused r) = false

-- the answer where the attempt at width w is the last one
unfoldable pub conclusion : ℕ → Result (List ℤ) → Reply
conclusion w (ok E c) = answered keep w c
conclusion w (failed why c) = answered finest w c
conclusion w (exhausted c) = answered spent w c

-- the answer that a list of attempts comes to: that of its last one. No list of attempts is empty
unfoldable pub last_reply : List Attempt → Reply
last_reply [] = answered finest 0 0
last_reply (a ∷ []) = conclusion a.width a.result
last_reply (a ∷ b ∷ others) = last_reply (b ∷ others)

-- ---- the decision on values

-- δ ticks under the law that is asked for, then α under the plain law
unfoldable pub decision_phases : List ℤ → Law → List Phase
decision_phases v l = phase l (δ v) ∷ phase Baseline (α v) ∷ []

-- the attempts from the measured box B, with an allowance (if `limited`)
abbrev pub decision_attempts : Bool → ℕ → List ℤ → List ℤ → Law → List Attempt
decision_attempts limited allowance v B l =
    attempts (λ w c. attempt limited allowance v w (decision_phases v l) B c) (max (δ v) (α v)) (max (δ v) (α v)) 0

abbrev pub decision_within : Bool → ℕ → List ℤ → List ℤ → Law → Reply
decision_within limited allowance v B l = last_reply (decision_attempts limited allowance v B l)

unfoldable pub decision_of : List ℤ → List ℤ → Law → ℕ → Reply
decision_of v B l allowance = decision_within true allowance v B l

-- ρ ticks under the plain law from the recovery box, with no allowance
unfoldable pub recovery_phases : List ℤ → List Phase
recovery_phases v = phase Baseline (ρ v) ∷ []

abbrev pub recovery_attempts : List ℤ → List Attempt
recovery_attempts v = attempts (λ w c. attempt false 0 v w (recovery_phases v) (recovery_box v) c) (ρ v) (ρ v) 0

unfoldable pub recovery_of : List ℤ → Reply
recovery_of v = last_reply (recovery_attempts v)

-- ---- the operations on bytes

-- the decision on a sheet's value v and a question
abbrev pub decision_to : List ℤ → Question → Reply
decision_to v q = decision_of v q.measured q.head.law q.head.allowance

-- and on its bytes g
abbrev pub decision_on : List ℤ → List ℕ → Reply
decision_on v g = unless_refused (question_refusal v g) refused (decision_to v (question_of (vars v) g))

-- the recovery check of a sheet's bytes
unfoldable pub check_recovery : List ℕ → Reply
check_recovery f = unless_refused (refusal f) refused (recovery_of (values f))

-- the decision on a sheet's and a question's bytes
unfoldable pub decide : List ℕ → List ℕ → Reply
decide f g = unless_refused (refusal f) refused (decision_on (values f) g)

-- ---- the answer as one 64-bit number: code, width and rounds

unfoldable pub code_of : Reply → ℕ
code_of (answered keep w c) = 0
code_of (answered finest w c) = 1
code_of (answered spent w c) = 2
code_of (refused r) = 3

-- the width; of a refusal its number
unfoldable pub width_of : Reply → ℕ
width_of (answered v w c) = w
width_of (refused r) = r

unfoldable pub rounds_of : Reply → ℕ
rounds_of (answered v w c) = c
rounds_of (refused r) = 0

unfoldable pub packed : Reply → ℕ
packed a = code_of a * 2 ^ 48 + width_of a * 2 ^ 32 + rounds_of a
