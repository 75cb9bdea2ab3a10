-- `decide_on`: head and box that were read are the definition's, and so is the first refusal of head, readings and sides. Assumes nothing.
use Rattle.std.proofs.lemmas.Result.{err_from_is_err_and}
use Rattle.std.proofs.Common.{◌≡◌, refl, sym, ap, ◌∙◌, subst, arith, List, [], ◌∷◌, ℕ, ◌≤◌, ℤ}
use mathlib.Core.Path.{ap₂}
use Rattle.sheet_spec.specs.Slots.{N, vars}
use Rattle.sheet_spec.specs.Valid.{ValidNumbers}
use Rattle.sheet_spec.specs.Refusals.{unless_refused}
use Rattle.sheet_spec.proofs.Laws as laws
use Rattle.sheet_spec.proofs.Laws.{goes_on}
use Rattle.sheet_spec.proofs.FirstRefusal.{found_stops, last_found, found_none}
use Rattle.boxes_spec.specs.Reach.{sides_refusal}
use Rattle.boxes_spec.proofs.Ranges.{lawful, start_sized}
use Rattle.readings_spec.specs.declared.Reading.{Reading}
use Rattle.readings_spec.specs.Reading.{readings_refusal, readings_box}
use Rattle.readings_spec.proofs.Sides.{box_trimmed}
use Rattle.decision_spec.specs.declared.QuestionHead.{QuestionHead}
use Rattle.decision_spec.specs.Question.{question_head, head_refusal}
use Rattle.decision_spec.specs.Decision.{refused, decision_to, decision_on}
use Rattle.decision_spec.specs.Readings.{as_bytes, read_refusal, decision_read}
use Rattle.decision_spec.proofs.Passes.{head_passes}
use Rattle.decision_spec.proofs.Readings.{read_question, decided}
use Rattle.decision.specs.Limits.{DecisionAsked}
use Rattle.decision_answers.specs.Decision.{reply_of}
use Rattle.decision_readings.proofs.decide_on.Goals as goal

-- the refusal of n readings and their box, where n are the sheet's variables, however the code came to n
refusal_at : (rs : List Reading) {r n m : ℕ} → r ≡ readings_refusal n rs → n ≡ m → r ≡ readings_refusal m rs
refusal_at rs e n_is = e ∙ ap (λ (n : ℕ). readings_refusal n rs) n_is

sides_at : (rs : List Reading) {B : List ℤ} {r n k m : ℕ} → r ≡ sides_refusal n B → B ≡ readings_box k rs → n ≡ m → k ≡ m → r ≡ sides_refusal m (readings_box m rs)
sides_at rs e box n_is k_is = e ∙ ap₂ sides_refusal n_is (box ∙ ap (λ (k : ℕ). readings_box k rs) k_is)

-- head and readings passed
module _ (v : List ℤ) (valid : ValidNumbers v) (h : List ℕ) (rs : List Reading) (head_none : 0 ≡ head_refusal v 0 h) (readings_none : 0 ≡ readings_refusal (vars v) rs) where
  few : vars v ≤ N
  few = omega (arith, valid.vars_high)

  passed : read_refusal v h rs ≡ 0
  passed = sym (last_found readings_none (head_refusal v 0 h ∷ []) (sym head_none, tt))

  -- what is left are the sides and the decision on the head and the box
  left : unless_refused (sides_refusal (vars v) (readings_box (vars v) rs)) refused (decision_to v (read_question (vars v) h rs)) ≡ decision_read v h rs
  left = sym (goes_on refused (decision_on v (as_bytes v h rs)) passed ∙ decided v few h rs passed)

  asked : 0 ≡ sides_refusal (vars v) (readings_box (vars v) rs) → DecisionAsked v (read_question (vars v) h rs)
  asked none =
      record {
        sheet = valid;
        start = start_sized (vars v) (readings_box (vars v) rs) (sym none);
        trimmed = box_trimmed (vars v) rs few;
        law = lawful v (question_head h).law (head_passes v 0 h (sym head_none)).law;
      }

-- the question that was read
read : (h : List ℕ) (rs : List Reading) {head : QuestionHead} {B : List ℤ} {n m : ℕ} → head ≡ question_head h → B ≡ readings_box n rs → n ≡ m
    → record { measured = B; head = head } ≡ read_question m h rs
read h rs head_is box_is n_is =
    let box = box_is ∙ ap (λ (n : ℕ). readings_box n rs) n_is in
    λ t. record { measured = box t; head = head_is t }

pub returns-in_err-sides_refusal : goal.returns-in_err-sides_refusal
unfolding reply_of
returns-in_err-sides_refusal c =
    let rs = c.args.readings in
    let n_is = c.vars-n.ensures in
    let box = c.in_ok-measured.ensures in
    let p = err_from_is_err_and c.from_residual-in_err-sides_refusal.result c.from_residual-in_err-sides_refusal.ensures.1 in
    rw (p.1, p.2)
    (found_stops refused _ (sides_at rs c.in_err-sides_refusal.ensures box.measured n_is (omega (arith, n_is))) (laws.refused c.in_err-sides_refusal.field-0.0)
    ∙ left c.args.sheet.now c.requires c.args.head.now rs c.in_ok-head.ensures.refusal (refusal_at rs box.refusal (omega (arith, n_is))))

pub decision_to-requires : goal.decision_to-requires
decision_to-requires c =
    let v = c.args.sheet.now in
    let rs = c.args.readings in
    let n_is = c.vars-n.ensures in
    let head = c.in_ok-head.ensures in
    let box = c.in_ok-measured.ensures in
    subst (DecisionAsked v) (sym (read c.args.head.now rs head.head box.measured (omega (arith, n_is))))
    (asked v c.requires c.args.head.now rs head.refusal (refusal_at rs box.refusal (omega (arith, n_is))) (sides_at rs c.in_ok-sides_refusal.ensures box.measured n_is (omega (arith, n_is))))

pub returns : goal.returns
returns c =
    let v = c.args.sheet.now in
    let h = c.args.head.now in
    let rs = c.args.readings in
    let n_is = c.vars-n.ensures in
    let head = c.in_ok-head.ensures in
    let box = c.in_ok-measured.ensures in
    c.decision_to.ensures ∙ ap (decision_to v) (read h rs head.head box.measured (omega (arith, n_is)))
    ∙ found_none refused _ (sides_at rs c.in_ok-sides_refusal.ensures box.measured n_is (omega (arith, n_is))) refl
    ∙ left v c.requires h rs head.refusal (refusal_at rs box.refusal (omega (arith, n_is)))
