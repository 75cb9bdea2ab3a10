-- A question with a span of one command says what the question with that command says; so it has the same refusals and replies. Assumes nothing.
use mathlib.Core.Path.{◌≡◌, refl, sym, ap, ap₂, ◌∙◌}
use mathlib.Core.Bool.{Bool, true, false}
use mathlib.Core.List.{List, ◌++◌}
use Prim.Native.Nat.{ℕ, ◌+◌, ◌*◌}
use native.Mathlib.Omega.{arith}
use lib.Dec.{eqb}
use lib.IntN.{ℤ}
use lib.ListN.{length, drop, length-append}
use lib.Seq.{take_at, drop_at, drop-drop}
use borrow.Author.Tests.{eq-eqb, ne_eqb, eqb-true, eqb-false}
use Rattle.integers.specs.Bytes.{be}
use Rattle.sheet_spec.specs.Fields.{i32, bytes_in, decoded, number_of}
use Rattle.sheet_spec.specs.Sizes.{upper_at, pair_bytes, box_bytes}
use Rattle.sheet_spec.specs.Slots.{vars}
use Rattle.sheet_spec.specs.Refusals.{unless_refused}
use Rattle.sheet_spec.specs.Sheet.{refusal, values}
use Rattle.machine_spec.specs.Box.{box_of}
use Rattle.machine_spec.specs.declared.Law.TheVariants.{Span}
use Rattle.std.specs.declared.option.Option.TheVariants.{Some}
use Rattle.decision_spec.specs.declared.QuestionKind.TheVariants.{Single, Ranged}
use Rattle.decision_spec.specs.Question.{kind_of, sides_at, allowance_of, least_of, greatest_of, pairs, measured, question_of, form_refusal, allowance_refusal, head_refusal, question_refusal}
use Rattle.decision_spec.specs.declared.Question.{Question}
use Rattle.decision_spec.specs.Decision.{refused, decision_to, decide}
use Rattle.decision_spec.specs.SpanOfOne.{single_question, ranged_question, SpanOfOne}

module _ (a c s : List ℕ) (few : length a ≡ bytes_in i32) (own : length c ≡ bytes_in i32) where
  abbrev g : List ℕ
  g = ranged_question a c c s

  abbrev g' : List ℕ
  g' = single_question a c s

  -- ---- what they say

  same_allowance : allowance_of g ≡ allowance_of g'
  unfolding allowance_of
  same_allowance = ap be (take_at a (c ++ (c ++ s)) (bytes_in i32) few ∙ sym (take_at a (c ++ s) (bytes_in i32) few))

  -- a number is in the bytes of its field alone
  number_is : (rest : List ℕ) → decoded i32 (c ++ rest) ≡ number_of i32 c
  unfolding decoded
  number_is rest = ap (number_of i32) (take_at c rest (bytes_in i32) own)

  same_least : least_of g ≡ least_of g'
  unfolding least_of
  same_least =
      ap (decoded i32) (drop_at a (c ++ (c ++ s)) (bytes_in i32) few) ∙ number_is (c ++ s)
      ∙ sym (ap (decoded i32) (drop_at a (c ++ s) (bytes_in i32) few) ∙ number_is s)

  -- what follows the allowance and a command
  after_command : (rest : List ℕ) → drop (bytes_in i32 + bytes_in i32) (a ++ (c ++ rest)) ≡ rest
  after_command rest =
      sym (drop-drop (bytes_in i32) (bytes_in i32) (a ++ (c ++ rest)))
      ∙ ap (λ (l : List ℕ). drop (bytes_in i32) l) (drop_at a (c ++ rest) (bytes_in i32) few) ∙ drop_at c rest (bytes_in i32) own

  same_greatest : greatest_of g ≡ greatest_of g'
  unfolding greatest_of kind_of
  same_greatest =
      ap (decoded i32) (after_command (c ++ s)) ∙ number_is s
      ∙ sym (ap (decoded i32) (drop_at a (c ++ s) (bytes_in i32) few) ∙ number_is s)

  -- the sides are the bytes after the head
  after_span : drop (sides_at (Some Ranged)) g ≡ s
  after_span =
      sym (drop-drop (bytes_in i32) (bytes_in i32 + bytes_in i32) (a ++ (c ++ (c ++ s))))
      ∙ ap (λ (l : List ℕ). drop (bytes_in i32) l) (after_command (c ++ s)) ∙ drop_at c s (bytes_in i32) own

  same_side : (k p q : ℕ) → p ≡ sides_at (Some Ranged) + k → q ≡ sides_at (Some Single) + k → decoded i32 (drop p g) ≡ decoded i32 (drop q g')
  same_side k p q e e' =
      rw (e, e')
      (ap (decoded i32)
      (sym (drop-drop k (sides_at (Some Ranged)) g) ∙ ap (λ (l : List ℕ). drop k l) (after_span ∙ sym (after_command s)) ∙ drop-drop k (sides_at (Some Single)) g'))

  same_measured : (n : ℕ) → measured n g ≡ measured n g'
  unfolding measured pairs kind_of
  same_measured n =
      λ t. box_of n (λ i. same_side (pair_bytes * i) _ _ refl refl t) (λ i. same_side (pair_bytes * i + upper_at) (sides_at (Some Ranged) + pair_bytes * i + upper_at) (sides_at (Some Single) + pair_bytes * i + upper_at) (omega arith) (omega arith) t)

  -- ---- their tests

  ranged_size : length g ≡ sides_at (Some Ranged) + length s
  ranged_size = omega (arith, length-append a (c ++ (c ++ s)), length-append c (c ++ s), length-append c s)

  single_size : length g' ≡ sides_at (Some Single) + length s
  single_size = omega (arith, length-append a (c ++ s), length-append c s)

  same_form : (rest : ℕ) → form_refusal rest g ≡ form_refusal rest g'
  unfolding form_refusal kind_of
  same_form rest = by (eqb (length s) rest) refl
    where
      by : (t : Bool) → eqb (length s) rest ≡ t → form_refusal rest g ≡ form_refusal rest g'
      by true e =
          let own-length = eqb-true (length s) rest e in
          rw (eq-eqb (length g) (sides_at (Some Ranged) + rest) (omega (arith, ranged_size)), eq-eqb (length g') (sides_at (Some Single) + rest) (omega (arith, single_size))) refl
      by false e =
          let other = eqb-false (length s) rest e in
          rw (ne_eqb (length g) (sides_at (Some Ranged) + rest) (λ q. other (omega (arith, ranged_size))), ne_eqb (length g') (sides_at (Some Single) + rest) (λ q. other (omega (arith, single_size)))) refl

  same_allowed : allowance_refusal g ≡ allowance_refusal g'
  unfolding allowance_refusal
  same_allowed = rw same_allowance refl

  same_refusals : (v : List ℤ) → question_refusal v g ≡ question_refusal v g'
  unfolding question_refusal head_refusal
  same_refusals v = rw (same_form (box_bytes (vars v)), same_allowed, same_least, same_greatest, same_measured (vars v)) refl

pub span_of_one : SpanOfOne
unfolding decide
span_of_one a c s four each =
    let few : length a ≡ bytes_in i32 = omega (arith, four) in
    let own : length c ≡ bytes_in i32 = omega (arith, each) in
    let said : (n : ℕ) → question_of n (ranged_question a c c s) ≡ question_of n (single_question a c s) = λ n. λ t. record {
      head = record { allowance = same_allowance a c s few own t; law = Span (same_least a c s few own t) (same_greatest a c s few own t) };
      measured = same_measured a c s few own n t;
    } in
    record {
      said = said;
      refusals = same_refusals a c s few own;
      replies = λ f.
          let v = values f in
          ap₂ (λ (r : ℕ) (q : Question). unless_refused (refusal f) refused (unless_refused r refused (decision_to v q))) (same_refusals a c s few own v) (said (vars v));
    }
