-- A step on a part of the bytes comes to the same as the step on all of them, and the lines of the steps, put together, are the listing. Assumes nothing.
use mathlib.Core.Path.{◌≡◌, refl, sym, ap, ap₂, subst, ◌∙◌}
use mathlib.Core.Bool.{Bool, true, false, false≢true}
use mathlib.Core.List.{List, [], ◌∷◌, ◌++◌}
use Prim.Native.Nat.{ℕ, zero, suc, ◌+◌, ◌≤◌, ◌<◌}
use native.Mathlib.Numerals.{add-one}
use native.Mathlib.Omega.{arith}
use lib.Dec.{ltb, eqb}
use lib.ListN.{length, take, drop, length-drop}
use lib.Seq.{take-take, take-length, drop-length, take-nil}
use borrow.Author.Tests.{lt-ltb, ne_eqb}
use Rattle.std.specs.Bool.{then_some}
use Rattle.std.specs.Prelude.{is_some, IfSome}
use Rattle.std.specs.declared.option.Option.{Option}
use Rattle.std.specs.declared.option.Option.TheVariants.{None, Some}
use Rattle.integers.proofs.Tests.{pick_no}
use Rattle.sheet_spec.specs.Refusals.{Cause, number, unless_refused}
use Rattle.sheet_spec.specs.Slots.{vars}
use Rattle.sheet_spec.specs.Sheet.{refusal, values}
use Rattle.decision_spec.specs.declared.QuestionKind.{QuestionKind}
use Rattle.decision_spec.specs.Question.{kind_of, known, next_length}
use Rattle.decision_spec.specs.Decision.{Reply, refused, check_recovery, decide, is_keep}
use Rattle.decision_spec.specs.Listing.{digits, newline, ◌␣◌, decision_word, reply_text, sheet_line, question_line, question_lines, listing}
use Rattle.decision_spec.proofs.Marks.{kind_part, next_all, unknown_decided}
use Rattle.listing_text.specs.declared.Line.{Line}
use Rattle.listing.specs.declared.Listed.{Listed}
use Rattle.listing.specs.Limits.{longest_question}
use Rattle.listing.specs.Listed.{ListedAs}
use Rattle.listing.specs.ListingSteps.{ListingStep, sheet_step, ended, question_step, step_lines, all_lines, SameStep, StepOnPart, StepsAreListing}
use Rattle.listing.proofs.LongFile.{listing_cut}
use Rattle.listing.proofs.NextLength.{next_some, next_most, next_part}

-- ---- one step

-- the step of question i
abbrev pub asked : List ℕ → ℕ → Bool → ℕ → List ℕ → ListingStep
asked f i more taken question = record { line = question_line f i question; taken = taken; next = then_some more (suc i) }

-- a step by whether there is a question, whether one may follow it, how many bytes it takes, and which
abbrev step_by : List ℕ → ℕ → Bool → Bool → ℕ → List ℕ → ListingStep
step_by f i some more taken question = elim some [ true ↦ asked f i more taken question | false ↦ ended ]

counts : (f : List ℕ) (i : ℕ) (some more : Bool) (taken : ℕ) (question : List ℕ) → IfSome (step_by f i some more taken question).next (λ j. j ≡ i + 1)
counts f i true true taken question = sym (add-one i)
counts f i true false taken question = tt
counts f i false more taken question = tt

module _ (f : List ℕ) (i : ℕ) (g : List ℕ) where
  abbrev size : ℕ
  size = next_length (vars (values f)) g

  by : (some : Bool) → ltb 0 (length g) ≡ some → question_step f (Some i) g ≡ step_by f i some (known (kind_of g)) size (take size g)
  unfolding question_step
  by some e = ap (λ (b : Bool). step_by f i b (known (kind_of g)) size (take size g)) e

  pub step_none : ltb 0 (length g) ≡ false → question_step f (Some i) g ≡ ended
  step_none n = by false n

  pub step_some : ltb 0 (length g) ≡ true → question_step f (Some i) g ≡ asked f i (known (kind_of g)) size (take size g)
  step_some n = by true n

  -- if the listing goes on, the next number is one more
  pub step_counts : IfSome (question_step f (Some i) g).next (λ j. j ≡ i + 1)
  unfolding question_step
  step_counts = counts f i (ltb 0 (length g)) (known (kind_of g)) size (take size g)

pub step_closed : (f g : List ℕ) → question_step f None g ≡ ended
unfolding question_step
step_closed f g = refl

-- the code's answer to a step is its answer to an equal one
pub listed_as : {s t : ListingStep} {before after : Line} {r : Listed} → s ≡ t → ListedAs t before after r → ListedAs s before after r
listed_as {s} {t} {before} {after} {r} e = subst (λ (step : ListingStep). ListedAs step before after r) (sym e)

-- ---- a step on a part

some_part : (g : List ℕ) (held : ℕ) → 0 < held → ltb 0 (length (take held g)) ≡ ltb 0 (length g)
some_part [] held h = ap (λ (l : List ℕ). ltb 0 (length l)) (take-nil held)
some_part (x ∷ g) zero h = let z : ⊥ = omega arith in absurd z
some_part (x ∷ g) (suc held) h = lt-ltb 0 (suc (length (take held g))) (omega arith) ∙ sym (lt-ltb 0 (suc (length g)) (omega arith))

-- the line goes by the reply alone
line_as : (f : List ℕ) (i : ℕ) (a b : List ℕ) → decide f a ≡ decide f b → question_line f i a ≡ question_line f i b
unfolding question_line
line_as f i a b e = ap (λ (r : Reply). (digits i ␣ reply_text decision_word r) ++ (newline ∷ [])) e

-- the question after an unknown mark is all that is left
all_decided : (f g : List ℕ) → known (kind_of g) ≡ false → decide f (take (next_length (vars (values f)) g) g) ≡ unless_refused (refusal f) refused (refused (number Cause.question))
all_decided f g e =
    ap (λ (k : ℕ). decide f (take k g)) (next_all (vars (values f)) g e) ∙ ap (decide f) (take-length g) ∙ unknown_decided g e f

module _ (f g : List ℕ) (i held : ℕ) (l : longest_question ≤ held) where
  abbrev n : ℕ
  n = vars (values f)

  abbrev part : List ℕ
  part = take held g

  same_parts : (some more : Bool) → known (kind_of g) ≡ more
      → SameStep (step_by f i some more (next_length n part) (take (next_length n part) part)) (step_by f i some more (next_length n g) (take (next_length n g) g))
  same_parts false more e = record { line = refl; next = refl; taken = λ m. refl }
  same_parts true true e =
      let q = next_part f g e held l in
      record {
        line = ap (question_line f i) (ap (λ (k : ℕ). take k part) q ∙ take-take (next_length n g) held g (omega (arith, next_most f g e)));
        next = refl;
        taken = λ m. q;
      }
  same_parts true false e =
      record {
        line = line_as f i _ _ (all_decided f part (ap known (kind_part g held (omega arith)) ∙ e) ∙ sym (all_decided f g e));
        next = refl;
        taken = λ m. absurd (false≢true m);
      }

pub step_on_part : StepOnPart
unfolding question_step
step_on_part f g None held l = record { line = refl; next = refl; taken = λ m. refl }
step_on_part f g (Some i) held l =
    let n = vars (values f) in
    let part = take held g in
    subst (λ (s : ListingStep). SameStep s (question_step f (Some i) g))
    (sym (ap₂ (λ (some : Bool) (k : Option QuestionKind). step_by f i some (known k) (next_length n part) (take (next_length n part) part)) (some_part g held (omega arith)) (kind_part g held (omega arith))))
    (same_parts f g i held l (ltb 0 (length g)) (known (kind_of g)) refl)

-- ---- all steps

module _ (f : List ℕ) (held : ℕ → ℕ) (enough : (i : ℕ) → longest_question ≤ held i) where
  abbrev after : ℕ → List ℕ → ListingStep → List ℕ
  after fuel g s = s.line ++ step_lines f held fuel s.next (drop s.taken g)

  -- no line follows where none may
  no_more : (fuel : ℕ) (g : List ℕ) → step_lines f held fuel None g ≡ []
  unfolding step_lines
  no_more zero g = refl
  no_more (suc fuel) g = refl

  -- steps that come to the same have the same lines after them
  same_after : (fuel : ℕ) (g : List ℕ) {s t : ListingStep} → SameStep s t → after fuel g s ≡ after fuel g t
  same_after fuel g {s} {t} same = by s.next refl
    where
      none : (next : Option ℕ) (h : List ℕ) → next ≡ None → step_lines f held fuel next h ≡ []
      none next h e = ap (λ (n : Option ℕ). step_lines f held fuel n h) e ∙ no_more fuel h

      by : (next : Option ℕ) → s.next ≡ next → after fuel g s ≡ after fuel g t
      by (Some i) e = λ z. same.line z ++ step_lines f held fuel (same.next z) (drop (same.taken (ap is_some e) z) g)
      by None e = ap₂ (λ (a b : List ℕ). a ++ b) same.line (none s.next _ e ∙ sym (none t.next _ (sym same.next ∙ e)))

  turn : (fuel i : ℕ) (g : List ℕ) → step_lines f held (suc fuel) (Some i) g ≡ after fuel g (question_step f (Some i) g)
  unfolding step_lines
  turn fuel i g = same_after fuel g (step_on_part f g (Some i) (held i) (enough i))

  turn_none : (fuel i : ℕ) → step_lines f held (suc fuel) (Some i) [] ≡ []
  turn_none fuel i = turn fuel i [] ∙ ap (after fuel []) (step_none f i [] refl) ∙ no_more fuel []

  -- nothing is left after an unknown mark
  none_left : (fuel i : ℕ) (g : List ℕ) → known (kind_of g) ≡ false → question_lines f fuel i (drop (next_length (vars (values f)) g) g) ≡ []
  unfolding question_lines
  none_left fuel i g e = ap (λ (k : ℕ). question_lines f fuel i (drop k g)) (next_all (vars (values f)) g e) ∙ ap (question_lines f fuel i) (drop-length g) ∙ by fuel
    where
      by : (fuel : ℕ) → question_lines f fuel i [] ≡ []
      by zero = refl
      by (suc fuel) = refl

  -- after a question g: the steps go on, or nothing is left
  later : (fuel i : ℕ) (g : List ℕ)
      → step_lines f held (suc fuel) (Some i) (drop (next_length (vars (values f)) g) g) ≡ question_lines f fuel i (drop (next_length (vars (values f)) g) g)
      → step_lines f held (suc fuel) (then_some (known (kind_of g)) i) (drop (next_length (vars (values f)) g) g) ≡ question_lines f fuel i (drop (next_length (vars (values f)) g) g)
  later fuel i g on = by (known (kind_of g)) refl
    where
      by : (more : Bool) → known (kind_of g) ≡ more → step_lines f held (suc fuel) (then_some more i) (drop (next_length (vars (values f)) g) g) ≡ question_lines f fuel i (drop (next_length (vars (values f)) g) g)
      by true e = on
      by false e = no_more (suc fuel) _ ∙ sym (none_left fuel i g e)

  -- the steps from question i on
  steps_from : (fuel : ℕ) (g : List ℕ) (i : ℕ) → length g ≤ fuel → step_lines f held (suc fuel) (Some i) g ≡ question_lines f fuel i g
  unfolding question_lines
  steps_from zero [] i h = turn_none zero i
  steps_from zero (x ∷ g) i h = let z : ⊥ = omega arith in absurd z
  steps_from (suc fuel) [] i h = turn_none (suc fuel) i
  steps_from (suc fuel) (x ∷ g) i h =
      let size = next_length (vars (values f)) (x ∷ g) in
      let line = question_line f i (take size (x ∷ g)) in
      let left : length (drop size (x ∷ g)) ≤ fuel = rw (length-drop size (x ∷ g)) (omega (arith, next_some (vars (values f)) x g)) in
      turn (suc fuel) i (x ∷ g)
      ∙ ap (after (suc fuel) (x ∷ g)) (step_some f i (x ∷ g) (lt-ltb 0 (suc (length g)) (omega arith)))
      ∙ ap (λ (l : List ℕ). line ++ l) (later fuel (suc i) (x ∷ g) (steps_from fuel (drop size (x ∷ g)) (suc i) left))
      ∙ sym (pick_no (eqb (suc (length g)) 0) _ _ (ne_eqb (suc (length g)) 0 (λ z. let w : ⊥ = omega arith in w)))

  steps : (more : Bool) (g : List ℕ) → step_lines f held (suc (length g)) (then_some more 1) g ≡ elim more [ true ↦ question_lines f (length g) 1 g | false ↦ [] ]
  unfolding step_lines
  steps true g = steps_from (length g) g 1 (omega arith)
  steps false g = refl

  all_lines_lem : (g : List ℕ) → all_lines f held g ≡ listing f g
  unfolding all_lines listing sheet_step
  all_lines_lem g = ap (λ (l : List ℕ). sheet_line f ++ l) (steps (is_keep (check_recovery f)) g)

pub steps_are_listing : StepsAreListing
steps_are_listing f g read held l enough = all_lines_lem (take read f) held enough g ∙ listing_cut f g read l
