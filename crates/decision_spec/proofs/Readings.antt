-- The question that a head and a box come to: it is refused where the head is, and otherwise it says the head and the box. Assumes nothing.
use mathlib.Core.Path.{◌≡◌, refl, sym, ap, ap₂, ◌∙◌, subst}
use mathlib.Core.Bool.{Bool, true, false, cond, ◌&&◌}
use mathlib.Core.List.{List, [], ◌∷◌}
use Prim.Native.Nat.{ℕ, zero, suc, ◌+◌, ◌*◌, ◌≤◌, ◌<◌, zero-le}
use native.Mathlib.Omega.{arith}
use lib.Dec.{leb, eqb}
use lib.IntN.{ℤ}
use lib.ListN.{get_or, length, take, drop, length-append, length-drop, get_or-eq_default}
use lib.Seq.{take-append-le, drop-append-le, take_at}
use borrow.Author.Tests.{eq-eqb, ne_eqb, eqb-true, eqb-false, leb-true, leb-false}
use Rattle.integers.specs.Bound.{Bound}
use Rattle.integers.specs.Bytes.{be}
use Rattle.integers.proofs.Z.{ints, flat}
use Rattle.sheet_spec.specs.Fields.{i32, bytes_in, decoded, number_of}
use Rattle.sheet_spec.specs.Sizes.{letters, upper_at, pair_bytes, box_bytes}
use Rattle.sheet_spec.specs.Slots.{◌!◌, N, pair_size, vars}
use Rattle.sheet_spec.specs.Box.{lo, hi}
use Rattle.sheet_spec.specs.Refusals.{Cause, number, refuse_unless, unless_refused, first_of}
use Rattle.sheet_spec.specs.Sheet.{refusal, values}
use Rattle.sheet_spec.proofs.Laws.{goes_on, either_none, none_either}
use Rattle.sheet_spec.proofs.FirstRefusal.{all_pass, found_stops}
use Rattle.sheet_spec.proofs.Ranges.{Fit}
use Rattle.machine_spec.specs.Box.{trim}
use Rattle.machine_spec.proofs.Box.{sides_same}
use Rattle.machine_spec.specs.declared.Law.TheVariants.{Span}
use Rattle.boxes_spec.specs.Reach.{sides_refusal}
use Rattle.readings_spec.specs.declared.Reading.{Reading}
use Rattle.readings_spec.specs.Reading.{readings_refusal, readings_box}
use Rattle.readings_spec.proofs.Sides.{max_side_read, box_near, box_trimmed}
use Rattle.std.specs.declared.option.Option.{Option}
use Rattle.std.specs.declared.option.Option.TheVariants.{Some, None}
use Rattle.decision_spec.specs.declared.QuestionKind.{QuestionKind}
use Rattle.decision_spec.specs.declared.QuestionKind.TheVariants.{Single, Ranged}
use Rattle.decision_spec.specs.declared.Question.{Question}
use Rattle.decision_spec.specs.Numbers.{number_bytes, sides_of}
use Rattle.decision_spec.specs.Question.{kind_of, known, allowance_at, command_at, greatest_at, sides_at, allowance_of, least_of, greatest_of, pairs, measured, question_head, question_of, form_refusal, allowance_refusal, head_refusal, question_refusal}
use Rattle.decision_spec.specs.Decision.{refused, rounds_of, decision_to, decision_on, decide}
use Rattle.decision_spec.specs.Readings.{with_box, as_bytes, read_refusal, decision_read, decide_readings}
use Rattle.decision_spec.proofs.Marks.{kind_part, greatest_from}
use Rattle.decision_spec.proofs.Passes.{form_passes, head_passes}
use Rattle.decision_spec.proofs.Allowance.{answer_allowed}
use Rattle.decision_spec.proofs.Numbers.{bytes_length, number_at, sides_at_lem, sides_each}

module _ (n : ℕ) (h : List ℕ) (B : List ℤ) where
  abbrev behind : List ℕ
  behind = number_bytes (sides_of n B) (pair_size * n)

  abbrev g : List ℕ
  g = with_box n h B

  size : length g ≡ length h + box_bytes n
  unfolding with_box
  size = omega (arith, length-append h behind, bytes_length (sides_of n B) (pair_size * n))

  -- ---- its mark

  same_kind : letters ≤ length h → kind_of g ≡ kind_of h
  unfolding with_box
  same_kind l = sym (kind_part g (length h) l) ∙ ap kind_of (take_at h behind (length h) refl)

  -- a single byte has no mark
  short_unknown : length h < letters → kind_of h ≡ None
  unfolding kind_of
  short_unknown l = rw (get_or-eq_default h 0 (let m : length h ≤ 1 = omega arith in m)) (both (eqb (get_or h 0 0) 81))
    where
      both : (b : Bool) → cond (b && false) (Some Single) (cond (b && false) (Some Ranged) None) ≡ None
      both true = refl
      both false = refl

  fields_from : (k : Option QuestionKind) → letters ≤ sides_at k
  fields_from k = omega (arith, greatest_from k)

  -- ---- its tests

  same_length : (k : Option QuestionKind) → eqb (length g) (sides_at k + box_bytes n) ≡ eqb (length h) (sides_at k + 0)
  same_length k = by (eqb (length h) (sides_at k + 0)) refl
    where
      by : (t : Bool) → eqb (length h) (sides_at k + 0) ≡ t → eqb (length g) (sides_at k + box_bytes n) ≡ t
      by true e = let own = eqb-true (length h) (sides_at k + 0) e in eq-eqb (length g) (sides_at k + box_bytes n) (omega (arith, size))
      by false e = let other = eqb-false (length h) (sides_at k + 0) e in ne_eqb (length g) (sides_at k + box_bytes n) (λ q. other (omega (arith, size)))

  pub same_form : form_refusal (box_bytes n) g ≡ form_refusal 0 h
  unfolding form_refusal
  same_form = by (leb letters (length h)) refl
    where
      refuses : (b : Bool) → refuse_unless (b && false) Cause.question ≡ number Cause.question
      refuses true = refl
      refuses false = refl

      by : (t : Bool) → leb letters (length h) ≡ t → form_refusal (box_bytes n) g ≡ form_refusal 0 h
      by true e = rw (same_kind (leb-true letters (length h) e), same_length (kind_of h)) refl
      by false e =
          let short : length h < letters = leb-false letters (length h) e in
          rw (short_unknown short, ne_eqb (length g) (sides_at (kind_of g) + box_bytes n) (λ q. omega (arith, size, fields_from (kind_of g)))) (refuses (known (kind_of g)))

  -- ---- what it says, where its head is well formed

  module _ (formed : form_refusal 0 h ≡ 0) where
    own_size : length h ≡ sides_at (kind_of h)
    own_size = omega (arith, (form_passes 0 h formed).size)

    of_kind : kind_of g ≡ kind_of h
    of_kind = same_kind (omega (arith, own_size, fields_from (kind_of h)))

    -- a number of the head
    field : (at : ℕ) → at + bytes_in i32 ≤ length h → take (bytes_in i32) (drop at g) ≡ take (bytes_in i32) (drop at h)
    unfolding with_box
    field at l =
        ap (take (bytes_in i32)) (drop-append-le at h behind (omega arith)) ∙ take-append-le (bytes_in i32) (drop at h) behind (omega (arith, length-drop at h))

    same_allowance : allowance_of g ≡ allowance_of h
    unfolding allowance_of
    same_allowance = ap be (field allowance_at (omega (arith, own_size, greatest_from (kind_of h))))

    same_number : (at : ℕ) → at + bytes_in i32 ≤ length h → decoded i32 (drop at g) ≡ decoded i32 (drop at h)
    unfolding decoded
    same_number at l = ap (number_of i32) (field at l)

    same_least : least_of g ≡ least_of h
    unfolding least_of
    same_least = same_number command_at (omega (arith, own_size, greatest_from (kind_of h)))

    same_greatest : greatest_of g ≡ greatest_of h
    unfolding greatest_of
    same_greatest = rw of_kind (same_number (greatest_at (kind_of h)) (omega (arith, own_size)))

    pub same_head : question_head g ≡ question_head h
    same_head = λ t. record { allowance = same_allowance t; law = Span (same_least t) (same_greatest t) }

    pub same_allowed : allowance_refusal g ≡ allowance_refusal h
    unfolding allowance_refusal
    same_allowed = rw same_allowance refl

    -- the box, if its sides fit 32 bits and it has nothing beyond its variables
    module _ (fit : (i : ℕ) → i < n → Fit i32 (lo B i) × Fit i32 (hi B i)) where
      side_at : (j a : ℕ) → j < pair_size * n → a ≡ sides_at (kind_of g) + 4 * j → decoded i32 (drop a g) ≡ sides_of n B ! j
      unfolding with_box
      side_at j a l e =
          let q : a ≡ length h + 4 * j = e ∙ ap (λ (k : Option QuestionKind). sides_at k + 4 * j) of_kind ∙ ap (λ (k : ℕ). k + 4 * j) (sym own_size) in
          rw q (number_at h (sides_of n B) (pair_size * n) (sides_each (Fit i32) n B fit) j l)

      pub same_box : trim n B ≡ B → measured n g ≡ B
      unfolding measured pairs trim
      same_box trimmed =
          sides_same n _ _ (lo B) (hi B) (λ i l. (
            side_at (2 * i) (sides_at (kind_of g) + pair_bytes * i) (omega arith) (omega arith) ∙ (sides_at_lem n B i l).0,
            side_at (2 * i + 1) (sides_at (kind_of g) + pair_bytes * i + upper_at) (omega arith) (omega arith) ∙ (sides_at_lem n B i l).1,
          ))
          ∙ trimmed

-- ---- the head's tests

pub head_same : (v : List ℤ) (n : ℕ) (h : List ℕ) (B : List ℤ) → head_refusal v (box_bytes n) (with_box n h B) ≡ head_refusal v 0 h
unfolding head_refusal first_of unless_refused
head_same v n h B = by (form_refusal 0 h) refl
  where
    by : (r : ℕ) → form_refusal 0 h ≡ r → head_refusal v (box_bytes n) (with_box n h B) ≡ head_refusal v 0 h
    by zero e = rw (same_form n h B, same_allowed n h B e, same_least n h B e, same_greatest n h B e) refl
    by (suc r) e = rw (same_form n h B, e) refl

-- ---- a head and readings that are not refused

-- the head, and the box that the readings give
abbrev pub read_question : ℕ → List ℕ → List Reading → Question
read_question n h rs = record { head = question_head h; measured = readings_box n rs }

module _ (v : List ℤ) (h : List ℕ) (rs : List Reading) (passed : read_refusal v h rs ≡ 0) where
  both_pass : (head_refusal v 0 h ≡ 0) × (readings_refusal (vars v) rs ≡ 0)
  both_pass = let all = all_pass (head_refusal v 0 h ∷ readings_refusal (vars v) rs ∷ []) passed in (all.0, all.1.0)

  pub well_formed_lem : form_refusal 0 h ≡ 0
  well_formed_lem = (head_passes v 0 h both_pass.0).form

module _ (v : List ℤ) (few : vars v ≤ N) (h : List ℕ) (rs : List Reading) (passed : read_refusal v h rs ≡ 0) where
  abbrev n : ℕ
  n = vars v

  both : (head_refusal v 0 h ≡ 0) × (readings_refusal n rs ≡ 0)
  both = both_pass v h rs passed

  formed : form_refusal 0 h ≡ 0
  formed = well_formed_lem v h rs passed

  fit : (i : ℕ) → i < n → Fit i32 (lo (readings_box n rs) i) × Fit i32 (hi (readings_box n rs) i)
  fit i l = let near = box_near n rs few both.1 in (narrow (near.at false i l), narrow (near.at true i l))
    where
      narrow : {z : ℤ} → Bound z max_side_read → Fit i32 z
      narrow {z} b = record { low = simp flat (omega (ints, b.at_most)); high = simp flat (omega (ints, b.at_most)) }

  pub said_box : measured n (as_bytes v h rs) ≡ readings_box n rs
  said_box = same_box n h (readings_box n rs) formed fit (box_trimmed n rs few)

  pub said : question_of n (as_bytes v h rs) ≡ read_question n h rs
  said = λ t. record { head = same_head n h (readings_box n rs) formed t; measured = said_box t }

  -- what is left to be tested are the sides
  pub sides_left : question_refusal v (as_bytes v h rs) ≡ sides_refusal n (readings_box n rs)
  unfolding question_refusal first_of unless_refused
  sides_left = rw (head_same v n h (readings_box n rs), both.0, said_box) (either_none (sides_refusal n (readings_box n rs)))

  -- so the decision is that on the head and the box
  pub decided : decision_on v (as_bytes v h rs) ≡ unless_refused (sides_refusal n (readings_box n rs)) refused (decision_to v (read_question n h rs))
  decided = ap₂ (λ (r : ℕ) (q : Question). unless_refused r refused (decision_to v q)) sides_left said

-- ---- the refusals as the code comes to them: of the head, of the readings, and S of the sides, which are the box's where the readings pass

module _ (v : List ℤ) (few : vars v ≤ N) (h : List ℕ) (rs : List Reading) (S c : ℕ) where
  abbrev in_order : ℕ
  in_order = unless_refused (head_refusal v 0 h) (λ r. r) (unless_refused (readings_refusal (vars v) rs) (λ r. r) S)

  -- what `decision_read` is, where the readings pass too
  of_sides : read_refusal v h rs ≡ 0 → S ≡ sides_refusal (vars v) (readings_box (vars v) rs) → (c ≡ 0 → ⊥) → c ≡ S → refused c ≡ decision_read v h rs
  unfolding unless_refused
  of_sides passed own some e =
      found_stops refused (decision_to v (read_question (vars v) h rs)) (e ∙ own) some ∙ sym (decided v few h rs passed) ∙ sym (goes_on refused (decision_on v (as_bytes v h rs)) passed)

  pub read_refused : (readings_refusal (vars v) rs ≡ 0 → S ≡ sides_refusal (vars v) (readings_box (vars v) rs)) → c ≡ in_order → (c ≡ 0 → ⊥) → refused c ≡ decision_read v h rs
  unfolding first_of unless_refused
  read_refused own e some = by (head_refusal v 0 h) refl (readings_refusal (vars v) rs) refl
    where
      by : (r : ℕ) → head_refusal v 0 h ≡ r → (s : ℕ) → readings_refusal (vars v) rs ≡ s → refused c ≡ decision_read v h rs
      by (suc r) p s q = rw p (ap refused (rw p at e))
      by zero p (suc s) q = rw (p, q) (ap refused (rw (p, q) at e))
      by zero p zero q = of_sides (rw (p, q) refl) (own q) some (rw (p, q) at e)

  -- all pass
  pub all_passed : c ≡ in_order → c ≡ 0 → (read_refusal v h rs ≡ 0) × (readings_refusal (vars v) rs ≡ 0) × (S ≡ 0)
  unfolding first_of
  all_passed e none =
      let a = none_either (head_refusal v 0 h) (unless_refused (readings_refusal (vars v) rs) (λ r. r) S) (sym e ∙ none) in
      let b = none_either (readings_refusal (vars v) rs) S a.1 in
      (rw (a.0, b.0) (unfold unless_refused in refl), b.0, b.1)

-- ---- the decision on bytes

-- on an accepted sheet it is the decision on the sheet's value
pub read_accepted : (f h : List ℕ) (rs : List Reading) → refusal f ≡ 0 → decide_readings f h rs ≡ decision_read (values f) h rs
unfolding decide_readings decide unless_refused
read_accepted f h rs none = rw none refl

-- its rounds are at most the head's allowance
pub read_allowed : (f h : List ℕ) (rs : List Reading) → rounds_of (decide_readings f h rs) ≤ allowance_of h
unfolding decide_readings unless_refused rounds_of
read_allowed f h rs = by (refusal f) refl (read_refusal (values f) h rs) refl
  where
    by : (r : ℕ) → refusal f ≡ r → (s : ℕ) → read_refusal (values f) h rs ≡ s
        → rounds_of (unless_refused r refused (unless_refused s refused (decide f (as_bytes (values f) h rs)))) ≤ allowance_of h
    by (suc r) e s e' = zero-le
    by zero e (suc s) e' = zero-le
    by zero e zero e' =
        subst (λ (k : ℕ). rounds_of (decide f (as_bytes (values f) h rs)) ≤ k)
        (same_allowance (vars (values f)) h (readings_box (vars (values f)) rs) (well_formed_lem (values f) h rs e'))
        (answer_allowed f (as_bytes (values f) h rs) refl).1
