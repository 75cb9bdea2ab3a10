-- The decision by readings (document 02, paper 1): it takes the bytes before a question's pairs, h, and for the pairs a list of readings. All of it computes.
use Rattle.std.specs.Prelude.{List, [], ◌∷◌, ◌++◌, ℕ, ◌*◌, ℤ}
use Rattle.sheet_spec.specs.Slots.{pair_size, vars}
use Rattle.sheet_spec.specs.Refusals.{unless_refused, first_of}
use Rattle.sheet_spec.specs.Sheet.{refusal, values}
use Rattle.readings_spec.specs.declared.Reading.{Reading}
use Rattle.readings_spec.specs.Reading.{readings_refusal, readings_box}
use Rattle.decision_spec.specs.Numbers.{number_bytes, sides_of}
use Rattle.decision_spec.specs.Question.{head_refusal}
use Rattle.decision_spec.specs.Decision.{Reply, refused, decision_on, decide}

-- the question with the head h and the measured box B of n variables: the pairs of sides behind the head, as bytes
unfoldable pub with_box : ℕ → List ℕ → List ℤ → List ℕ
with_box n h B = h ++ number_bytes (sides_of n B) (pair_size * n)

-- the question that a head and readings come to on a sheet's value v
abbrev pub as_bytes : List ℤ → List ℕ → List Reading → List ℕ
as_bytes v h rs = with_box (vars v) h (readings_box (vars v) rs)

-- the tests before the box's own: the head's, behind which no bytes follow, then those of the readings, variable by variable
abbrev pub read_refusal : List ℤ → List ℕ → List Reading → ℕ
read_refusal v h rs = first_of (head_refusal v 0 h ∷ readings_refusal (vars v) rs ∷ [])

-- the decision on a sheet's value v
abbrev pub decision_read : List ℤ → List ℕ → List Reading → Reply
decision_read v h rs = unless_refused (read_refusal v h rs) refused (decision_on v (as_bytes v h rs))

-- on a sheet's bytes f: the refusals in their order, and then the answer to the question with that box, which may still be 15
unfoldable pub decide_readings : List ℕ → List ℕ → List Reading → Reply
decide_readings f h rs =
    unless_refused (refusal f) refused
    (unless_refused (read_refusal (values f) h rs) refused
    (decide f (as_bytes (values f) h rs)))
