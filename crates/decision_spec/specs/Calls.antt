-- What the calls of include/guard.h answer and what they leave in a lent buffer or array, for all inputs: what is lent stays as it was if
-- the call is refused. That of a reach is in ReachCall.
use Rattle.std.specs.Prelude.{List, ℕ, ℤ, length}
use Rattle.sheet_spec.specs.Refusals.{unless_refused}
use Rattle.sheet_spec.specs.Sheet.{refusal, values, length_of, write_refusal, written}
use Rattle.decision_spec.specs.Decision.{packed, check_recovery, decide}
use Rattle.decision_spec.specs.Call.{refused_call}

-- ---- guard_sheet, guard_recovery, guard_decide: a sheet's bytes f, a question's bytes g

unfoldable pub sheet_call : List ℕ → ℕ
sheet_call f = unless_refused (refusal f) refused_call 0

unfoldable pub recovery_call : List ℕ → ℕ
recovery_call f = packed (check_recovery f)

unfoldable pub decide_call : List ℕ → List ℕ → ℕ
decide_call f g = packed (decide f g)

-- ---- guard_sheet_read: the sheet's numbers go to the array `numbers`; the answer is the sheet's length

unfoldable pub read_call : List ℕ → ℕ
read_call f = unless_refused (refusal f) refused_call (length f)

unfoldable pub read_out : List ℕ → List ℤ → List ℤ
read_out f numbers = unless_refused (refusal f) (λ r. numbers) (values f)

-- ---- guard_sheet_write: the sheet of the numbers in the array v goes to `buffer` from a place on; the answer is its length

unfoldable pub write_call : List ℤ → List ℕ → ℕ → ℕ
write_call v buffer place = unless_refused (write_refusal v buffer place) refused_call (length_of v)

unfoldable pub write_out : List ℤ → List ℕ → ℕ → List ℕ
write_out v buffer place = written v buffer place
