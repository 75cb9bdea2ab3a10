-- What a reach on bytes answers and what it leaves in a lent buffer.
use Rattle.std.specs.Prelude.{cond, List, [], ◌∷◌, ◌++◌, ℕ, ◌*◌, eqb, ℤ, pos, set, length}
use Rattle.std.proofs.lemmas.List.Edits.{sets}
use Rattle.sheet_spec.specs.Slots.{vars, pair_size}
use Rattle.sheet_spec.specs.Sizes.{box_bytes}
use Rattle.sheet_spec.specs.Refusals.{unless_refused, first_of}
use Rattle.sheet_spec.specs.Sheet.{values}
use Rattle.machine_spec.specs.declared.Law.{Law}
use Rattle.machine_spec.specs.declared.Law.TheVariants.{Baseline}
use Rattle.machine_spec.specs.Machine.{one_command}
use Rattle.boxes_spec.specs.Reach.{Answer, no_box, reach_file}
use Rattle.decision_spec.specs.Question.{pairs}
use Rattle.decision_spec.specs.Call.{refused_call, room_refusal}
use Rattle.decision_spec.specs.Numbers.{number_bytes, sides_of}

-- n pairs of sides; another length counts as a reversed box, which is refused
unfoldable pub start_box : ℕ → List ℕ → List ℤ
start_box n s = cond (eqb (length s) (box_bytes n)) (pairs n s 0) (set no_box 0 (pos 1))

-- where a reach of n variables answers a: the pairs of the end box and then of the swept box go to the first bytes of `out`; the
-- answer is the rounds
module _ (n : ℕ) (a : Answer) (out : List ℕ) where
  unfoldable pub reached_refusal : ℕ
  reached_refusal = first_of (a.refusal ∷ room_refusal (2 * box_bytes n) out ∷ [])

  unfoldable pub reached_call : ℕ
  reached_call = unless_refused reached_refusal refused_call a.rounds

  unfoldable pub reached_out : List ℕ
  reached_out = unless_refused reached_refusal (λ r. out) (sets out 0 (number_bytes (sides_of n a.end ++ sides_of n a.swept) (2 * pair_size * n)))

-- law 0 is the plain law, any other the command u
unfoldable pub law_of : ℕ → ℤ → Law
law_of law u = cond (eqb law 0) Baseline (one_command u)

unfoldable pub reach_answer : List ℕ → ℕ → ℕ → ℕ → ℤ → List ℕ → Answer
reach_answer f ticks w law u s = reach_file f ticks w (law_of law u) (start_box (vars (values f)) s)

unfoldable pub reach_call : List ℕ → ℕ → ℕ → ℕ → ℤ → List ℕ → List ℕ → ℕ
reach_call f ticks w law u s out = reached_call (vars (values f)) (reach_answer f ticks w law u s) out

unfoldable pub reach_out : List ℕ → ℕ → ℕ → ℕ → ℤ → List ℕ → List ℕ → List ℕ
reach_out f ticks w law u s out = reached_out (vars (values f)) (reach_answer f ticks w law u s) out
