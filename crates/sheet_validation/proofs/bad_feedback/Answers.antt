-- `bad_feedback`: a law's coefficients, and then its constant and its divisor. Assumes nothing.
use Rattle.std.proofs.Common.{◌≡◌, ◌+◌, ◌≤◌, ℕ, suc, List, ℤ, arith, rules}
use Rattle.sheet_encoding.proofs.FieldTurn.{law_parts, bad_coefficients, bad_rest}
use Rattle.sheet_spec.proofs.FieldRuns.{bad_stop}
use Rattle.sheet_spec.specs.Fields.{test, bad}
use Rattle.sheet_spec.specs.Layout.{◌▸◌, coefficient_field, law_fields, law_rest}
use Rattle.sheet_spec.specs.Refusals.{refusal_number}
use Rattle.sheet_spec.specs.Slots.{law_rest_size}
use Rattle.sheet_spec.specs.declared.refusals.Refusal.{Refusal}
use Rattle.sheet_validation.proofs.bad_feedback.Goals as goal

module _ (n s : ℕ) (v : List ℤ) where
  first : {y : ℕ} → y ≡ bad (coefficient_field s) v n → y ≡ bad (law_fields n s) v (n + 0)
  first = bad_coefficients (law_parts n s) v

  next : (q : ℕ) {y : ℕ} → 0 ≡ bad (law_fields n s) v (n + q) → y ≡ test v (law_rest s q) → y ≡ bad (law_fields n s) v (n + suc q)
  next q = bad_rest (law_parts n s) q v

  stop : (q : ℕ) (r : Refusal) → refusal_number r ≡ bad (law_fields n s) v (n + q) → q ≤ law_rest_size → refusal_number r ≡ bad (law_fields n s) v (n + law_rest_size)
  stop q r is l = bad_stop (law_fields n s) v (n + q) (n + law_rest_size) r is (omega arith)

pub returns-in_err-bad_coefficients : goal.returns-in_err-bad_coefficients
returns-in_err-bad_coefficients c = search (rules, stop c.args.n c.args.slot c.args.v.now 0, first)

pub returns-in_err-in_range : goal.returns-in_err-in_range
unfolding law_rest ◌▸◌
returns-in_err-in_range c = search (rules, stop c.args.n c.args.slot c.args.v.now 1, first, next)

pub returns : goal.returns
unfolding law_rest ◌▸◌
returns c = search (rules, first, next)
