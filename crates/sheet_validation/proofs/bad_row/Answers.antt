-- `bad_row`: a row's coefficients, and then b, c, d and q. Assumes nothing.
use Rattle.std.proofs.Common.{◌≡◌, ◌+◌, ◌≤◌, ℕ, suc, List, ℤ, arith, rules}
use Rattle.sheet_encoding.proofs.FieldTurn.{row_parts, bad_coefficients, bad_rest}
use Rattle.sheet_spec.proofs.FieldRuns.{bad_stop}
use Rattle.sheet_spec.specs.Fields.{test, bad}
use Rattle.sheet_spec.specs.Layout.{◌▸◌, coefficient_field, row_fields, row_rest}
use Rattle.sheet_spec.specs.Refusals.{refusal_number}
use Rattle.sheet_spec.specs.Slots.{rest_size}
use Rattle.sheet_spec.specs.declared.refusals.Refusal.{Refusal}
use Rattle.sheet_validation.proofs.bad_row.Goals as goal

module _ (n s : ℕ) (v : List ℤ) where
  first : {y : ℕ} → y ≡ bad (coefficient_field s) v n → y ≡ bad (row_fields n s) v (n + 0)
  first = bad_coefficients (row_parts n s) v

  next : (q : ℕ) {y : ℕ} → 0 ≡ bad (row_fields n s) v (n + q) → y ≡ test v (row_rest s q) → y ≡ bad (row_fields n s) v (n + suc q)
  next q = bad_rest (row_parts n s) q v

  stop : (q : ℕ) (r : Refusal) → refusal_number r ≡ bad (row_fields n s) v (n + q) → q ≤ rest_size → refusal_number r ≡ bad (row_fields n s) v (n + rest_size)
  stop q r is l = bad_stop (row_fields n s) v (n + q) (n + rest_size) r is (omega arith)

pub returns-in_err-bad_coefficients : goal.returns-in_err-bad_coefficients
returns-in_err-bad_coefficients c = search (rules, stop c.args.n c.args.slot c.args.v.now 0, first)

pub returns-in_err-in_range : goal.returns-in_err-in_range
unfolding row_rest ◌▸◌
returns-in_err-in_range c = search (rules, stop c.args.n c.args.slot c.args.v.now 1, first, next)

pub returns-in_err-in_range-2 : goal.returns-in_err-in_range-2
unfolding row_rest ◌▸◌
returns-in_err-in_range-2 c = search (rules, stop c.args.n c.args.slot c.args.v.now 2, first, next)

pub returns-in_err-in_range-3 : goal.returns-in_err-in_range-3
unfolding row_rest ◌▸◌
returns-in_err-in_range-3 c = search (rules, stop c.args.n c.args.slot c.args.v.now 3, first, next)

pub returns : goal.returns
unfolding row_rest ◌▸◌
returns c = search (rules, first, next)
