-- `bad_coefficients`: the coefficients of a law or of a row, one after another. Assumes nothing.
use Rattle.std.proofs.Common.{◌≡◌, ◌+◌, ℕ, List, ℤ, refl, rules}
use Rattle.sheet_spec.proofs.FieldRuns.{bad_none, bad_next, bad_stop}
use Rattle.sheet_spec.specs.Fields.{test, bad}
use Rattle.sheet_spec.specs.Layout.{coefficient_field}
use Rattle.sheet_validation.proofs.bad_coefficients.Goals as goal

-- one coefficient more
next : (v : List ℤ) (s j : ℕ) {y : ℕ} → 0 ≡ bad (coefficient_field s) v j → y ≡ test v (coefficient_field s j) → y ≡ bad (coefficient_field s) v (j + 1)
next v s j = bad_next (coefficient_field s) j (j + 1) refl (coefficient_field s j) refl v

pub loop-j-init : goal.loop-j-init
loop-j-init c = search (rules, bad_none)

pub returns-in_err-in_range : goal.returns-in_err-in_range
returns-in_err-in_range c = search (rules, bad_stop (coefficient_field c.args.slot) c.args.v.now (c.loop-j.j + 1), next)

pub loop-j-preserved : goal.loop-j-preserved
loop-j-preserved c = search (rules, next)
