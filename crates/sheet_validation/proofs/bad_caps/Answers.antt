-- `bad_caps`: the head with its caps. Assumes nothing.
use Rattle.std.proofs.Common.{◌≡◌, ◌+◌, ℕ, List, ℤ, arith, rules}
use Rattle.sheet_spec.proofs.FieldRuns.{bad_next, bad_stop}
use Rattle.sheet_spec.proofs.FieldPlaces.{cap_at}
use Rattle.sheet_spec.specs.Fields.{test, bad}
use Rattle.sheet_spec.specs.Layout.{cap_field, head_fields}
use Rattle.sheet_spec.specs.Slots.{head_size}
use Rattle.sheet_validation.proofs.bad_caps.Goals as goal

-- one cap more
next : (v : List ℤ) (i : ℕ) {y : ℕ} → 0 ≡ bad head_fields v (head_size + i) → y ≡ test v (cap_field i) → y ≡ bad head_fields v (head_size + (i + 1))
next v i = bad_next head_fields (head_size + i) (head_size + (i + 1)) (omega arith) (cap_field i) (cap_at i) v

pub returns-in_err-bad_head : goal.returns-in_err-bad_head
returns-in_err-bad_head c = search (rules, bad_stop)

pub returns-in_err-in_range : goal.returns-in_err-in_range
returns-in_err-in_range c = search (rules, bad_stop head_fields c.args.v.now (head_size + (c.loop-i.i + 1)), next)

pub loop-i-preserved : goal.loop-i-preserved
loop-i-preserved c = search (rules, next)
