-- `bad_head`: the head's numbers, one test after another. Assumes nothing.
use Rattle.std.proofs.Common.{rules}
use Rattle.sheet_spec.proofs.FieldRuns.{tests}
use Rattle.sheet_spec.specs.Layout.{◌▸◌, head_fields}
use Rattle.sheet_validation.proofs.bad_head.Goals as goal

pub returns-in_err-in_range : goal.returns-in_err-in_range
unfolding head_fields ◌▸◌
returns-in_err-in_range c = search (rules, tests)

pub returns-in_err-in_range-2 : goal.returns-in_err-in_range-2
unfolding head_fields ◌▸◌
returns-in_err-in_range-2 c = search (rules, tests)

pub returns-in_err-in_range-3 : goal.returns-in_err-in_range-3
unfolding head_fields ◌▸◌
returns-in_err-in_range-3 c = search (rules, tests)

pub returns-in_err-in_range-4 : goal.returns-in_err-in_range-4
unfolding head_fields ◌▸◌
returns-in_err-in_range-4 c = search (rules, tests)

pub returns-in_err-in_range-5 : goal.returns-in_err-in_range-5
unfolding head_fields ◌▸◌
returns-in_err-in_range-5 c = search (rules, tests)

pub returns-in_err-in_range-6 : goal.returns-in_err-in_range-6
unfolding head_fields ◌▸◌
returns-in_err-in_range-6 c = search (rules, tests)

pub returns-in_err-in_range-7 : goal.returns-in_err-in_range-7
unfolding head_fields ◌▸◌
returns-in_err-in_range-7 c = search (rules, tests)

pub returns-in_err-in_range-8 : goal.returns-in_err-in_range-8
unfolding head_fields ◌▸◌
returns-in_err-in_range-8 c = search (rules, tests)

pub returns : goal.returns
unfolding head_fields ◌▸◌
returns c = search (rules, tests)
