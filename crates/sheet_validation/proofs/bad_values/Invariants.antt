-- `bad_values`: the first `r` records pass.
use Rattle.std.proofs.Common.{◌≡◌, true}
use Rattle.sheet_spec.specs.File.{bad_all}
use Rattle.sheet_validation.proofs.bad_values.Given as goal

abbrev pub invariant-loop-r : goal.invariant-loop-r
invariant-loop-r l = 0 ≡ bad_all (λ r. true) l.shape l.v l.r
