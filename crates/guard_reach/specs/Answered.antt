-- The number by which a call answers what the code comes to.
use Rattle.std.specs.Prelude.{ℕ}
use Rattle.std.specs.declared.result.Result.{Result}
use Rattle.std.specs.declared.result.Result.TheVariants.{Ok, Err}
use Rattle.sheet_spec.specs.declared.refusals.Refusal.{Refusal}
use Rattle.sheet_spec.specs.Refusals.{refusal_number}
use Rattle.decision_spec.specs.Call.{refused_call}

-- the rounds of a reach, or its refusal
abbrev pub number_of : Result ℕ Refusal → ℕ
number_of (Ok rounds) = rounds
number_of (Err r) = refused_call (refusal_number r)
