-- What a recovery check's answer of the code says, in the terms of the definitions.
use Rattle.std.specs.Prelude.{cond}
use Rattle.std.specs.declared.result.Result.{Result}
use Rattle.std.specs.declared.result.Result.TheVariants.{Ok, Err}
use Rattle.sheet_spec.specs.declared.refusals.Refusal.{Refusal}
use Rattle.sheet_spec.specs.Refusals.{refusal_number}
use Rattle.decision_answers.specs.declared.Recovery.{Recovery}
use Rattle.decision_spec.specs.Decision.{keep, finest, spent, Reply, refused, answered}

unfoldable pub check_reply_of : Result Recovery Refusal → Reply
check_reply_of (Ok a) = answered (cond a.passed keep finest) a.width a.rounds
check_reply_of (Err r) = refused (refusal_number r)

-- a decision's reply as a recovery check's, of which none is spent
unfoldable pub as_check : Reply → Reply
as_check (answered keep w c) = answered keep w c
as_check (answered finest w c) = answered finest w c
as_check (answered spent w c) = answered finest w c
as_check (refused r) = refused r
