-- What a decision of the code says, in the terms of the definitions.
use Rattle.std.specs.declared.result.Result.{Result}
use Rattle.std.specs.declared.result.Result.TheVariants.{Ok, Err}
use Rattle.sheet_spec.specs.declared.refusals.Refusal.{Refusal}
use Rattle.sheet_spec.specs.Refusals.{refusal_number}
use Rattle.decision_answers.specs.declared.Verdict.{Verdict}
use Rattle.decision_answers.specs.declared.Verdict.TheVariants.{Keep, Finest, Spent}
use Rattle.decision_answers.specs.declared.Decision.{Decision}
use Rattle.decision_spec.specs.Decision.{keep, finest, spent, Reply, refused, answered, code_of}
use Rattle.decision_spec.specs.Decision as definition

abbrev pub verdict_of : Verdict → definition.Verdict
verdict_of Keep = keep
verdict_of Finest = finest
verdict_of Spent = spent

unfoldable pub reply_of : Result Decision Refusal → Reply
reply_of (Ok d) = answered (verdict_of d.verdict) d.width d.rounds
reply_of (Err r) = refused (refusal_number r)
