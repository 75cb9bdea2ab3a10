-- What the code's answer says, in the terms of the definitions.
use Rattle.std.specs.declared.result.Result.{Result}
use Rattle.std.specs.declared.result.Result.TheVariants.{Ok, Err}
use Rattle.sheet_spec.specs.declared.refusals.Refusal.{Refusal}
use Rattle.sheet_spec.specs.Refusals.{refusal_number}
use Rattle.boxes.specs.declared.Reached.{Reached}
use Rattle.boxes_spec.specs.Reach.{Answer, refused}

abbrev pub answer_of : Result Reached Refusal → Answer
answer_of (Ok r) = record { refusal = 0; end = r.end; swept = r.swept; rounds = r.rounds }
answer_of (Err r) = refused (refusal_number r)
