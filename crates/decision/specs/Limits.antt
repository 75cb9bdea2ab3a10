-- What the code asks of its caller.
use Rattle.std.specs.Prelude.{◌≡◌, List, ℤ}
use Rattle.sheet_spec.specs.Limits.{max_side}
use Rattle.sheet_spec.specs.Slots.{vars}
use Rattle.sheet_spec.specs.Valid.{ValidNumbers}
use Rattle.machine_spec.specs.Box.{Sized, trim}
use Rattle.machine_spec.specs.Accepted.{Lawful}
use Rattle.decision_spec.specs.declared.Question.{Question}

-- a decision on the sheet v and the question q
pub record DecisionAsked (v : List ℤ) (q : Question) : Type 0 where
  pub sheet : ValidNumbers v
  pub start : Sized (vars v) max_side q.measured
  pub trimmed : trim (vars v) q.measured ≡ q.measured
  pub law : Lawful v q.head.law
