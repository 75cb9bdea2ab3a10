-- What the code gives for a reading and for the readings of all variables: a refusal or, if there is none, the sides.
use Rattle.std.specs.Prelude.{◌≡◌, true, false, List, ℕ, ℤ, IfOk}
use Rattle.std.specs.declared.result.Result.{Result}
use Rattle.sheet_spec.specs.declared.refusals.Refusal.{Refusal}
use Rattle.sheet_spec.specs.Refusals.{refusal_of}
use Rattle.readings_spec.specs.declared.Reading.{Reading}
use Rattle.readings_spec.specs.Reading.{reading_side, reading_refusal, readings_refusal, readings_box}
use Rattle.readings.specs.declared.Sides.{Sides}

pub record SidesOf (x : Reading) (r : Result Sides Refusal) : Type 0 where
  pub refusal : refusal_of r ≡ reading_refusal x
  pub lower : IfOk r (λ s. s.lower ≡ reading_side false x)
  pub upper : IfOk r (λ s. s.upper ≡ reading_side true x)

pub record BoxOf (n : ℕ) (rs : List Reading) (r : Result (List ℤ) Refusal) : Type 0 where
  pub refusal : refusal_of r ≡ readings_refusal n rs
  pub measured : IfOk r (λ b. b ≡ readings_box n rs)
