-- The numbers of the causes for which readings are refused: none is 0, and none is greater than those of sheets and questions. Assumes nothing.
use mathlib.Core.Path.{◌≡◌, refl}
use mathlib.Core.Bool.{Bool, true, false}
use Prim.Native.Nat.{◌≤◌}
use native.Mathlib.Omega.{arith}
use Rattle.sheet_spec.specs.Refusals.{greatest_number}
use Rattle.readings_spec.specs.Causes.{Cause, number, refuse_unless}

number_range : (c : Cause) → (1 ≤ number c) × (number c ≤ greatest_number)
number_range Cause.missing = (omega arith, omega arith)
number_range Cause.reading = (omega arith, omega arith)

pub number_is : (c : Cause) → number c ≡ 0 → ⊥
number_is c e = omega (arith, (number_range c).0)

pub unless_zero : (b : Bool) (c : Cause) → refuse_unless b c ≡ 0 → b ≡ true
unless_zero true c e = refl
unless_zero false c e = absurd (number_is c e)

pub unless_most : (b : Bool) (c : Cause) → refuse_unless b c ≤ greatest_number
unless_most true c = omega arith
unless_most false c = (number_range c).1
