-- What the code works out of a float's bits: the whole part of its size and whether something is left, and how a face is rounded by these.
use Rattle.std.specs.Prelude.{◌≡◌, ℕ, ◌/◌, ◌%◌, eqb, Float}
use Rattle.readings_spec.specs.Exact.{unit, signed, scaled}
use Rattle.readings.specs.declared.Parts.{Parts}

-- the parts of a float x: its size is `size` units
pub record PartsOf (x : Float) (r : Parts) : Type 0 where
  pub size : ℕ
  pub value : scaled x ≡ signed r.negative size
  pub whole : r.whole ≡ size / unit
  pub exact : r.exact ≡ eqb (size % unit) 0
