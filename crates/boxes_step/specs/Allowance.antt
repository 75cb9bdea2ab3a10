-- What an allowance of the code says, in the terms of the definitions.
use Rattle.std.specs.Prelude.{Bool, true, false, ℕ}
use Rattle.std.specs.declared.option.Option.{Option}
use Rattle.std.specs.declared.option.Option.TheVariants.{None, Some}

-- there is one
abbrev pub is_limited : Option ℕ → Bool
is_limited None = false
is_limited (Some a) = true

-- how many rounds it allows, if there is one
abbrev pub allowed : Option ℕ → ℕ
allowed None = 0
allowed (Some a) = a
