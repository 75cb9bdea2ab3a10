-- How many questions may still follow, as their numbers are below 2^64. Assumes nothing.
use Prim.Native.Nat.{ℕ, ◌-◌, ◌^◌}
use Rattle.std.specs.declared.option.Option.{Option}
use Rattle.std.specs.declared.option.Option.TheVariants.{None, Some}

-- by the number of the next one, if there is one
abbrev pub left : Option ℕ → ℕ
left (Some i) = 2 ^ 64 - i
left None = 0
