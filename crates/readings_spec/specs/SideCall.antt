-- reading_side (include/readings.h), which the archive of the crate `readings_c` has: the floor (face 0) or the ceiling (any other face) of a value, or the refusal 19.
use Rattle.std.specs.Prelude.{cond, not, ℕ, ◌+◌, ◌*◌, ◌^◌, eqb, ℤ, pos, Float}
use Rattle.readings_spec.specs.Causes.{Cause, number}
use Rattle.readings_spec.specs.Exact.{rounded}
use Rattle.readings_spec.specs.Reading.{value_in}

-- a refusal as the calls of include/guard.h have it; no rounded value is as great
abbrev pub refused_side : ℕ
refused_side = 3 * 2 ^ 48 + number Cause.reading * 2 ^ 32

unfoldable pub side_call : Float → ℕ → ℤ
side_call x face = cond (value_in x) (rounded (not (eqb face 0)) x) (pos refused_side)
