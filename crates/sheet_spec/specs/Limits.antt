-- How far the numbers of a sheet, a question and a reach go (document 01, "Sheet layout"): the greatest of each.
use Rattle.std.specs.Prelude.{ℕ}

-- the variables of a sheet; there is room for N (Slots)
abbrev pub max_vars : ℕ
max_vars = 6

-- its bands
abbrev pub max_bands : ℕ
max_bands = 8

-- its no-go boxes
abbrev pub max_boxes : ℕ
max_boxes = 8

-- δ + α, ρ, and the ticks of a reach
abbrev pub max_ticks : ℕ
max_ticks = 1000

-- the width of a reach
abbrev pub max_width : ℕ
max_width = 1000

-- a command, without its sign
abbrev pub max_command : ℕ
max_command = 10000

-- a cap
abbrev pub max_cap : ℕ
max_cap = 1000

-- an edge, without its sign
abbrev pub max_edge : ℕ
max_edge = 2000000

-- a and b of a row, and a of a law that follows the state, without their sign
abbrev pub max_coefficient : ℕ
max_coefficient = 1000

-- c of a row or of a law, without its sign
abbrev pub max_constant : ℕ
max_constant = 100000000

-- d of a row
abbrev pub max_spread : ℕ
max_spread = 100000000

-- q of a row or of a law
abbrev pub max_divisor : ℕ
max_divisor = 4096

-- a side of a no-go box, without its sign
abbrev pub max_unsafe_side : ℕ
max_unsafe_side = 2000000

-- a side of the recovery box, without its sign
abbrev pub max_recovery_side : ℕ
max_recovery_side = 1000000

-- a side of a measured box or of the start box of a reach, without its sign
abbrev pub max_side : ℕ
max_side = 1000000

-- a question's allowance
abbrev pub max_allowance : ℕ
max_allowance = 1000000

-- a value of a reading, without its sign (document 02, paper 1)
abbrev pub max_reading : ℕ
max_reading = 1000000

-- a tolerance of a reading
abbrev pub max_tolerance : ℕ
max_tolerance = 1000
