-- The exact value of a 32-bit float (document 02, paper 1: "Both are of the float's exact value"), in units of 2^-149. That is the least float
-- above 0, and every finite float is a whole number of them; so floor and ceiling are those of a division of whole numbers. All of it computes.
use Rattle.std.specs.Prelude.{Bool, true, false, ◌&&◌, ℕ, ◌*◌, ◌/◌, ◌^◌, ℤ, pos, neg_ℤ, ◌*ℤ◌, Float}
use Rattle.std.specs.Int.Signed.{le_z}
use Rattle.std.specs.Float.{nan, inf, fin}
use Rattle.std.specs.Float.Ieee.{up, down}
use Rattle.machine_spec.specs.Machine.{outward_div}

-- how many units 1 has
abbrev pub unit : ℕ
unit = 2 ^ 149

-- n, or −n if `negative`
abbrev pub signed : Bool → ℕ → ℤ
signed false n = pos n
signed true n = neg_ℤ (pos n)

-- neither a NaN nor an infinity
unfoldable pub finite : Float → Bool
finite nan = false
finite (inf s) = false
finite (fin s m e) = true

-- the value ±m·2^e of a finite float, in units; up e / down e is 2^e. Minus zero is zero. What is not finite has no value, and counts 0
unfoldable pub scaled : Float → ℤ
scaled nan = pos 0
scaled (inf s) = pos 0
scaled (fin s m e) = signed s (m * up e * unit / down e)

-- the floor (`false`) or the ceiling (`true`) of a finite float
unfoldable pub rounded : Bool → Float → ℤ
rounded ceiling x = outward_div ceiling (scaled x) unit

-- a whole number, in units
abbrev pub whole : ℤ → ℤ
whole z = pos unit *ℤ z

-- x is finite, and its exact value lies from least to greatest, both in units and both counted
unfoldable pub between : ℤ → ℤ → Float → Bool
between least greatest x = finite x && le_z least (scaled x) && le_z (scaled x) greatest
