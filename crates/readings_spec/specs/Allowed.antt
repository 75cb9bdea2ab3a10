-- "So the box always holds what the drive meant" (document 02, paper 1): the numbers that a reading allows, and that the box holds them.
-- proofs/Allowed proves both claims.
use Rattle.std.specs.Prelude.{◌≡◌, true, false, List, ℕ, ◌≤◌, ◌<◌, ℤ, pos, ◌+ℤ◌, ◌-ℤ◌, ◌*ℤ◌, ◌≤ℤ◌}
use Rattle.sheet_spec.specs.Slots.{◌!◌, N}
use Rattle.machine_spec.specs.Box.{In}
use Rattle.readings_spec.specs.declared.Reading.{Reading}
use Rattle.readings_spec.specs.declared.Reading.TheVariants.{Point, Pair, Missing}
use Rattle.readings_spec.specs.Exact.{scaled, whole}
use Rattle.readings_spec.specs.Reading.{reading_side, reading_refusal, reading_at, readings_refusal, readings_box}

-- the fraction z / q lies from least to greatest, which are in units
pub record Within (least greatest z : ℤ) (q : ℕ) : Type 0 where
  pub low : (pos q *ℤ least) ≤ℤ whole z
  pub high : whole z ≤ℤ (pos q *ℤ greatest)

-- a reading allows z / q: from value − tolerance to value + tolerance, or from the lower to the upper value. No reading allows nothing to be said
unfoldable pub Allows : Reading → ℤ → ℕ → Type 0
Allows (Point m) z q = Within (scaled m.value -ℤ scaled m.tolerance) (scaled m.value +ℤ scaled m.tolerance) z q
Allows (Pair l u) z q = Within (scaled l) (scaled u) z q
Allows Missing z q = Unit {0}

-- every number that a reading allows lies from its lower to its upper side; a number may be any fraction
abbrev pub HoldsNumbers : Type 0
HoldsNumbers =
    (r : Reading) → reading_refusal r ≡ 0 → (z : ℤ) (q : ℕ) → 0 < q → Allows r z q
    → ((pos q *ℤ reading_side false r) ≤ℤ z) × (z ≤ℤ (pos q *ℤ reading_side true r))

-- so the box holds every state that the readings allow
abbrev pub HoldsStates : Type 0
HoldsStates =
    (n : ℕ) (rs : List Reading) → n ≤ N → readings_refusal n rs ≡ 0
    → (x : List ℤ) → ((i : ℕ) → i < n → Allows (reading_at rs i) (x ! i) 1) → In n (readings_box n rs) x
