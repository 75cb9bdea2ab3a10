-- The starred checks of document 01 ("Checks at the stops") as one table: what the definitions give, beside what the document
-- says. proofs/Starred.antt proves the two columns equal.
use Rattle.std.specs.Prelude.{Bool, false, cond, List, [], ◌∷◌, ◌++◌, map, ℕ, ◌+◌, ◌*◌, ◌-◌, ◌^◌, ℤ, pos, negsuc, replicate}
use Rattle.integers.specs.Division.{floor_div, ceil_div}
use Rattle.sheet_spec.specs.Slots.{N, band_slot, band_size}
use Rattle.sheet_spec.specs.Sheet.{values}
use Rattle.sheet_spec.specs.SheetA.{file_a}
use Rattle.sheet_spec.specs.Box.{lo, hi, meets, clear}
use Rattle.machine_spec.specs.declared.Law.{Law}
use Rattle.machine_spec.specs.declared.Law.TheVariants.{Baseline}
use Rattle.machine_spec.specs.Machine.{machine, one_command, band_meets, clamp}
use Rattle.boxes_spec.specs.Step.{Result, ok, failed, exhausted}
use Rattle.boxes_spec.specs.Reach.{Reached, reach}
use Rattle.decision_spec.specs.Decision.{packed, decide, check_recovery}
use Rattle.decision_spec.specs.Listing.{listing}

-- ---- sheet A's questions

-- a question of one variable, whose numbers lie from 0 to 255
abbrev pub question : ℕ → ℕ → ℕ → ℕ → List ℕ
question l h u a = 81 ∷ 83 ∷ 0 ∷ 0 ∷ 0 ∷ a ∷ 0 ∷ 0 ∷ 0 ∷ u ∷ 0 ∷ 0 ∷ 0 ∷ l ∷ 0 ∷ 0 ∷ 0 ∷ h ∷ []

unfoldable pub asks_a : List ℕ
asks_a = question 0 0 25 100 ++ (question 95 100 25 100 ++ (question 95 100 25 4 ++ (question 131 131 0 100 ++ question 0 0 26 100)))

-- ---- the table

pub record Check : Type 0 where
  pub computed : List ℤ
  pub expected : List ℤ

abbrev pub check : List ℤ → List ℤ → Check
check g s = record { computed = g; expected = s }

abbrev pub number : ℕ → List ℤ
number n = pos n ∷ []

-- code, width and rounds in one number
abbrev pub packed_as : ℕ → ℕ → ℕ → List ℤ
packed_as code w c = number (code * 2 ^ 48 + w * 2 ^ 32 + c)

abbrev pub asked : List ℕ → List ℤ
asked g = number (packed (decide file_a g))

abbrev pub flag : Bool → List ℤ
flag b = cond b (number 1) (number 0)

-- a box of one variable
abbrev pub interval : ℤ → ℤ → List ℤ
interval l h = l ∷ (replicate (N - 1) (pos 0) ++ (h ∷ replicate (N - 1) (pos 0)))

-- the sides of a reach's end box, and the rounds
abbrev pub end_sides : Result Reached → List ℤ
end_sides (ok r c) = lo r.end 0 ∷ hi r.end 0 ∷ number c
end_sides (failed why c) = []
end_sides (exhausted c) = []

-- four ticks on sheet A at width 4, after c rounds
abbrev pub reach_a : Law → List ℤ → ℕ → List ℤ
reach_a l S c = end_sides (reach false 0 (machine (values file_a) l) (clear 1 (values file_a) 1) 4 S 4 c)

-- a sheet's value with the edges −2,000,000 and 0, and whether its band k holds the value x
abbrev pub edges : List ℤ
edges = replicate (band_slot 0) (pos 0) ++ (negsuc 1999999 ∷ (replicate (band_size - 1) (pos 0) ++ number 0))

abbrev pub holds : ℕ → ℤ → List ℤ
holds k x = flag (band_meets edges 2 k x x)

-- the six lines, as numbers and as text
unfoldable pub lines : List Check
lines =
    check (number (packed (check_recovery file_a))) (packed_as 0 4 1)
    ∷ check (asked (question 0 0 25 100)) (packed_as 0 4 4)
    ∷ check (asked (question 95 100 25 100)) (packed_as 0 4 5)
    ∷ check (asked (question 95 100 25 4)) (packed_as 2 4 4)
    ∷ check (asked (question 131 131 0 100)) (packed_as 1 1 5)
    ∷ check (asked (question 0 0 26 100)) (packed_as 3 14 0)
    ∷ check (map pos (listing file_a asks_a)) (map pos text)
    ∷ []
  where
    text : List ℕ
    text =
        115 ∷ 104 ∷ 101 ∷ 101 ∷ 116 ∷ 32 ∷ 112 ∷ 97 ∷ 115 ∷ 115 ∷ 32 ∷ 52 ∷ 32 ∷ 49 ∷ 10
        ∷ 49 ∷ 32 ∷ 107 ∷ 101 ∷ 101 ∷ 112 ∷ 32 ∷ 52 ∷ 32 ∷ 52 ∷ 10
        ∷ 50 ∷ 32 ∷ 107 ∷ 101 ∷ 101 ∷ 112 ∷ 32 ∷ 52 ∷ 32 ∷ 53 ∷ 10
        ∷ 51 ∷ 32 ∷ 111 ∷ 118 ∷ 101 ∷ 114 ∷ 32 ∷ 115 ∷ 112 ∷ 101 ∷ 110 ∷ 116 ∷ 32 ∷ 52 ∷ 32 ∷ 52 ∷ 10
        ∷ 52 ∷ 32 ∷ 111 ∷ 118 ∷ 101 ∷ 114 ∷ 32 ∷ 102 ∷ 105 ∷ 110 ∷ 101 ∷ 115 ∷ 116 ∷ 32 ∷ 49 ∷ 32 ∷ 53 ∷ 10
        ∷ 53 ∷ 32 ∷ 114 ∷ 101 ∷ 102 ∷ 117 ∷ 115 ∷ 101 ∷ 100 ∷ 32 ∷ 49 ∷ 52 ∷ 10 ∷ []

-- the others, in the document's order
unfoldable pub others : List Check
others =
    check (floor_div N131 20 ∷ ceil_div N131 20 ∷ clamp (pos 5) (floor_div N131 20) ∷ clamp (pos 5) (ceil_div N131 20) ∷ [])
    (negsuc 6 ∷ negsuc 5 ∷ negsuc 4 ∷ negsuc 4 ∷ [])
    ∷ check (reach_a (one_command (pos 25)) (interval (pos 0) (pos 0)) 0) (pos 16 ∷ pos 20 ∷ number 2)
    ∷ check (reach_a Baseline (interval (pos 16) (pos 20)) 2) (pos 12 ∷ pos 20 ∷ number 4)
    ∷ check (asked (question 0 0 25 0)) (packed_as 2 4 0)
    ∷ check (flag (meets 1 (interval (pos 100) (pos 129)) (interval (pos 130) (pos 2000000)))) (number 0)
    ∷ check (flag (meets 1 (interval (pos 100) (pos 130)) (interval (pos 130) (pos 2000000)))) (number 1)
    ∷ check (holds 0 (negsuc 0) ++ holds 1 (negsuc 0)) (pos 1 ∷ number 0)
    ∷ check (holds 0 (pos 0) ++ holds 1 (pos 0)) (pos 0 ∷ number 1)
    ∷ []
  where
    N131 : ℤ
    N131 = negsuc 130

unfoldable pub table : List Check
table = lines ++ others
