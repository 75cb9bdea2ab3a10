-- The definitions at sheet A, whole, damaged and with a law that follows the state. Assumes nothing.
use mathlib.Core.Path.{◌≡◌, refl}
use mathlib.Core.Bool.{Bool, true, false}
use mathlib.Core.List.{List, [], ◌∷◌, ◌++◌, map}
use Prim.Native.Nat.{ℕ, ◌+◌, ◌^◌}
use native.Mathlib.Omega.{arith}
use lib.IntN.{ℤ, pos, negsuc}
use lib.ListN.{take, drop, replicate}
use lib.Seq.{sets}
use Rattle.sheet_spec.specs.Slots.{N, box_size, boxes_slot, band_slot, law_slot, constant_slot, divisor_slot, row_slot, recovery_slot, unsafe_slot}
use Rattle.sheet_spec.specs.Fields.{u16, i16, i32, encoded}
use Rattle.sheet_spec.specs.Box.{meets}
use Rattle.sheet_spec.specs.Order.{compare_boxes}
use Rattle.std.specs.declared.cmp.Ordering.{Ordering}
use Rattle.std.specs.declared.cmp.Ordering.TheVariants.{Less, Equal, Greater}
use Rattle.sheet_spec.specs.declared.BandKind.TheVariants.{Fixed, Feedback}
use Rattle.sheet_spec.specs.declared.Record.TheVariants.{Recovery}
use Rattle.sheet_spec.specs.declared.Shape.{Shape}
use Rattle.sheet_spec.specs.File.{closing}
use Rattle.sheet_spec.specs.Sheet.{zeros, refusal, values, value_refusal, bytes_of, length_of, write_refusal, written, Same}
use Rattle.sheet_spec.specs.SheetA.{head_a, band_a, boxes_a, file_a}
use Rattle.sheet_spec.specs.Refusals.{Cause, number}
use Rattle.sheet_spec.proofs.Everything.{everything}

-- ---- sheet A

-- its head with the cap; edge and safety range; a; b, c, d, q; the two sides of each box
pub value_a : List ℤ
value_a =
    sets (sets (sets (sets (sets (sets (sets (sets zeros
    0 (pos 1 ∷ pos 1 ∷ pos 1 ∷ pos 0 ∷ pos 4 ∷ pos 4 ∷ pos 4 ∷ negsuc 24 ∷ pos 25 ∷ pos 5 ∷ []))
    (band_slot 0) (negsuc 1999999 ∷ pos 0 ∷ pos 0 ∷ []))
    (row_slot 0 0) (negsuc 0 ∷ []))
    (row_slot 0 0 + N) (pos 4 ∷ pos 0 ∷ pos 0 ∷ pos 20 ∷ []))
    (unsafe_slot 0) (pos 130 ∷ [])) (unsafe_slot 0 + N) (pos 2000000 ∷ []))
    recovery_slot (negsuc 99 ∷ [])) (recovery_slot + N) (pos 100 ∷ [])

read_a : (refusal file_a ≡ 0) × (values file_a ≡ value_a)
unfolding everything value_a
read_a = (refl, refl)

back_a : (bytes_of value_a ≡ file_a) × (length_of value_a ≡ 70)
unfolding everything value_a
back_a = (refl, refl)

-- ---- bands whose plain law follows the state (document 02, paper 9): sheet A with a band `BF`

-- the band with this mark and these numbers of the law: coefficient, constant, divisor
pub band_by : ℕ → ℤ → ℤ → ℤ → List ℕ
band_by letter a c q = 66 ∷ letter ∷ take 12 (drop 2 band_a) ++ (encoded i16 a ++ (encoded i32 c ++ (encoded u16 q ++ drop 14 band_a)))

pub with_band : List ℕ → List ℕ
with_band band = head_a ++ (band ++ boxes_a)

-- law (−3·x + 700) / 40
pub file_f : List ℕ
file_f = with_band (band_by 70 (negsuc 2) (pos 700) (pos 40))

pub value_f : List ℤ
value_f = sets (sets value_a (law_slot 0) (negsuc 2 ∷ [])) (constant_slot (law_slot 0)) (pos 700 ∷ pos 40 ∷ [])

pub read_f : (refusal file_f ≡ 0) × (values file_f ≡ value_f)
unfolding everything value_a value_f band_by with_band file_f
read_f = (refl, refl)

pub back_f : (bytes_of value_f ≡ file_f) × (length_of value_f ≡ 78)
unfolding everything value_a value_f band_by with_band file_f
back_f = (refl, refl)

-- files of one band: what they are refused by
pub followed : List (List ℕ × ℕ)
followed =
    -- the length of `BD` with the mark `BF`, and the other way round
    (with_band (66 ∷ 70 ∷ drop 2 band_a), 5)
    ∷ (with_band (band_by 68 (negsuc 2) (pos 700) (pos 40)), 5)
    -- another mark has the length of `BD`
    ∷ (with_band (66 ∷ 71 ∷ drop 2 band_a), 7)
    ∷ (with_band (band_by 71 (negsuc 2) (pos 700) (pos 40)), 5)
    -- a file that ends before the mark, in it, and behind it
    ∷ (take 22 file_f, 5)
    ∷ (take 23 file_f, 5)
    ∷ (take 24 file_f, 5)
    -- law numbers at their ends and past them
    ∷ (with_band (band_by 70 (pos 1000) (pos 100000000) (pos 4096)), 0)
    ∷ (with_band (band_by 70 (negsuc 999) (negsuc 99999999) (pos 1)), 0)
    ∷ (with_band (band_by 70 (pos 1001) (pos 0) (pos 1)), 10)
    ∷ (with_band (band_by 70 (negsuc 1000) (pos 0) (pos 1)), 10)
    ∷ (with_band (band_by 70 (pos 0) (pos 100000001) (pos 1)), 10)
    ∷ (with_band (band_by 70 (pos 0) (negsuc 100000000) (pos 1)), 10)
    ∷ (with_band (band_by 70 (pos 0) (pos 0) (pos 4097)), 10)
    -- the mark `BF` with a divisor of 0
    ∷ (with_band (band_by 70 (pos 0) (pos 0) (pos 0)), 10)
    ∷ []

pub follows : map (λ t. refusal t.0) followed ≡ map (λ t. t.1) followed
unfolding everything followed band_by with_band file_f
follows = refl

-- two bands, the second from −5 on, with these letters
pub two_bands : List ℕ → List ℕ → List ℕ
two_bands first second = sets (head_a ++ (first ++ (sets second 2 (encoded i32 (negsuc 4)) ++ boxes_a))) 3 (2 ∷ [])

-- all bands carry the first band's mark; a law number of the first band comes before the second band's mark
pub one_mark : List (List ℕ × ℕ)
one_mark =
    (two_bands (band_by 70 (pos 1) (pos 2) (pos 3)) (band_by 70 (pos 4) (pos 5) (pos 6)), 0)
    ∷ (two_bands (band_by 70 (pos 1) (pos 2) (pos 3)) (band_by 68 (pos 4) (pos 5) (pos 6)), 7)
    ∷ (two_bands band_a (66 ∷ 70 ∷ drop 2 band_a), 7)
    ∷ (two_bands band_a band_a, 0)
    ∷ (two_bands (band_by 70 (pos 1) (pos 2) (pos 0)) (band_by 68 (pos 4) (pos 5) (pos 6)), 10)
    ∷ (two_bands (band_by 70 (pos 1) (pos 2) (pos 3)) (band_by 70 (pos 4) (pos 5) (pos 0)), 10)
    ∷ []

pub marked : map (λ t. refusal t.0) one_mark ≡ map (λ t. t.1) one_mark
unfolding everything one_mark two_bands band_by
marked = refl

-- values by the first law's divisor: 0 is a sheet with `BD`, whatever other law numbers there are; another one is a sheet with `BF`, and has to be
-- in its range
pub kinds : List (List ℤ × ℕ)
kinds =
    (sets value_a (law_slot 0) (pos 5000 ∷ []), 0)
    ∷ (sets value_a (divisor_slot (law_slot 0)) (pos 4096 ∷ []), 0)
    ∷ (sets value_a (divisor_slot (law_slot 0)) (pos 4097 ∷ []), 10)
    ∷ (sets value_a (divisor_slot (law_slot 0)) (negsuc 0 ∷ []), 10)
    ∷ (sets value_f (law_slot 0) (pos 1001 ∷ []), 10)
    ∷ []

pub by_value : map (λ t. value_refusal t.0) kinds ≡ map (λ t. t.1) kinds
unfolding everything value_a value_f kinds
by_value = refl

-- with a divisor sheet A's value is another sheet, though no number that A has differs
pub other_kind : Same value_a (sets value_a (divisor_slot (law_slot 0)) (pos 40 ∷ [])) → ⊥
unfolding everything value_a
other_kind s = let e : Fixed ≡ Feedback = s.kind in let z : ◌≡◌ {A = ℕ} 0 1 = cc in omega arith

pub fixed_bytes : bytes_of (sets value_a (law_slot 0) (pos 5000 ∷ [])) ≡ file_a
unfolding everything value_a
fixed_bytes = refl

-- ---- the order of boxes of two variables, by their sides in the file's order

pub box : ℤ → ℤ → ℤ → ℤ → List ℤ
box l0 h0 l1 h1 = sets (sets (replicate box_size (pos 0)) 0 (l0 ∷ l1 ∷ [])) N (h0 ∷ h1 ∷ [])

-- two boxes, and how they compare
pub comparisons : List (List ℤ × (List ℤ × Ordering))
comparisons =
    -- they differ in the first lower side, whatever the others are
    (box (negsuc 4) (pos 9) (pos 9) (pos 9), (box (negsuc 3) (pos 0) (pos 0) (pos 0), Less))
    ∷ (box (pos 2) (pos 2) (pos 0) (pos 0), (box (pos 1) (pos 9) (pos 9) (pos 9), Greater))
    -- in the first upper one
    ∷ (box (pos 1) (pos 2) (pos 9) (pos 9), (box (pos 1) (pos 3) (pos 0) (pos 0), Less))
    ∷ (box (pos 1) (pos 3) (pos 0) (pos 0), (box (pos 1) (pos 2) (pos 9) (pos 9), Greater))
    -- in the second lower one
    ∷ (box (pos 1) (pos 2) (negsuc 1) (pos 9), (box (pos 1) (pos 2) (negsuc 0) (pos 0), Less))
    ∷ (box (pos 1) (pos 2) (pos 0) (pos 0), (box (pos 1) (pos 2) (negsuc 0) (pos 9), Greater))
    -- in the last one
    ∷ (box (pos 1) (pos 2) (pos 3) (pos 4), (box (pos 1) (pos 2) (pos 3) (pos 5), Less))
    ∷ (box (pos 1) (pos 2) (pos 3) (pos 5), (box (pos 1) (pos 2) (pos 3) (pos 4), Greater))
    -- in none
    ∷ (box (pos 1) (pos 2) (pos 3) (pos 4), (box (pos 1) (pos 2) (pos 3) (pos 4), Equal))
    ∷ []

pub compared : map (λ t. compare_boxes 2 t.0 t.1.0) comparisons ≡ map (λ t. t.1.1) comparisons
unfolding everything box comparisons
compared = refl

-- of one variable only the first two sides count
pub compared_one : compare_boxes 1 (box (pos 1) (pos 2) (pos 0) (pos 0)) (box (pos 1) (pos 2) (pos 9) (pos 9)) ≡ Equal
unfolding everything box
compared_one = refl

-- ---- sheet A with other no-go records: a record of one side and another, the file, and its refusal

pub no_go : ℤ → ℤ → List ℕ
no_go l h = 78 ∷ 71 ∷ encoded i32 l ++ encoded i32 h

pub with_boxes : ℕ → List ℕ → List ℕ
with_boxes count records = sets head_a 4 (count ∷ []) ++ (band_a ++ (records ++ drop 10 boxes_a))

pub in_order : refusal (with_boxes 2 (no_go (negsuc 199) (negsuc 149) ++ no_go (pos 130) (pos 140))) ≡ 0
unfolding everything with_boxes no_go
in_order = refl

pub equal_boxes : refusal (with_boxes 2 (no_go (pos 130) (pos 140) ++ no_go (pos 130) (pos 140))) ≡ number Cause.order
unfolding everything with_boxes no_go
equal_boxes = refl

-- a record's own sides come before its order
pub side_first : refusal (with_boxes 2 (no_go (pos 130) (pos 140) ++ no_go (pos 120) (pos 119))) ≡ number Cause.side
unfolding everything with_boxes no_go
side_first = refl

pub ordered : List (List ℕ × ℕ)
ordered =
    (with_boxes 2 (no_go (pos 130) (pos 140) ++ no_go (negsuc 199) (negsuc 149)), 20)
    ∷ (with_boxes 2 (no_go (pos 130) (pos 140) ++ no_go (pos 130) (pos 141)), 0)
    ∷ (with_boxes 2 (no_go (pos 130) (pos 141) ++ no_go (pos 130) (pos 140)), 20)
    -- the last two are equal
    ∷ (with_boxes 3 (no_go (pos 130) (pos 140) ++ (no_go (pos 130) (pos 141) ++ no_go (pos 130) (pos 141))), 20)
    -- after the record's own mark
    ∷ (with_boxes 2 (no_go (pos 130) (pos 140) ++ (78 ∷ 72 ∷ drop 2 (no_go (pos 120) (pos 140)))), 7)
    -- before the next record's
    ∷ (with_boxes 3 (no_go (pos 130) (pos 140) ++ (no_go (pos 120) (pos 140) ++ (78 ∷ 72 ∷ drop 2 (no_go (pos 150) (pos 160))))), 20)
    ∷ (with_boxes 3 (no_go (pos 130) (pos 140) ++ (no_go (pos 120) (pos 140) ++ no_go (pos 160) (pos 150))), 20)
    -- an earlier record's side comes first
    ∷ (with_boxes 3 (no_go (pos 130) (pos 129) ++ (no_go (pos 120) (pos 140) ++ no_go (pos 110) (pos 140))), 11)
    ∷ []

pub orders : map (λ t. refusal t.0) ordered ≡ map (λ t. t.1) ordered
unfolding everything ordered with_boxes no_go
orders = refl

-- ---- the recovery box beside the no-go boxes, and which of two boxes of two variables share a state

pub meetings : List ((List ℤ × List ℤ) × Bool)
meetings =
    -- a corner alone, and one beyond it in either variable
    ((box (pos 1) (pos 2) (pos 3) (pos 4), box (pos 2) (pos 9) (negsuc 8) (pos 3)), true)
    ∷ ((box (pos 1) (pos 2) (pos 3) (pos 4), box (pos 3) (pos 9) (negsuc 8) (pos 3)), false)
    ∷ ((box (pos 1) (pos 2) (pos 3) (pos 4), box (pos 2) (pos 9) (negsuc 8) (pos 2)), false)
    -- the same, from the other side
    ∷ ((box (pos 2) (pos 9) (negsuc 8) (pos 3), box (pos 1) (pos 2) (pos 3) (pos 4)), true)
    ∷ ((box (pos 3) (pos 9) (negsuc 8) (pos 3), box (pos 1) (pos 2) (pos 3) (pos 4)), false)
    ∷ ((box (pos 2) (pos 9) (negsuc 8) (pos 2), box (pos 1) (pos 2) (pos 3) (pos 4)), false)
    -- one inside the other
    ∷ ((box (negsuc 8) (pos 9) (negsuc 8) (pos 9), box (pos 1) (pos 2) (pos 3) (pos 4)), true)
    ∷ ((box (pos 1) (pos 2) (pos 3) (pos 4), box (negsuc 8) (pos 9) (negsuc 8) (pos 9)), true)
    -- across each other
    ∷ ((box (negsuc 8) (pos 9) (pos 3) (pos 3), box (pos 1) (pos 2) (negsuc 8) (pos 9)), true)
    ∷ []

pub met : map (λ t. meets 2 t.0.0 t.0.1) meetings ≡ map (λ t. t.1) meetings
unfolding everything box meetings
met = refl

-- of one variable the second one's sides do not count
pub met_one : meets 1 (box (pos 1) (pos 2) (pos 0) (pos 0)) (box (pos 2) (pos 9) (pos 9) (pos 9)) ≡ true
unfolding everything box
met_one = refl

-- sheet A's recovery box is −100..100. A no-go box from 100 on shares a state with it, one from 101 on does not
pub touches : refusal (with_boxes 1 (no_go (pos 100) (pos 140))) ≡ number Cause.overlap
unfolding everything with_boxes no_go
touches = refl

pub misses : refusal (with_boxes 1 (no_go (pos 101) (pos 140))) ≡ 0
unfolding everything with_boxes no_go
misses = refl

-- the second of two does
pub second_touches : refusal (with_boxes 2 (no_go (negsuc 199) (negsuc 149) ++ no_go (pos 100) (pos 140))) ≡ number Cause.overlap
unfolding everything with_boxes no_go
second_touches = refl

-- with another recovery box, l..h
pub with_recovery : ℤ → ℤ → List ℕ → List ℕ
with_recovery l h noGos = take 50 file_a ++ (noGos ++ (82 ∷ 67 ∷ encoded i32 l ++ encoded i32 h))

-- the recovery box's own sides come first
pub recovery_side_first : refusal (with_recovery (pos 100) (pos 1000001) (no_go (pos 90) (pos 140))) ≡ number Cause.side
unfolding everything with_recovery no_go
recovery_side_first = refl

-- the boxes of a value of two variables: the recovery box is −100..100 in both, the no-go box has these lower and upper sides
pub two : Shape
two = record { vars = 2; bands = 1; boxes = 1; kind = Fixed }

pub with_two : List ℤ → List ℤ → List ℤ
with_two lower upper =
    sets (sets (sets (sets zeros (unsafe_slot 0) lower) (unsafe_slot 0 + N) upper)
    recovery_slot (negsuc 99 ∷ negsuc 99 ∷ [])) (recovery_slot + N) (pos 100 ∷ pos 100 ∷ [])

-- the recovery record is refused where the boxes meet in both variables
pub met_in_both : closing (with_two (pos 0 ∷ pos 100 ∷ []) (pos 50 ∷ pos 200 ∷ [])) two Recovery ≡ number Cause.overlap
unfolding everything two with_two
met_in_both = refl

pub met_in_first : closing (with_two (pos 0 ∷ pos 101 ∷ []) (pos 50 ∷ pos 200 ∷ [])) two Recovery ≡ 0
unfolding everything two with_two
met_in_first = refl

pub met_in_second : closing (with_two (pos 101 ∷ pos 0 ∷ []) (pos 200 ∷ pos 50 ∷ [])) two Recovery ≡ 0
unfolding everything two with_two
met_in_second = refl

pub overlapping : List (List ℕ × ℕ)
overlapping =
    -- below it: up to −100, and up to −101
    (with_boxes 1 (no_go (negsuc 139) (negsuc 99)), 22)
    ∷ (with_boxes 1 (no_go (negsuc 139) (negsuc 100)), 0)
    -- inside it, and around it
    ∷ (with_boxes 1 (no_go (pos 5) (pos 5)), 22)
    ∷ (with_boxes 1 (no_go (negsuc 1999999) (pos 2000000)), 22)
    -- the first of two, the last of three, the middle of three
    ∷ (with_boxes 2 (no_go (negsuc 149) (negsuc 99) ++ no_go (pos 130) (pos 140)), 22)
    ∷ (with_boxes 3 (no_go (negsuc 199) (negsuc 149) ++ (no_go (negsuc 148) (negsuc 140) ++ no_go (pos 100) (pos 140))), 22)
    ∷ (with_boxes 3 (no_go (negsuc 199) (negsuc 149) ++ (no_go (pos 7) (pos 8) ++ no_go (pos 101) (pos 140))), 22)
    -- after the order of the no-go boxes
    ∷ (with_boxes 2 (no_go (pos 100) (pos 140) ++ no_go (pos 90) (pos 140)), 20)
    -- after the recovery box's mark, and after its sides, though compared with those of the no-go box they would tell of a common state
    ∷ (take 50 file_a ++ (no_go (pos 100) (pos 140) ++ (82 ∷ 66 ∷ drop 12 boxes_a)), 7)
    ∷ (with_recovery (pos 100) (pos 99) (no_go (pos 90) (pos 140)), 11)
    ∷ (with_recovery (negsuc 1000000) (pos 100) (no_go (pos 90) (pos 140)), 11)
    -- a recovery box of one state, at a no-go box and beside it
    ∷ (with_recovery (pos 90) (pos 90) (no_go (pos 90) (pos 140)), 22)
    ∷ (with_recovery (pos 89) (pos 89) (no_go (pos 90) (pos 140)), 0)
    ∷ []

pub overlaps : map (λ t. refusal t.0) overlapping ≡ map (λ t. t.1) overlapping
unfolding everything overlapping with_boxes with_recovery no_go
overlaps = refl

-- ---- a damaged file, and its refusal

damage : ℕ → List ℕ → List ℕ
damage = sets file_a

damaged : List (List ℕ × ℕ)
damaged =
    (take 19 file_a, 1)
    ∷ (damage 1 (73 ∷ []), 1)
    -- n, bands, no-go boxes, band variable
    ∷ (damage 2 (0 ∷ []), 2)
    ∷ (damage 2 (7 ∷ []), 2)
    ∷ (damage 3 (9 ∷ []), 2)
    ∷ (damage 4 (255 ∷ []), 2)
    ∷ (damage 5 (1 ∷ []), 2)
    -- δ + α = 1,000, and 1,001; ρ
    ∷ (damage 6 (0 ∷ 1 ∷ 3 ∷ 231 ∷ []), 0)
    ∷ (damage 6 (0 ∷ 1 ∷ 3 ∷ 232 ∷ []), 3)
    ∷ (damage 10 (3 ∷ 233 ∷ []), 3)
    -- least command over the greatest
    ∷ (damage 15 (231 ∷ 255 ∷ []), 4)
    -- length, which comes before the cap
    ∷ (take 69 file_a, 5)
    ∷ (file_a ++ (0 ∷ []), 5)
    ∷ (take 69 (damage 21 (0 ∷ [])), 5)
    ∷ (damage 21 (0 ∷ []), 6)
    -- marks, each before its record's numbers
    ∷ (damage 23 (0 ∷ 0 ∷ []), 7)
    ∷ (damage 50 (82 ∷ []), 7)
    ∷ (damage 49 (0 ∷ 82 ∷ []), 10)
    ∷ (damage 60 (78 ∷ []), 7)
    ∷ (damage 27 (129 ∷ []), 8)
    -- the safety range, with ends in the wrong order
    ∷ (damage 31 (26 ∷ 0 ∷ 0 ∷ 0 ∷ 26 ∷ []), 9)
    ∷ (damage 31 (1 ∷ []), 9)
    -- a = 1,001, d = −1, q = 4,097
    ∷ (damage 36 (3 ∷ 233 ∷ []), 10)
    ∷ (damage 44 (255 ∷ 255 ∷ 255 ∷ 255 ∷ []), 10)
    ∷ (damage 48 (16 ∷ 1 ∷ []), 10)
    -- a no-go side of 2,000,001, one of the recovery box of 1,000,001
    ∷ (damage 59 (129 ∷ []), 11)
    ∷ (damage 66 (0 ∷ 15 ∷ 66 ∷ 65 ∷ []), 11)
    ∷ []

refusals : map (λ t. refusal t.0) damaged ≡ map (λ t. t.1) damaged
unfolding everything damaged damage
refusals = refl

zeros_a : values (take 69 file_a) ≡ zeros
unfolding everything
zeros_a = refl

-- ---- writing: into a buffer of 80 bytes from place 5 on; with one byte too few; from the greatest place; a value out of range, which comes first

buffer : List ℕ
buffer = replicate 80 7

written_a : written value_a buffer 5 ≡ replicate 5 7 ++ (file_a ++ replicate 5 7)
unfolding everything value_a buffer
written_a = refl

-- sheet A's value with a second no-go box that is equal to the first: its order comes before the room
twice_a : List ℤ
twice_a = sets (sets (sets value_a boxes_slot (pos 2 ∷ [])) (unsafe_slot 1) (pos 130 ∷ [])) (unsafe_slot 1 + N) (pos 2000000 ∷ [])

order_a : (write_refusal twice_a buffer 5 ≡ number Cause.order) × (write_refusal twice_a (take 40 buffer) 0 ≡ number Cause.order) × (written twice_a buffer 5 ≡ buffer)
unfolding everything value_a buffer twice_a
order_a = (refl, refl, refl)

-- sheet A's value with a no-go box from 100 on: 22 comes before the room, and nothing is written
on_a : List ℤ
on_a = sets value_a (unsafe_slot 0) (pos 100 ∷ [])

overlap_a : (write_refusal on_a buffer 5 ≡ number Cause.overlap) × (write_refusal on_a (take 40 buffer) 0 ≡ number Cause.overlap) × (written on_a buffer 5 ≡ buffer)
unfolding everything value_a buffer on_a
overlap_a = (refl, refl, refl)

-- a no-go box beyond the count, and sides beyond the variables, count for nothing
beyond_a : (write_refusal (sets value_a (unsafe_slot 1) (pos 5 ∷ [])) buffer 5 ≡ 0) × (write_refusal (sets on_a (unsafe_slot 0 + 1) (pos 9 ∷ [])) buffer 5 ≡ number Cause.overlap)
unfolding everything value_a buffer on_a
beyond_a = (refl, refl)

room_a : (write_refusal value_a buffer 11 ≡ number Cause.room) × (written value_a buffer 11 ≡ buffer) × (write_refusal value_a buffer (2 ^ 64) ≡ number Cause.room) × (write_refusal (sets value_a 4 (pos 997 ∷ [])) buffer 11 ≡ number Cause.times)
unfolding everything value_a buffer
room_a = (refl, refl, refl, refl)
