-- The definitions compute: document 01's checks of divisions, bands and no-go boxes, the rates of a machine of two
-- bands and the parts of a box that lie in three. Assumes nothing.
use mathlib.Core.Path.{◌≡◌, refl}
use mathlib.Core.Bool.{Bool, true, false}
use mathlib.Core.List.{List, [], ◌∷◌, ◌++◌}
use Prim.Native.Nat.{ℕ, ◌+◌, ◌-◌, ◌*◌}
use lib.IntN.{ℤ, pos, negsuc}
use lib.ListN.{replicate}
use Rattle.sheet_spec.specs.Slots.{N, law_size, row_size, row_at}
use Rattle.sheet_spec.specs.Box.{meets}
use Rattle.machine_spec.specs.declared.Law.TheVariants.{Baseline, Span}
use Rattle.machine_spec.specs.Machine.{machine, one_command, band_meets, offered_at, change}
use Rattle.machine_spec.specs.Rate.{bound, part, offered_over, rates}
use Rattle.machine_spec.proofs.Everything.{everything}

pub zeros : ℕ → List ℤ
zeros k = replicate k (pos 0)

-- a box of one variable
pub box : ℤ → ℤ → List ℤ
box l h = (l ∷ zeros (N - 1)) ++ (h ∷ zeros (N - 1))

-- N = −131, q = 20, d = 0: floor −7, ceil −6; with cap 5 both −5
pub quotient : Bool → ℤ → ℤ
quotient up cap = change up cap (row_at (zeros (N + 3) ++ (pos 20 ∷ [])) 0) (negsuc 130)

pub divided : (quotient false (pos 1000) ≡ negsuc 6) × (quotient true (pos 1000) ≡ negsuc 5)
unfolding everything zeros quotient
divided = (refl, refl)

clamped : (quotient false (pos 5) ≡ negsuc 4) × (quotient true (pos 5) ≡ negsuc 4)
unfolding everything zeros quotient
clamped = (refl, refl)

-- swept to 129 misses a no-go box from 130; to 130 meets it
missed : meets 1 (box (pos 0) (pos 129)) (box (pos 130) (pos 2000000)) ≡ false
unfolding everything zeros box
missed = refl

met : meets 1 (box (pos 0) (pos 130)) (box (pos 130) (pos 2000000)) ≡ true
unfolding everything zeros box
met = refl

-- a sheet's value with edges −2,000,000 and 0 and cap 20. x changes by (−x + 4u ± 2)/6, from 0 on by
-- (−x + 4u + 7 ± 30)/6; the safety ranges are 0..0 and 1..2
band : ℤ → ℤ → ℤ → ℤ → ℤ → List ℤ
band edge least greatest c d =
    (edge ∷ least ∷ greatest ∷ zeros law_size) ++ ((negsuc 0 ∷ zeros (N - 1)) ++ (pos 4 ∷ c ∷ d ∷ pos 6 ∷ zeros ((N - 1) * row_size)))

v : List ℤ
v = (pos 1 ∷ pos 2 ∷ pos 1 ∷ pos 0 ∷ pos 4 ∷ pos 4 ∷ pos 4 ∷ negsuc 24 ∷ pos 25 ∷ pos 20 ∷ zeros (N - 1))
    ++ (band (negsuc 1999999) (pos 0) (pos 0) (pos 0) (pos 2) ++ band (pos 0) (pos 1) (pos 2) (pos 7) (pos 30))

-- −1 is in band one, 0 in band two
band_at : ℤ → List Bool
band_at x = band_meets v 2 0 x x ∷ (band_meets v 2 1 x x ∷ [])

banded : (band_at (negsuc 0) ≡ true ∷ (false ∷ [])) × (band_at (pos 0) ≡ false ∷ (true ∷ []))
unfolding everything zeros band v band_at
banded = (refl, refl)

-- a step of length 2 from −20..10 with the working box −70..60: the neighborhoods are −70..40 and −50..60, of which −70..−1 and 0..40
-- and −50..−1 and 0..60 lie in the bands
under_baseline : rates (machine v Baseline) (box (negsuc 19) (pos 10)) 2 (box (negsuc 69) (pos 60)) ≡ box (negsuc 9) (pos 9)
unfolding everything zeros box band v
under_baseline = refl

under_command : rates (machine v (one_command (pos 5))) (box (negsuc 19) (pos 10)) 2 (box (negsuc 69) (pos 60)) ≡ box (negsuc 7) (pos 12)
unfolding everything zeros box band v
under_command = refl

-- a span of commands: the lower face goes by one end of it, the upper by the other
under_span : rates (machine v (Span (negsuc 4) (pos 5))) (box (negsuc 19) (pos 10)) 2 (box (negsuc 69) (pos 60)) ≡ box (negsuc 13) (pos 12)
unfolding everything zeros box band v
under_span = refl

-- the outer one of b·u over the commands from −5 to 7
term : ℤ → Bool → ℤ
term b up = bound up 0 (row_at (zeros N ++ (b ∷ zeros 3)) 0) [] (negsuc 4) (pos 7)

rising : (term (pos 4) false ≡ negsuc 19) × (term (pos 4) true ≡ pos 28)
unfolding everything zeros term
rising = (refl, refl)

falling : (term (negsuc 3) false ≡ negsuc 27) × (term (negsuc 3) true ≡ pos 20)
unfolding everything zeros term
falling = (refl, refl)

-- a sheet's value with edges −2,000,000, −10 and 10: of −20..30 the parts −20..−11, −10..9 and 10..30 lie in its bands
v' : List ℤ
v' = (pos 1 ∷ pos 3 ∷ pos 1 ∷ pos 0 ∷ pos 4 ∷ pos 4 ∷ pos 4 ∷ negsuc 24 ∷ pos 25 ∷ pos 20 ∷ zeros (N - 1))
    ++ (band (negsuc 1999999) (pos 0) (pos 0) (pos 0) (pos 2) ++ (band (negsuc 9) (pos 0) (pos 0) (pos 0) (pos 2) ++ band (pos 10) (pos 0) (pos 0) (pos 0) (pos 2)))

part_of : ℕ → ℤ → ℤ → List ℤ
part_of k l h = part (machine v' Baseline) k (box l h)

parts : (part_of 0 (negsuc 19) (pos 30) ≡ box (negsuc 19) (negsuc 10)) × ((part_of 1 (negsuc 19) (pos 30) ≡ box (negsuc 9) (pos 9)) × (part_of 2 (negsuc 19) (pos 30) ≡ box (pos 10) (pos 30)))
unfolding everything zeros box band v' part_of
parts = (refl, (refl, refl))

-- an edge on a side: of −10..10 the parts −10..9 and 10..10 lie in the second and the last band
on_an_edge : (part_of 2 (negsuc 9) (pos 10) ≡ box (pos 10) (pos 10)) × (part_of 1 (negsuc 9) (pos 10) ≡ box (negsuc 9) (pos 9))
unfolding everything zeros box band v' part_of
on_an_edge = (refl, refl)

-- ---- a plain law that follows the state (document 02, paper 9)

-- a sheet's value with edges −2,000,000 and 0, commands −25..25 and cap 20. x changes by (−x + 4u ± 2)/6. The plain law is (−3x + 7)/2 clamped to −4..5,
-- from 0 on (5x − 9)/4 clamped to −6..6
following : ℤ → ℤ → ℤ → ℤ → ℤ → ℤ → List ℤ
following edge least greatest a c q =
    (edge ∷ least ∷ greatest ∷ a ∷ zeros (N - 1)) ++ (c ∷ q ∷ (negsuc 0 ∷ zeros (N - 1)) ++ (pos 4 ∷ pos 0 ∷ pos 2 ∷ pos 6 ∷ zeros ((N - 1) * row_size)))

pub v_f : List ℤ
v_f = (pos 1 ∷ pos 2 ∷ pos 1 ∷ pos 0 ∷ pos 4 ∷ pos 4 ∷ pos 4 ∷ negsuc 24 ∷ pos 25 ∷ pos 20 ∷ zeros (N - 1))
    ++ (following (negsuc 1999999) (negsuc 3) (pos 5) (negsuc 2) (pos 7) (pos 2) ++ following (pos 0) (negsuc 5) (pos 6) (pos 5) (negsuc 8) (pos 4))

-- the least and the greatest command of band k at a state, and over a box
pub commands_at : ℕ → ℤ → ℤ × ℤ
commands_at k x = (offered_at false (machine v_f Baseline) k (x ∷ []), offered_at true (machine v_f Baseline) k (x ∷ []))

pub commands_over : ℕ → ℤ → ℤ → ℤ × ℤ
commands_over k l h = (offered_over false (machine v_f Baseline) k (box l h), offered_over true (machine v_f Baseline) k (box l h))

-- rounded outward: 7/2, 4/2, −5/2; and clamped: 13/2, −23/2
pub rounded : (commands_at 0 (pos 0) ≡ (pos 3, pos 4)) × ((commands_at 0 (pos 1) ≡ (pos 2, pos 2)) × (commands_at 0 (pos 4) ≡ (negsuc 2, negsuc 1)))
unfolding everything zeros following v_f commands_at
rounded = (refl, (refl, refl))

pub clamped_at : (commands_at 0 (negsuc 1) ≡ (pos 5, pos 5)) × (commands_at 0 (pos 10) ≡ (negsuc 3, negsuc 3))
unfolding everything zeros following v_f commands_at
clamped_at = (refl, refl)

-- over a box: clamped on no side, above, below, on both
pub clamped_over : (commands_over 0 (pos 0) (pos 4) ≡ (negsuc 2, pos 4)) × ((commands_over 0 (negsuc 9) (pos 4) ≡ (negsuc 2, pos 5))
    × ((commands_over 0 (pos 0) (pos 9) ≡ (negsuc 3, pos 4)) × (commands_over 0 (negsuc 9) (pos 9) ≡ (negsuc 3, pos 5))))
unfolding everything zeros box following v_f commands_over
clamped_over = (refl, (refl, (refl, refl)))

-- under a span no law is followed
pub span_at : (offered_at false (machine v_f (Span (pos 7) (pos 9))) 0 (pos 10 ∷ []) ≡ pos 7) × (offered_over true (machine v_f (Span (pos 7) (pos 9))) 1 (box (pos 0) (pos 9)) ≡ pos 9)
unfolding everything zeros box following v_f
span_at = (refl, refl)

-- a step of length 2 from −4..3 with the working box −5..4: each band's law is bounded over the part of −5..4 that lies in the band, so over −5..−1 it
-- is 5..5, and over 0..4 it is −3..3
pub under_feedback : rates (machine v_f Baseline) (box (negsuc 3) (pos 3)) 2 (box (negsuc 4) (pos 4)) ≡ box (negsuc 2) (pos 5)
unfolding everything zeros box following v_f
under_feedback = refl
