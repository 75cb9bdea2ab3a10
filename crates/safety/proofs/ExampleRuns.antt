-- There are runs: one on sheet A, one on a sheet of two variables and two bands where α is no multiple of δ, one on sheet A in which a
-- kept span's command changes at every tick, and one on a sheet whose plain law follows the state. Assumes nothing.
use mathlib.Core.Path.{◌≡◌, refl}
use mathlib.Core.Bool.{true, false}
use mathlib.Core.List.{List, [], ◌∷◌, ◌++◌}
use mathlib.Core.Option.{none, some}
use Prim.Native.Nat.{ℕ, ◌+◌}
use lib.IntN.{ℤ, pos, negsuc}
use lib.Seq.{sets}
use mir.Syntax.{w32}
use Rattle.integers.specs.Bytes.{be_bytes, encode}
use Rattle.sheet_spec.specs.Slots.{N, band_slot, law_slot, constant_slot, row_slot, recovery_slot, unsafe_slot}
use Rattle.sheet_spec.specs.Sheet.{zeros, bytes_of}
use Rattle.sheet_spec.specs.SheetA.{file_a}
use Rattle.sheet_spec.specs.Refusals.{Cause, number}
use Rattle.decision_spec.specs.Decision.{keep, finest, spent, Reply, refused, answered, check_recovery, decide}
use Rattle.safety.specs.Run.{Period, Run}
use Rattle.safety.proofs.Everything.{everything}
use Rattle.safety.proofs.RunTest.{Moment, states, allows, ticks, follows, holds, measures, runs, runs_run}

abbrev by : ℕ → ℤ → List ℤ → Moment
by k u y = record { band = k; used = u; state = y }

unfoldable pub sides_bytes : List ℤ → List ℕ
sides_bytes [] = []
sides_bytes (z ∷ zs) = encode w32 z ++ sides_bytes zs

-- a period with a question: allowance, command, and the measured box's lower and upper sides in turn
unfoldable pub ask : ℕ → ℤ → List ℤ → Period
ask allowance u sides = some (81 ∷ 83 ∷ be_bytes 4 allowance ++ (encode w32 u ++ sides_bytes sides))

-- the same with a span of commands, by its least and its greatest
unfoldable pub ask_span : ℕ → ℤ → ℤ → List ℤ → Period
ask_span allowance least greatest sides = some (81 ∷ 82 ∷ be_bytes 4 allowance ++ (encode w32 least ++ (encode w32 greatest ++ sides_bytes sides)))

unfoldable pub replies : List ℕ → List Period → List Reply
replies f [] = []
replies f (none ∷ qs) = replies f qs
replies f (some g ∷ qs) = decide f g ∷ replies f qs

-- ---- sheet A: kept, no question, spent, finest, refused, kept, no question

unfoldable pub periods_a : List Period
periods_a =
    ask 100 (pos 25) (pos 0 ∷ pos 0 ∷ []) ∷ none ∷ ask 4 (pos 25) (pos 95 ∷ pos 100 ∷ []) ∷ ask 100 (pos 0) (pos 131 ∷ pos 131 ∷ [])
    ∷ ask 100 (pos 26) (pos 0 ∷ pos 0 ∷ []) ∷ ask 100 (negsuc 24) (pos 5 ∷ pos 20 ∷ []) ∷ none ∷ []

unfoldable pub moments_a : List Moment
moments_a =
    by 0 (pos 25) (pos 5 ∷ []) ∷ by 0 (pos 25) (pos 9 ∷ []) ∷ by 0 (pos 25) (pos 13 ∷ []) ∷ by 0 (pos 25) (pos 17 ∷ [])
    ∷ by 0 (pos 0) (pos 16 ∷ []) ∷ by 0 (pos 0) (pos 16 ∷ []) ∷ by 0 (pos 0) (pos 16 ∷ []) ∷ by 0 (pos 0) (pos 15 ∷ [])
    ∷ by 0 (pos 0) (pos 15 ∷ []) ∷ by 0 (pos 0) (pos 14 ∷ []) ∷ by 0 (pos 0) (pos 13 ∷ []) ∷ by 0 (pos 0) (pos 12 ∷ [])
    ∷ by 0 (pos 0) (pos 11 ∷ []) ∷ by 0 (pos 0) (pos 11 ∷ []) ∷ by 0 (pos 0) (pos 10 ∷ []) ∷ by 0 (pos 0) (pos 10 ∷ [])
    ∷ by 0 (pos 0) (pos 10 ∷ []) ∷ by 0 (pos 0) (pos 10 ∷ []) ∷ by 0 (pos 0) (pos 9 ∷ []) ∷ by 0 (pos 0) (pos 8 ∷ [])
    ∷ by 0 (negsuc 24) (pos 3 ∷ []) ∷ by 0 (negsuc 24) (negsuc 1 ∷ []) ∷ by 0 (negsuc 24) (negsuc 6 ∷ []) ∷ by 0 (negsuc 24) (negsuc 11 ∷ [])
    ∷ by 0 (pos 0) (negsuc 11 ∷ []) ∷ by 0 (pos 0) (negsuc 10 ∷ []) ∷ by 0 (pos 0) (negsuc 10 ∷ []) ∷ by 0 (pos 0) (negsuc 10 ∷ []) ∷ []

unfoldable pub states_a : ℕ → List ℤ
states_a = states (pos 0 ∷ []) moments_a

-- ---- sheet B: δ = 3, α = 5, ρ = 4; commands −30..30; caps 5 and 3

-- the bands differ in edge, safety range and the second variable's c
unfoldable pub band_b : ℕ → ℤ → ℤ → ℤ → ℤ → List ℤ → List ℤ
band_b k e least greatest c v =
    row 1 (pos 1 ∷ negsuc 1 ∷ []) (pos 0 ∷ c ∷ pos 1 ∷ pos 10 ∷ [])
    (row 0 (negsuc 0 ∷ pos 0 ∷ []) (pos 4 ∷ pos 0 ∷ pos 2 ∷ pos 20 ∷ []) (sets v (band_slot k) (e ∷ least ∷ greatest ∷ [])))
  where
    row : ℕ → List ℤ → List ℤ → List ℤ → List ℤ
    row i a bcdq v = sets (sets v (row_slot k i) a) (row_slot k i + N) bcdq

unfoldable pub box_b : ℕ → List ℤ → List ℤ → List ℤ → List ℤ
box_b at lower upper v = sets (sets v at lower) (at + N) upper

unfoldable pub file_b : List ℕ
file_b = bytes_of
    (band_b 0 (negsuc 1999999) (pos 20) (pos 25) (pos 5)
    (band_b 1 (pos 0) (negsuc 24) (negsuc 19) (negsuc 4)
    (box_b (unsafe_slot 0) (negsuc 1999999 ∷ pos 45 ∷ []) (pos 2000000 ∷ pos 2000000 ∷ [])
    (box_b (unsafe_slot 1) (pos 40 ∷ negsuc 1999999 ∷ []) (pos 2000000 ∷ pos 2000000 ∷ [])
    (box_b recovery_slot (negsuc 19 ∷ negsuc 29 ∷ []) (pos 20 ∷ pos 30 ∷ [])
    (sets zeros 0 (pos 2 ∷ pos 2 ∷ pos 2 ∷ pos 0 ∷ pos 3 ∷ pos 5 ∷ pos 4 ∷ negsuc 29 ∷ pos 30 ∷ pos 5 ∷ pos 3 ∷ [])))))))

-- kept, no question, refused, no question
unfoldable pub periods_b : List Period
periods_b =
    ask 100 (pos 25) (pos 15 ∷ pos 20 ∷ pos 0 ∷ pos 10 ∷ []) ∷ none ∷ ask 100 (pos 31) (pos 0 ∷ pos 0 ∷ pos 0 ∷ pos 0 ∷ []) ∷ none ∷ []

-- the command leads out of the recovery box; in the last period the state goes from band to band
unfoldable pub moments_b : List Moment
moments_b =
    by 1 (pos 25) (pos 23 ∷ pos 3 ∷ []) ∷ by 1 (pos 25) (pos 26 ∷ pos 4 ∷ []) ∷ by 1 (pos 25) (pos 30 ∷ pos 5 ∷ [])
    ∷ by 1 (negsuc 21) (pos 25 ∷ pos 7 ∷ []) ∷ by 1 (negsuc 20) (pos 20 ∷ pos 8 ∷ []) ∷ by 1 (negsuc 24) (pos 15 ∷ pos 8 ∷ [])
    ∷ by 1 (negsuc 24) (pos 10 ∷ pos 7 ∷ []) ∷ by 1 (negsuc 21) (pos 5 ∷ pos 6 ∷ []) ∷ by 1 (negsuc 20) (pos 0 ∷ pos 4 ∷ [])
    ∷ by 1 (negsuc 23) (negsuc 3 ∷ pos 3 ∷ []) ∷ by 0 (pos 22) (pos 1 ∷ pos 2 ∷ []) ∷ by 1 (negsuc 20) (negsuc 2 ∷ pos 2 ∷ []) ∷ []

unfoldable pub states_b : ℕ → List ℤ
states_b = states (pos 18 ∷ pos 3 ∷ []) moments_b

-- ---- sheet A: a kept span, no question, a reversed span, another one kept

unfoldable pub periods_c : List Period
periods_c =
    ask_span 100 (negsuc 24) (pos 25) (pos 0 ∷ pos 0 ∷ []) ∷ none ∷ ask_span 100 (pos 25) (negsuc 24) (pos 0 ∷ pos 0 ∷ [])
    ∷ ask_span 100 (pos 0) (pos 25) (negsuc 9 ∷ pos 10 ∷ []) ∷ []

-- a span's command is another one at every tick
unfoldable pub moments_c : List Moment
moments_c =
    by 0 (negsuc 24) (negsuc 4 ∷ []) ∷ by 0 (pos 25) (pos 0 ∷ []) ∷ by 0 (negsuc 19) (negsuc 3 ∷ []) ∷ by 0 (pos 20) (pos 1 ∷ [])
    ∷ by 0 (pos 0) (pos 1 ∷ []) ∷ by 0 (pos 0) (pos 0 ∷ []) ∷ by 0 (pos 0) (pos 0 ∷ []) ∷ by 0 (pos 0) (pos 0 ∷ [])
    ∷ by 0 (pos 0) (pos 0 ∷ []) ∷ by 0 (pos 0) (pos 0 ∷ []) ∷ by 0 (pos 0) (pos 0 ∷ []) ∷ by 0 (pos 0) (pos 0 ∷ [])
    ∷ by 0 (pos 25) (pos 5 ∷ []) ∷ by 0 (pos 0) (pos 4 ∷ []) ∷ by 0 (pos 25) (pos 9 ∷ []) ∷ by 0 (pos 5) (pos 10 ∷ []) ∷ []

unfoldable pub states_c : ℕ → List ℤ
states_c = states (pos 0 ∷ []) moments_c

-- ---- sheet D: sheet A with the safety range −20..20 and a plain law that follows the state, (−x + 3)/2

unfoldable pub file_d : List ℕ
file_d = bytes_of
    (box_b (unsafe_slot 0) (pos 130 ∷ []) (pos 2000000 ∷ [])
    (box_b recovery_slot (negsuc 99 ∷ []) (pos 100 ∷ [])
    (sets (sets (sets (sets (sets zeros 0 (pos 1 ∷ pos 1 ∷ pos 1 ∷ pos 0 ∷ pos 4 ∷ pos 4 ∷ pos 4 ∷ negsuc 24 ∷ pos 25 ∷ pos 5 ∷ []))
    (band_slot 0) (negsuc 1999999 ∷ negsuc 19 ∷ pos 20 ∷ negsuc 0 ∷ [])) (constant_slot (law_slot 0)) (pos 3 ∷ pos 2 ∷ []))
    (row_slot 0 0) (negsuc 0 ∷ [])) (row_slot 0 0 + N) (pos 4 ∷ pos 0 ∷ pos 0 ∷ pos 20 ∷ []))))

-- kept, no question
unfoldable pub periods_d : List Period
periods_d = ask 100 (pos 25) (pos 0 ∷ pos 0 ∷ []) ∷ none ∷ []

-- the plain law's command at 17, 15 and 13 is −7, −6 and −5, at 12 it is −5 or −4
unfoldable pub moments_d : ℤ → List Moment
moments_d u =
    by 0 (pos 25) (pos 5 ∷ []) ∷ by 0 (pos 25) (pos 9 ∷ []) ∷ by 0 (pos 25) (pos 13 ∷ []) ∷ by 0 (pos 25) (pos 17 ∷ [])
    ∷ by 0 (negsuc 6) (pos 15 ∷ []) ∷ by 0 (negsuc 5) (pos 13 ∷ []) ∷ by 0 (negsuc 4) (pos 12 ∷ []) ∷ by 0 u (pos 10 ∷ []) ∷ []

unfoldable pub states_d : ℕ → List ℤ
states_d = states (pos 0 ∷ []) (moments_d (negsuc 4))

-- ---- all of it computes

unfoldable pub opened : ℕ
unfolding everything encode sides_bytes ask ask_span replies periods_a moments_a states_a band_b box_b file_b periods_b moments_b states_b periods_c moments_c states_c file_d periods_d moments_d states_d states allows ticks follows holds measures runs
opened = 0

replies_a : replies file_a periods_a ≡ answered keep 4 4 ∷ answered spent 4 4 ∷ answered finest 1 5 ∷ refused (number Cause.command) ∷ answered keep 4 4 ∷ []
unfolding opened
replies_a = refl

replies_b : check_recovery file_b ∷ replies file_b periods_b ≡ answered keep 1 10 ∷ answered keep 2 15 ∷ refused (number Cause.command) ∷ []
unfolding opened
replies_b = refl

replies_c : replies file_a periods_c ≡ answered keep 4 4 ∷ refused (number Cause.command) ∷ answered keep 4 4 ∷ []
unfolding opened
replies_c = refl

replies_d : check_recovery file_d ∷ replies file_d periods_d ≡ answered keep 4 1 ∷ answered keep 4 4 ∷ []
unfolding opened
replies_d = refl

pub run_a : Run file_a periods_a states_a
unfolding opened
run_a = runs_run file_a periods_a (pos 0 ∷ []) moments_a refl

pub run_b : Run file_b periods_b states_b
unfolding opened
run_b = runs_run file_b periods_b (pos 18 ∷ pos 3 ∷ []) moments_b refl

pub run_c : Run file_a periods_c states_c
unfolding opened
run_c = runs_run file_a periods_c (pos 0 ∷ []) moments_c refl

pub run_d : Run file_d periods_d states_d
unfolding opened
run_d = runs_run file_d periods_d (pos 0 ∷ []) (moments_d (negsuc 4)) refl

-- at 12 the law offers −4 too, but neither −6 nor −3, though both are in the safety range
offered_d : (runs file_d periods_d (pos 0 ∷ []) (moments_d (negsuc 3)) ≡ true) × ((runs file_d periods_d (pos 0 ∷ []) (moments_d (negsuc 5)) ≡ false) × (runs file_d periods_d (pos 0 ∷ []) (moments_d (negsuc 2)) ≡ false))
unfolding opened
offered_d = (refl, (refl, refl))
