-- A run on sheet A that asks by readings, and what the theorem says of it. Assumes nothing.
use mathlib.Core.Path.{◌≡◌, refl}
use mathlib.Core.List.{List, [], ◌∷◌, ◌++◌, map}
use mathlib.Core.Option.{none}
use Prim.Native.Nat.{ℕ, zero, suc, ◌+◌, ◌*◌, ◌<◌}
use native.Mathlib.Omega.{arith}
use lib.Dec.{lit<, lit≤}
use lib.IntN.{ℤ, pos, negsuc}
use lib.ListN.{get_or}
use lib.Ieee.{binary32, of_bits}
use mir.Syntax.{w32}
use Rattle.integers.specs.Bytes.{be_bytes, encode}
use Rattle.integers.proofs.Z.{le_true}
use Rattle.sheet_spec.specs.Slots.{recovery_box, unsafe_box, δ}
use Rattle.sheet_spec.specs.Sheet.{values}
use Rattle.sheet_spec.specs.SheetA.{file_a}
use Rattle.readings_spec.specs.Causes.{Cause, number}
use Rattle.sheet_spec.proofs.Box.{all_at}
use Rattle.machine_spec.specs.Box.{In}
use Rattle.machine_spec.specs.declared.Law.{Law}
use Rattle.readings_spec.specs.declared.Reading.{Reading}
use Rattle.readings_spec.specs.declared.Reading.TheVariants.{Point, Pair, Missing}
use Rattle.decision_spec.specs.Decision.{keep, refused, answered, decide}
use Rattle.decision_spec.specs.Readings.{as_bytes, decide_readings}
use Rattle.safety.specs.Run.{law_at, Safe}
use Rattle.safety.specs.Asked.{Asked, nothing, bytes, readings, AskedMeasured, as_period, AskedRun}
use Rattle.safety.proofs.Asked.{run_asked, safe_asked_runs}
use Rattle.safety.proofs.RunTest.{Moment, states, holds_in, runs_run}
use Rattle.safety.proofs.ExampleRuns.{sides_bytes, ask, ask_span, opened}
use Rattle.safety.proofs.ExampleSafety.{plain, plain_is}

-- ---- what is asked

-- the bytes before the pairs: allowance 100, command 25; and the span −25..25
unfoldable command_head : List ℕ
command_head = 81 ∷ 83 ∷ be_bytes 4 100 ++ encode w32 (pos 25)

unfoldable span_head : List ℕ
span_head = 81 ∷ 82 ∷ be_bytes 4 100 ++ (encode w32 (negsuc 24) ++ encode w32 (pos 25))

-- 2 with a tolerance of 1/2, and from 16 1/2 to 17 1/4
unfoldable point : List Reading
point = Point (record { value = of_bits binary32 0x4000_0000; tolerance = of_bits binary32 0x3f00_0000 }) ∷ []

unfoldable pair : List Reading
pair = Pair (of_bits binary32 0x4184_0000) (of_bits binary32 0x418a_0000) ∷ []

unfoldable missing : List Reading
missing = Missing ∷ []

unfoldable periods : List Asked
periods = readings command_head point ∷ readings command_head missing ∷ readings span_head pair ∷ bytes (command_head ++ sides_bytes (pos 15 ∷ pos 20 ∷ [])) ∷ []

-- ---- the run

abbrev to : ℤ → ℤ → Moment
to u x = record { band = 0; used = u; state = x ∷ [] }

unfoldable moments : List Moment
moments =
    to (pos 25) (pos 7) ∷ to (pos 25) (pos 11) ∷ to (pos 25) (pos 15) ∷ to (pos 25) (pos 19)
    ∷ to (pos 0) (pos 18) ∷ to (pos 0) (pos 18) ∷ to (pos 0) (pos 17) ∷ to (pos 0) (pos 17)
    ∷ to (negsuc 24) (pos 12) ∷ to (pos 25) (pos 16) ∷ to (pos 0) (pos 15) ∷ to (pos 10) (pos 17)
    ∷ to (pos 25) (pos 21) ∷ to (pos 25) (pos 25) ∷ to (pos 25) (pos 29) ∷ to (pos 25) (pos 32) ∷ []

unfoldable walk : ℕ → List ℤ
walk = states (pos 2 ∷ []) moments

unfoldable all : ℕ
unfolding opened of_bits command_head span_head point pair missing periods moments walk
all = 0

-- kept, refused for the missing reading, kept, kept
replies : decide_readings file_a command_head point ∷ decide_readings file_a command_head missing ∷ decide_readings file_a span_head pair ∷ []
    ≡ answered keep 4 4 ∷ refused (number Cause.missing) ∷ answered keep 4 4 ∷ []
unfolding all
replies = refl

-- the boxes are 1..3 and 16..18
as_periods : map (as_period file_a) periods
    ≡ ask 100 (pos 25) (pos 1 ∷ pos 3 ∷ []) ∷ none ∷ ask_span 100 (negsuc 24) (pos 25) (pos 16 ∷ pos 18 ∷ []) ∷ ask 100 (pos 25) (pos 15 ∷ pos 20 ∷ []) ∷ []
unfolding all
as_periods = refl

-- the missing reading's variable has no side, and in bytes that would be 0..0: a question that is kept. So it has to be refused
kept_if_asked : decide file_a (as_bytes (values file_a) command_head missing) ≡ answered keep 4 4
unfolding all
kept_if_asked = refl

only : (P : ℕ → Type 0) → P 0 → (i : ℕ) → i < 1 → P i
only P h zero l = h
only P h (suc i) l = absurd (omega arith)

-- 1 1/2 ≤ 2 ≤ 2 1/2, and 16 1/2 ≤ 17 ≤ 17 1/4
measured : (p : ℕ) → p < 4 → AskedMeasured file_a (get_or periods p nothing) (walk (p * δ (values file_a)))
unfolding all
measured zero h = λ t. only _ (record { low = le_true _ _ refl; high = le_true _ _ refl })
measured (suc zero) h = λ t. absurd t
measured (suc (suc zero)) h = λ t. only _ (record { low = le_true _ _ refl; high = le_true _ _ refl })
measured (suc (suc (suc zero))) h = λ t. holds_in 1 _ _ refl
measured (suc (suc (suc (suc p)))) h = absurd (omega arith)

run : AskedRun file_a periods walk
unfolding all
run = run_asked file_a periods walk (runs_run file_a (map (as_period file_a) periods) (pos 2 ∷ []) moments refl) measured

-- ---- what the theorem says

safe : Safe file_a (map (as_period file_a) periods) walk
unfolding all
safe = safe_asked_runs file_a tt periods walk (holds_in 1 (recovery_box (values file_a)) (walk 0) refl) run

-- the no-go box holds neither the first state nor the last, after tick 16
clear : (In 1 (unsafe_box (values file_a) 0) (walk 0) → ⊥) × (In 1 (unsafe_box (values file_a) 0) (walk 16) → ⊥)
unfolding all
clear = (safe.safe 0 (lit≤ tt) 0 (lit< tt), safe.safe 16 (lit≤ tt) 0 (lit< tt))

-- and the recovery box holds the state after the α plain ticks of the period whose reading is missing
back : In 1 (recovery_box (values file_a)) (walk 8)
unfolding all
back = safe.returns 0 (lit< tt) tt (lit≤ tt)
    (λ t h. let law : ℕ → Law = λ t. law_at file_a (map (as_period file_a) periods) (4 + t) in plain_is (law t) (all_at 4 (λ t. plain (law t)) t refl h))
