-- Worked examples on sheet A: why each width failed, widest first. Assumes nothing.
use mathlib.Core.Path.{◌≡◌, refl}
use mathlib.Core.Bool.{true}
use mathlib.Core.List.{List, [], ◌∷◌, map}
use Prim.Native.Nat.{ℕ}
use lib.IntN.{ℤ, pos}
use Rattle.sheet_spec.specs.Slots.{vars, boxes}
use Rattle.sheet_spec.specs.Box.{lowest_passing, lowest_met}
use Rattle.sheet_spec.specs.Sheet.{values}
use Rattle.sheet_spec.specs.SheetA.{file_a}
use Rattle.machine_spec.specs.Machine.{one_command}
use Rattle.boxes_spec.specs.Step.{Failure, unsettled, unsafe, unrecovered}
use Rattle.decision_spec.specs.Decision.{FailedWidth, failures, decision_attempts}
use Rattle.decision_spec.specs.Starred.{interval}
use Rattle.decision_spec.proofs.Everything.{everything}

-- the ticks left and the number of the no-go box, where one was met
abbrev where_met : List ℤ → Failure → List ℕ
where_met v unsettled = []
where_met v (unsafe left P) = left ∷ lowest_met (vars v) v (boxes v) P ∷ []
where_met v unrecovered = []

-- the failures of the decision on the measured box l..h and the command 25, with 100 rounds
abbrev failed : ℕ → ℕ → List (List ℕ)
failed l h =
    let v = values file_a in
    map (λ (f : FailedWidth). f.width ∷ where_met v f.why) (failures (decision_attempts true 100 v (interval (pos l) (pos h)) (one_command (pos 25))))

-- the no-go box starts at 130: the first step meets it
pub met : failed 128 130 ≡ (4 ∷ 4 ∷ 0 ∷ []) ∷ (2 ∷ 4 ∷ 0 ∷ []) ∷ (1 ∷ 4 ∷ 0 ∷ []) ∷ []
unfolding everything lowest_passing lowest_met
met = refl

-- the recovery box ends at 100: it is missed
pub missed : failed 128 128 ≡ (4 ∷ []) ∷ (2 ∷ []) ∷ (1 ∷ []) ∷ []
unfolding everything
missed = refl

-- the first question of sheet A is kept at width 4
pub none : failed 0 0 ≡ []
unfolding everything
none = refl
