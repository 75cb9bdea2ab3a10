-- A sheet whose recovery box shares a state with a no-go box could never pass its recovery check (document 02, paper 8). So the test that refuses it with
-- 22 keeps no machine from running. This is said of the definitions without that test; proofs/NeverPasses proves it.
use Rattle.std.specs.Prelude.{◌≡◌, true, false, List, ℕ, ◌≤◌, ◌<◌, T, ℤ}
use Rattle.sheet_spec.specs.Slots.{vars, boxes, ρ, recovery_box, unsafe_box}
use Rattle.sheet_spec.specs.Box.{meets}
use Rattle.sheet_spec.specs.Valid.{ValidNumbers, Ascending, Valid}
use Rattle.sheet_spec.specs.Validity.{Array}
use Rattle.sheet_spec.specs.Refusals.{Cause, number}
use Rattle.sheet_spec.specs.Sheet.{contents, refusal, value_refusal}
use Rattle.machine_spec.specs.Box.{within}
use Rattle.boxes_spec.specs.Step.{unsafe, Result, failed}
use Rattle.decision_spec.specs.Decision.{attempt, recovery_phases, recovery_of, finest, answered, is_keep}

-- what an attempt of the recovery check came to: it failed at its first step, with all ρ ticks left, and the swept box holds the recovery box
pub record FailsAtOnce (v : List ℤ) (result : Result (List ℤ)) : Type 0 where
  pub swept : List ℤ
  pub rounds : ℕ
  pub fails : result ≡ failed (unsafe (ρ v) swept) rounds
  pub holds : within (vars v) (recovery_box v) swept ≡ true

pub record NeverPasses (v : List ℤ) : Type 0 where
  -- at every width w, after any count c of rounds
  pub attempts : (w c : ℕ) → 1 ≤ w → FailsAtOnce v (attempt false 0 v w (recovery_phases v) (recovery_box v) c)
  -- so the check is fail with width 1
  pub rounds : ℕ
  pub check : recovery_of v ≡ answered finest 1 rounds

-- this holds of every value whose numbers are in range and whose no-go box j, one of any order, shares a state with the recovery box
abbrev pub OverlapFails : Type 0
OverlapFails = (v : List ℤ) → ValidNumbers v → (j : ℕ) → j < boxes v → meets (vars v) (recovery_box v) (unsafe_box v j) ≡ true → NeverPasses v

-- no sheet that could run is refused with 22
pub record NothingLost : Type 0 where
  -- what the reader refuses with it, and what the writer does, would fail the check
  pub read : (f : List ℕ) → refusal f ≡ number Cause.overlap → NeverPasses (contents f)
  pub write : (v : List ℤ) → Array v → value_refusal v ≡ number Cause.overlap → NeverPasses v
  -- and a value that passes the check, and every other test, is valid
  pub runs : (v : List ℤ) → ValidNumbers v → Ascending v → T (is_keep (recovery_of v)) → Valid v
