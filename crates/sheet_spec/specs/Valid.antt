-- What an accepted sheet keeps to. Crates above use a sheet through this alone.
use Rattle.std.specs.Prelude.{◌≡◌, true, false, List, ℕ, suc, ◌+◌, ◌≤◌, ◌<◌, ℤ, pos, neg_ℤ, ◌≤ℤ◌, ◌<ℤ◌, length}
use Rattle.std.specs.Int.{w32}
use Rattle.std.proofs.Common.{SFits}
use Rattle.sheet_spec.specs.Limits.{max_vars, max_bands, max_boxes, max_ticks, max_command, max_cap, max_edge, max_coefficient, max_constant, max_spread, max_divisor, max_unsafe_side, max_recovery_side}
use Rattle.sheet_spec.specs.Slots.{◌!◌, N, slots, least_slot, recovery_slot, unsafe_slot, vars, bands, boxes, band_var, δ, α, ρ, least_command, greatest_command, cap, edge, safety_least, safety_greatest, band_kind, FeedbackLaw, feedback, Row, row, recovery_box, unsafe_box}
use Rattle.sheet_spec.specs.declared.BandKind.TheVariants.{Feedback}
use Rattle.sheet_spec.specs.Box.{meets}
use Rattle.sheet_spec.specs.Order.{ascends_at}

-- z lies from l to h
pub record Between (l h z : ℤ) : Type 0 where
  pub low : l ≤ℤ z
  pub high : z ≤ℤ h

-- a law that follows the state (document 02, paper 9)
pub record ValidLaw (n : ℕ) (l : FeedbackLaw) : Type 0 where
  pub a : (j : ℕ) → j < n → Between (neg_ℤ (pos max_coefficient)) (pos max_coefficient) (l.a j)
  pub c : Between (neg_ℤ (pos max_constant)) (pos max_constant) l.c
  pub q : Between (pos 1) (pos max_divisor) l.q

pub record ValidRow (n : ℕ) (r : Row) : Type 0 where
  pub a : (j : ℕ) → j < n → Between (neg_ℤ (pos max_coefficient)) (pos max_coefficient) (r.a j)
  pub b : Between (neg_ℤ (pos max_coefficient)) (pos max_coefficient) r.b
  pub c : Between (neg_ℤ (pos max_constant)) (pos max_constant) r.c
  pub d : Between (pos 0) (pos max_spread) r.d
  pub q : Between (pos 1) (pos max_divisor) r.q

-- the box at a slot is ordered and lies within ±most
pub record ValidBox (n : ℕ) (most : ℤ) (v : List ℤ) (at : ℕ) : Type 0 where
  pub lower : (i : ℕ) → i < n → neg_ℤ most ≤ℤ v ! (at + i)
  pub ordered : (i : ℕ) → i < n → v ! (at + i) ≤ℤ v ! (at + i + N)
  pub upper : (i : ℕ) → i < n → v ! (at + i + N) ≤ℤ most

-- every number up to the counts is in its range. The no-go boxes may be in any order, and the recovery box anywhere among them
pub record ValidNumbers (v : List ℤ) : Type 0 where
  pub size : length v ≡ slots
  pub fits : (i : ℕ) → SFits w32 (v ! i)
  -- the counts are not negative, and so the head's numbers themselves
  pub head : (i : ℕ) → i < least_slot → pos 0 ≤ℤ v ! i
  pub vars_low : 1 ≤ vars v
  pub vars_high : vars v ≤ max_vars
  pub bands_low : 1 ≤ bands v
  pub bands_high : bands v ≤ max_bands
  pub boxes_low : 1 ≤ boxes v
  pub boxes_high : boxes v ≤ max_boxes
  pub var : band_var v < vars v
  pub δ_low : 1 ≤ δ v
  pub α_low : 1 ≤ α v
  pub sum_high : δ v + α v ≤ max_ticks
  pub ρ_low : 1 ≤ ρ v
  pub ρ_high : ρ v ≤ max_ticks
  pub commands : least_command v ≤ℤ greatest_command v
  pub commands_low : neg_ℤ (pos max_command) ≤ℤ least_command v
  pub commands_high : greatest_command v ≤ℤ pos max_command
  pub caps : (i : ℕ) → i < vars v → Between (pos 1) (pos max_cap) (cap v i)
  pub first_edge : edge v 0 ≡ neg_ℤ (pos max_edge)
  pub edges : (k : ℕ) → suc k < bands v → edge v k <ℤ edge v (suc k)
  pub edges_high : (k : ℕ) → k < bands v → edge v k ≤ℤ pos max_edge
  pub safety : (k : ℕ) → k < bands v → safety_least v k ≤ℤ safety_greatest v k
  pub safety_low : (k : ℕ) → k < bands v → least_command v ≤ℤ safety_least v k
  pub safety_high : (k : ℕ) → k < bands v → safety_greatest v k ≤ℤ greatest_command v
  pub laws : band_kind v ≡ Feedback → (k : ℕ) → k < bands v → ValidLaw (vars v) (feedback v k)
  pub rows : (k i : ℕ) → k < bands v → i < vars v → ValidRow (vars v) (row v k i)
  pub recovery : ValidBox (vars v) (pos max_recovery_side) v recovery_slot
  pub unsafe : (j : ℕ) → j < boxes v → ValidBox (vars v) (pos max_unsafe_side) v (unsafe_slot j)

-- the no-go boxes ascend (document 02, paper 2)
pub record Ascending (v : List ℤ) : Type 0 where
  pub at : (j : ℕ) → suc j < boxes v → ascends_at (vars v) v j ≡ true

-- the recovery box shares no state with a no-go box (document 02, paper 8)
pub record RecoveryClear (v : List ℤ) : Type 0 where
  pub at : (j : ℕ) → j < boxes v → meets (vars v) (recovery_box v) (unsafe_box v j) ≡ false

-- valid but for this: no-go box `box` shares a state with the recovery box
pub record Overlapping (v : List ℤ) : Type 0 where
  pub numbers : ValidNumbers v
  pub order : Ascending v
  pub box : ℕ
  pub below : box < boxes v
  pub shares : meets (vars v) (recovery_box v) (unsafe_box v box) ≡ true

pub record Valid (v : List ℤ) : Type 0 where
  pub numbers : ValidNumbers v
  pub order : Ascending v
  pub clear : RecoveryClear v
