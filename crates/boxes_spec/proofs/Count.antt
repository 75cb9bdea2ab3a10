-- How many rounds a step and a reach can take; their fuel never runs out; and the public reach always has an answer. Assumes nothing.
use mathlib.Core.Path.{◌≡◌, ap, ◌∙◌}
use mathlib.Core.Bool.{Bool, false}
use mathlib.Core.List.{List}
use Prim.Native.Nat.{ℕ, ◌*◌, ◌≤◌, ◌<◌}
use native.Mathlib.Omega.{arith}
use lib.IntN.{ℤ}
use Rattle.sheet_spec.specs.Limits.{max_ticks, max_width}
use Rattle.sheet_spec.specs.Slots.{N, vars}
use Rattle.sheet_spec.specs.Valid.{ValidNumbers}
use Rattle.sheet_spec.specs.Box.{clear}
use Rattle.machine_spec.specs.Box.{trim}
use Rattle.machine_spec.specs.declared.Law.{Law}
use Rattle.machine_spec.specs.Machine.{Machine, machine, vars_of}
use Rattle.sheet_spec.proofs.Box.{differ, clear_none}
use Rattle.sheet_spec.proofs.Laws.{goes_on}
use Rattle.machine_spec.proofs.Inside.{trim_holds}
use Rattle.machine_spec.proofs.Facts.{room}
use Rattle.boxes_spec.specs.Step.{Failure, unsettled, Result, ok, failed, exhausted, step}
use Rattle.boxes_spec.specs.Reach.{Reached, reach, reach_refusal, refused, answer, reach_of}
use Rattle.boxes_spec.proofs.Stages.{Counted, Takes, value, failure, spent, failure_of_lem, has_value}
use Rattle.boxes_spec.proofs.Sound.{Reaches, ends_reach, reaches_part}
use Rattle.boxes_spec.proofs.Refusals.{reach_passes}
use Rattle.boxes_spec.proofs.Settled.{first_place, Stops, step_takes, reach_takes, below_power}

-- ---- counts

abbrev pub count : {A : Type 0} → Result A → ℕ
count (ok x c) = c
count (failed why c) = c
count (exhausted c) = c

pub takes_count : {l : Bool} {a c most : ℕ} {A : Type 0} {P : A → Type 0} {Q : Failure → Type 0} {g : Result A} → Takes l a c most P Q g → Counted l a c most (count g)
takes_count (value p n) = n
takes_count (failure q n) = n
takes_count (spent i e n) = n

module _ (l : Bool) (a : ℕ) (m : Machine) (room : vars_of m ≤ N) where
  -- a step of at most 1,000 ticks takes at most 73 rounds
  pub step_count : (S : List ℤ) (k c : ℕ) → 0 < k → k ≤ max_ticks → Counted l a c 73 (count (step l a m S k c))
  step_count S k c z h = takes_count (step_takes l a m S room k c 9 z (omega arith))

  -- a reach at a width of at most 1,000 takes at most 73 rounds for each tick
  pub reach_count : (clear : List ℤ → Bool) (w : ℕ) (S : List ℤ) (ticks c : ℕ) → 0 < w → w ≤ max_width → Counted l a c (73 * ticks) (count (reach l a m clear w S ticks c))
  reach_count clear w S ticks c z h = takes_count (reach_takes l a m clear w 9 room z (omega arith) S ticks c)

  -- ---- every step settles

  pub step_settles : (S : List ℤ) (k c : ℕ) {why : Failure} {c' : ℕ} → 0 < k → step l a m S k c ≡ failed why c' → ⊥
  step_settles S k c z e = (failure_of_lem (step_takes l a m S room k c k z (below_power k)) e).0

  -- a reach fails only at a step that is not clear
  pub reach_stops : (clear : List ℤ → Bool) (w : ℕ) (S : List ℤ) (ticks c : ℕ) {why : Failure} {c' : ℕ} → 0 < w → reach l a m clear w S ticks c ≡ failed why c' → Stops m clear w (first_place S ticks) why
  reach_stops clear w S ticks c z e = (failure_of_lem (reach_takes l a m clear w w room z (below_power w) S ticks c) e).0

  pub reach_settles : (clear : List ℤ → Bool) (w : ℕ) (S : List ℤ) (ticks c : ℕ) {c' : ℕ} → 0 < w → reach l a m clear w S ticks c ≡ failed unsettled c' → ⊥
  reach_settles clear w S ticks c z e = let r = (reach_stops clear w S ticks c z e).hits.reason in let n : ◌≡◌ {A = ℕ} 0 1 = cc r in omega arith

-- ---- the public reach: if nothing is refused it reaches

pub record Answered (v : List ℤ) (ticks w : ℕ) (l : Law) (B : List ℤ) : Type 0 where
  pub reached : Reached
  pub rounds : ℕ
  pub says : reach_of v ticks w l B ≡ record { refusal = 0; end = reached.end; swept = reached.swept; rounds = rounds }
  pub few : rounds ≤ 73 * ticks
  pub sound : Reaches (machine v l) (clear (vars v) v 0) B ticks reached

pub reach_answers : {v : List ℤ} → ValidNumbers v → (ticks w : ℕ) (l : Law) (B : List ℤ) → reach_refusal v ticks w l B ≡ 0 → Answered v ticks w l B
unfolding reach_of answer
reach_answers {v} wf ticks w l B e =
    let t = reach_passes v ticks w l B e in
    let r = has_value (λ why s. differ (clear_none (vars v) v _) s.hits.hits) (reach_takes false 0 (machine v l) (clear (vars v) v 0) w 9 (room wf) t.some (omega (arith, t.most)) (trim (vars v) B) ticks 0) in
    record { reached = r.value; rounds = r.count; says = goes_on refused _ e ∙ ap answer r.same; few = omega (arith, r.counted.few); sound = reaches_part (trim_holds (room wf) B) (ends_reach wf r.holds) }
