-- The reach (document 01, "One lifted step", its last paragraph), and the public reach with its refusals. All of it computes.
use Rattle.std.specs.Prelude.{Bool, true, false, ◌&&◌, List, [], ◌∷◌, ℕ, zero, suc, ◌+◌, ◌*◌, ◌-◌, min, leb, ℤ, pos, neg_ℤ, replicate}
use Rattle.std.specs.Int.Signed.{le_z}
use Rattle.sheet_spec.specs.Limits.{max_side, max_ticks, max_width, max_cap}
use Rattle.sheet_spec.specs.Slots.{box_size, vars, least_command, greatest_command}
use Rattle.sheet_spec.specs.Refusals.{Cause, refuse_unless, unless_refused, first_of}
use Rattle.sheet_spec.specs.Sheet.{refusal, values}
use Rattle.sheet_spec.specs.Box.{lo, hi, all, clear}
use Rattle.machine_spec.specs.Box.{hull, trim}
use Rattle.machine_spec.specs.declared.Law.{Law}
use Rattle.machine_spec.specs.declared.Law.TheVariants.{Baseline, Span}
use Rattle.machine_spec.specs.Machine.{Machine, machine, vars_of}
use Rattle.boxes_spec.specs.Step.{Result, ok, failed, exhausted, unsafe, unsettled, and_then, Step, step, swept}

pub record Reached : Type 0 where
  pub end : List ℤ
  pub swept : List ℤ

-- how far the sides of a reach's boxes go: a cap a tick from the start box
abbrev pub max_reached : ℕ
max_reached = max_side + max_ticks * max_cap

-- an allowance (if `limited`), a machine, the test that a swept box is clear of the no-go boxes, the width
module _ (limited : Bool) (allowance : ℕ) (m : Machine) (clear : List ℤ → Bool) (w : ℕ) where
  -- one step from S with `left` ticks left, which fails where its swept box is not clear
  unfoldable pub tested_step : List ℤ → ℕ → ℕ → Result Step
  tested_step S left c =
      and_then (step limited allowance m S (min w left) c) (λ t c'.
      elim (clear (swept m S t)) [ true ↦ ok t c' | false ↦ failed (unsafe left (swept m S t)) c' ])

  -- steps from S until no ticks are left; W is the hull of the swept boxes so far. Each step covers a tick, so that the fuel
  -- is not used up if it is more than the ticks left
  unfoldable pub steps : ℕ → List ℤ → List ℤ → ℕ → ℕ → Result Reached
  steps zero S W left c = failed unsettled c
  steps (suc fuel) S W left c =
      elim (leb left 0) [
        | true ↦ ok (record { end = S; swept = W }) c
        | false ↦ and_then (tested_step S left c) (λ t c'. steps fuel t.end (hull (vars_of m) W (swept m S t)) (left - t.ticks) c')
      ]

  -- a reach of `ticks` ticks from S, after c rounds
  unfoldable pub reach : List ℤ → ℕ → ℕ → Result Reached
  reach S ticks c = steps (suc ticks) S S ticks c

-- ---- the public reach of a sheet v: no boxes to keep clear of, no allowance

-- the commands from l to h: in order, and within the head's
abbrev pub span_in : List ℤ → ℤ → ℤ → Bool
span_in v l h = le_z (least_command v) l && le_z l h && le_z h (greatest_command v)

-- a span that is reversed, or not within the head's commands
unfoldable pub law_refusal : List ℤ → Law → ℕ
law_refusal v Baseline = 0
law_refusal v (Span l h) = refuse_unless (span_in v l h) Cause.command

-- a variable's sides: in order and within ±1,000,000
abbrev pub in_range : ℤ → ℤ → Bool
in_range l h = le_z (neg_ℤ (pos max_side)) l && le_z l h && le_z h (pos max_side)

abbrev pub side_in : List ℤ → ℕ → Bool
side_in B i = in_range (lo B i) (hi B i)

-- a box with a variable whose sides are not
unfoldable pub sides_refusal : ℕ → List ℤ → ℕ
sides_refusal n B = refuse_unless (all n (side_in B)) Cause.start

-- the ticks or the width
unfoldable pub ticks_refusal : ℕ → ℕ → ℕ
ticks_refusal ticks w = refuse_unless (leb ticks max_ticks && leb 1 w && leb w max_width) Cause.reach

-- the tests of a reach in their order, after the sheet's own
unfoldable pub reach_refusal : List ℤ → ℕ → ℕ → Law → List ℤ → ℕ
reach_refusal v ticks w l B = first_of (ticks_refusal ticks w ∷ law_refusal v l ∷ sides_refusal (vars v) B ∷ [])

-- what a reach answers: a refusal number, or 0 and the two boxes with the rounds
pub record Answer : Type 0 where
  pub refusal : ℕ
  pub end : List ℤ
  pub swept : List ℤ
  pub rounds : ℕ

abbrev pub no_box : List ℤ
no_box = replicate box_size (pos 0)

abbrev pub refused : ℕ → Answer
refused r = record { refusal = r; end = no_box; swept = no_box; rounds = 0 }

unfoldable pub answer : Result Reached → Answer
answer (ok r c) = record { refusal = 0; end = r.end; swept = r.swept; rounds = c }
answer (failed why c) = refused 0
answer (exhausted c) = refused 0

-- a reach of an accepted sheet's value
unfoldable pub reach_of : List ℤ → ℕ → ℕ → Law → List ℤ → Answer
reach_of v ticks w l B = unless_refused (reach_refusal v ticks w l B) refused (answer (reach false 0 (machine v l) (clear (vars v) v 0) w (trim (vars v) B) ticks 0))

-- a reach of a sheet's file
unfoldable pub reach_file : List ℕ → ℕ → ℕ → Law → List ℤ → Answer
reach_file f ticks w l B = unless_refused (refusal f) refused (reach_of (values f) ticks w l B)
