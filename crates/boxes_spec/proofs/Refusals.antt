-- What holds of a reach that is not refused, and how great the number of its refusal is. Assumes nothing.
use mathlib.Core.Path.{◌≡◌}
use mathlib.Core.Bool.{◌&&◌}
use mathlib.Core.List.{List, [], ◌∷◌}
use Prim.Native.Nat.{ℕ, ◌≤◌, ◌<◌}
use native.Mathlib.Omega.{arith}
use lib.Dec.{leb}
use lib.IntN.{ℤ}
use borrow.Author.Tests.{leb-true}
use Rattle.sheet_spec.specs.Limits.{max_ticks, max_width}
use Rattle.sheet_spec.specs.Refusals.{Cause, greatest_number}
use Rattle.sheet_spec.specs.Slots.{vars}
use Rattle.sheet_spec.specs.Box.{all}
use Rattle.sheet_spec.proofs.Box.{and_both}
use Rattle.sheet_spec.proofs.Laws.{unless_zero, unless_most}
use Rattle.sheet_spec.proofs.FirstRefusal.{all_pass}
use Rattle.machine_spec.specs.declared.Law.{Law}
use Rattle.machine_spec.specs.declared.Law.TheVariants.{Baseline, Span}
use Rattle.boxes_spec.specs.Reach.{span_in, side_in, law_refusal, sides_refusal, ticks_refusal, reach_refusal}

ticks_width : (ticks w : ℕ) → ticks_refusal ticks w ≡ 0 → (ticks ≤ max_ticks) × (0 < w) × (w ≤ max_width)
unfolding ticks_refusal
ticks_width ticks w none =
    let all = and_both (leb ticks max_ticks && leb 1 w) (leb w max_width) (unless_zero _ Cause.reach none) in
    let first_two = and_both (leb ticks max_ticks) (leb 1 w) all.0 in
    (leb-true ticks max_ticks first_two.0, leb-true 1 w first_two.1, leb-true w max_width all.1)

pub record ReachPasses (v : List ℤ) (ticks w : ℕ) (l : Law) (B : List ℤ) : Type 0 where
  pub few : ticks ≤ max_ticks
  pub some : 0 < w
  pub most : w ≤ max_width
  pub law : law_refusal v l ≡ 0
  pub start : sides_refusal (vars v) B ≡ 0

pub reach_passes : (v : List ℤ) (ticks w : ℕ) (l : Law) (B : List ℤ) → reach_refusal v ticks w l B ≡ 0 → ReachPasses v ticks w l B
unfolding reach_refusal
reach_passes v ticks w l B none =
    let all = all_pass (ticks_refusal ticks w ∷ law_refusal v l ∷ sides_refusal (vars v) B ∷ []) none in
    let timed = ticks_width ticks w all.0 in
    record { few = timed.0; some = timed.1; most = timed.2; law = all.1.0; start = all.1.1.0 }

-- ---- the greatest number

pub law_most : (v : List ℤ) (l : Law) → law_refusal v l ≤ greatest_number
unfolding law_refusal
law_most v Baseline = omega arith
law_most v (Span l h) = unless_most (span_in v l h) Cause.command

pub sides_most : (n : ℕ) (B : List ℤ) → sides_refusal n B ≤ greatest_number
unfolding sides_refusal
sides_most n B = unless_most (all n (side_in B)) Cause.start
