-- The same no-go boxes in any order give the same recovery check and the same decisions (specs/AnyOrder): nothing but the test of a swept box
-- reads their slots, and that test has the same answer in any order. Assumes nothing.
use mathlib.Core.Path.{◌≡◌, refl, sym, ap, ap₂, ◌∙◌}
use mathlib.Core.Bool.{Bool, true, false, not}
use mathlib.Core.List.{List, [], ◌∷◌}
use Prim.Native.Nat.{ℕ, zero, suc, ◌/◌, max}
use native.Mathlib.Omega.{arith}
use lib.Dec.{leb}
use lib.IntN.{ℤ}
use Rattle.sheet_spec.specs.Slots.{δ_slot, α_slot, ρ_slot, vars, boxes, δ, α, ρ, unsafe_box, recovery_box}
use Rattle.sheet_spec.specs.Box.{any, meets, clear}
use Rattle.sheet_spec.specs.Valid.{ValidNumbers}
use Rattle.sheet_spec.proofs.Box.{same_self, meets_sides}
use Rattle.machine_spec.specs.Box.{within}
use Rattle.machine_spec.specs.declared.Law.{Law}
use Rattle.machine_spec.specs.declared.Law.TheVariants.{Baseline}
use Rattle.boxes_spec.specs.Step.{Result}
use Rattle.decision_spec.specs.declared.Phase.{Phase}
use Rattle.decision_spec.specs.Decision.{phase, finish, follow, attempt, attempts, finest, Reply, answered, last_reply, decision_phases, decision_of, recovery_phases, recovery_of}
use Rattle.decision_spec.proofs.Attempts.{outcome, reply_from, reply_none, reply_turn}
use Rattle.any_order.specs.Reordered.{Reordered}
use Rattle.any_order.specs.AnyOrder.{AnyOrder}
use Rattle.any_order.proofs.Permutations.{any_moved}
use Rattle.any_order.proofs.Reordered.{same_count, vars_same, boxes_same}
use Rattle.any_order.proofs.Rates.{AlikeBoxes, alike_refl}
use Rattle.any_order.proofs.SameMachine.{same_machine, same_recovery_box}
use Rattle.any_order.proofs.Reaches.{within_same, Agree, values, failures, ends, agree_then, agree_if, reach_same}

-- ---- the attempts at ever smaller widths

module _ {n : ℕ} (f g : ℕ → ℕ → Result (List ℤ)) (same : (w c : ℕ) → Agree (AlikeBoxes n) (f w c) (g w c)) where
  outcome_same : (w : ℕ) {x y : Result (List ℤ)} {next next' : ℕ → Reply} → Agree (AlikeBoxes n) x y → ((c : ℕ) → next c ≡ next' c) → outcome x w next ≡ outcome y w next'
  unfolding outcome
  outcome_same w (values p) h = refl
  outcome_same w {next} {next'} (failures {c = c}) h = by (leb w 1)
    where
      by : (t : Bool) → ◌≡◌ {A = Reply} (elim t [ true ↦ answered finest w c | false ↦ next c ]) (elim t [ true ↦ answered finest w c | false ↦ next' c ])
      by true = refl
      by false = h c
  outcome_same w ends h = refl

  reply_same : (fuel w c : ℕ) → reply_from f fuel w c ≡ reply_from g fuel w c
  reply_same zero w c = reply_none f w c ∙ sym (reply_none g w c)
  reply_same (suc fuel) w c = reply_turn f fuel w c ∙ outcome_same w (same w c) (λ c'. reply_same fuel (w / 2) c') ∙ sym (reply_turn g fuel w c)

-- ---- two sheets

module _ {σ : ℕ → ℕ} {v w : List ℤ} (wf : ValidNumbers v) (wf' : ValidNumbers w) (o : Reordered σ v w) where
  -- the test of a swept box
  clear_same : (B : List ℤ) → clear (vars v) v (boxes v) B ≡ clear (vars w) w (boxes w) B
  unfolding clear
  clear_same B =
      ap not
      (any_moved o.permutation (λ j. meets (vars v) B (unsafe_box v j)) (λ j. meets (vars v) B (unsafe_box w j)) (λ j h. meets_sides (vars v) (same_self (vars v) B) (o.moved j (omega arith)))
      ∙ ap₂ (λ (n count : ℕ). any count (λ j. meets n B (unsafe_box w j))) (vars_same o) (boxes_same o))

  module _ (limited : Bool) (allowance width : ℕ) where
    follow_same : (ps : List Phase) {S T : List ℤ} (c : ℕ) → AlikeBoxes (vars v) S T → Agree (AlikeBoxes (vars v)) (follow limited allowance v width ps S c) (follow limited allowance w width ps T c)
    unfolding follow
    follow_same [] c e = values e
    follow_same (p ∷ ps) c e =
        agree_then (reach_same (same_machine o wf) p.law clear_same limited allowance width e p.ticks c) (λ r r' c' e. follow_same ps c' e)

    finish_same : {E F : List ℤ} (c : ℕ) → AlikeBoxes (vars v) E F → Agree (AlikeBoxes (vars v)) (finish v E c) (finish w F c)
    unfolding finish
    finish_same {F} c e =
        agree_if (within_same e (same_recovery_box o wf wf') ∙ ap (λ (n : ℕ). within n F (recovery_box w)) (vars_same o)) (values e) failures

    attempt_same : (ps : List Phase) {S T : List ℤ} (c : ℕ) → AlikeBoxes (vars v) S T → Agree (AlikeBoxes (vars v)) (attempt limited allowance v width ps S c) (attempt limited allowance w width ps T c)
    unfolding attempt
    attempt_same ps c e = agree_then (follow_same ps c e) (λ E F c' e. finish_same c' e)

  decision_same : (B : List ℤ) (l : Law) (allowance : ℕ) → decision_of v B l allowance ≡ decision_of w B l allowance
  unfolding decision_of decision_phases
  decision_same B l allowance =
      let at : ℕ → ℕ → ℕ → ℕ → Result (List ℤ) = λ d a width c. attempt true allowance w width (phase l d ∷ phase Baseline a ∷ []) B c in
      reply_same _ (at (δ v) (α v)) (λ width c. attempt_same true allowance width (decision_phases v l) c (alike_refl B)) (max (δ v) (α v)) (max (δ v) (α v)) 0
      ∙ ap₂ (λ (d a : ℕ). last_reply (attempts (at d a) (max d a) (max d a) 0)) (same_count o δ_slot (omega arith)) (same_count o α_slot (omega arith))

  recovery_same : recovery_of v ≡ recovery_of w
  unfolding recovery_of recovery_phases
  recovery_same =
      let at : ℕ → ℕ → ℕ → Result (List ℤ) = λ r width c. attempt false 0 w width (phase Baseline r ∷ []) (recovery_box w) c in
      reply_same _ (at (ρ v)) (λ width c. attempt_same false 0 width (recovery_phases v) c (same_recovery_box o wf wf')) (ρ v) (ρ v) 0
      ∙ ap (λ (r : ℕ). last_reply (attempts (at r) r r 0)) (same_count o ρ_slot (omega arith))

pub any_order : AnyOrder
any_order σ v w wf wf' o = record { recovery = recovery_same wf wf' o; decision = decision_same wf wf' o }
