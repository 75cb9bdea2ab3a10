-- Demand 3: every run is safe. At each tick the state is held by what is left of the last keep's phases, or of ρ ticks of the plain law from the recovery
-- box; a keep holds it anew. Assumes nothing.
use mathlib.Core.Path.{◌≡◌, subst}
use mathlib.Core.Bool.{Bool, true, false, not}
use mathlib.Core.List.{List, ◌∷◌, ◌++◌}
use mathlib.Core.Logic.{⊎_elim}
use mathlib.Core.Option.{none, some}
use Prim.Native.Nat.{ℕ, zero, suc, ◌+◌, ◌-◌, ◌*◌, ◌/◌, ◌%◌, ◌≤◌, ◌<◌}
use native.Mathlib.Nat.{add-zero, add-suc, sub-zero, sub_self, zero-mul, suc-mul, eq-or-lt_of_le, div-add-mod', mod-lt, div-lt_iff_lt-mul, mul-le-mul_right}
use native.Mathlib.Omega.{arith}
use lib.Dec.{T, T_not}
use lib.IntN.{ℤ}
use lib.ListN.{length, get_or, replicate}
use Rattle.sheet_spec.specs.Slots.{vars, δ, α, recovery_box}
use Rattle.sheet_spec.specs.Sheet.{values}
use Rattle.sheet_spec.specs.Valid.{ValidNumbers}
use Rattle.sheet_spec.proofs.Valid.{valid_numbers}
use Rattle.machine_spec.specs.Box.{In}
use Rattle.machine_spec.specs.declared.Law.{Law}
use Rattle.machine_spec.specs.declared.Law.TheVariants.{Baseline, Span}
use Rattle.machine_spec.specs.Accepted.{Lawful}
use Rattle.machine_spec.specs.Machine.{machine, Tick}
use Rattle.decision_spec.specs.Decision.{check_recovery, decide, is_keep}
use Rattle.safety.specs.Run.{Period, kept, period_law, law_at, Measured, Run, SafeRuns}
use Rattle.decision_spec.proofs.Cover.{Covered}
use Rattle.safety.proofs.Acting.{law_at_lem}
use Rattle.decision_spec.proofs.Attempt.{check_keep, decide_keep}
use Rattle.safety.proofs.Held.{Held, held_tick, held_returns, question_lawful, keep_held, Returning, recovered, returning, returning_tick}

-- what is known of the state x in a period under the law l, of which `left` ticks are to come
unfoldable pub Backed : List ℤ → Law → ℕ → List ℤ → Type 0
Backed v Baseline left x = Returning v x
Backed v (Span a b) left x = Held v (replicate left (Span a b) ++ replicate (α v) Baseline) x

-- the state is held by the laws of one or more ticks
pub record Guarded (v x : List ℤ) : Type 0 where
  pub law : Law
  pub later : List Law
  pub held : Held v (law ∷ later) x

pub returning_guarded : {v x : List ℤ} → Returning v x → Guarded v x
returning_guarded r = record { law = Baseline; later = replicate r.left Baseline; held = r.held }

pub backed_guarded : {v x : List ℤ} (l : Law) (left : ℕ) → Backed v l (suc left) x → Guarded v x
unfolding Backed
backed_guarded Baseline left r = returning_guarded r
backed_guarded {v} (Span a b) left s = record { law = Span a b; later = replicate left (Span a b) ++ replicate (α v) Baseline; held = s }

choose : {A : Type 0} (P : A → Type 0) (t : Bool) (x y : A) → (T t → P x) → (T (not t) → P y) → P (elim t [ true ↦ x | false ↦ y ])
choose P true x y f g = f tt
choose P false x y f g = g tt

-- a period's law is one that the sheet allows
pub period_lawful : (f : List ℕ) (q : Period) → Lawful (values f) (period_law f q)
unfolding period_law kept
period_lawful f none = tt
period_lawful f (some g) = choose (Lawful (values f)) (is_keep (decide f g)) _ _ (λ t. question_lawful (values f) g (decide_keep f g t).0) (λ n. tt)

-- a sheet that passed
module _ (f : List ℕ) (passed : T (is_keep (check_recovery f))) where
  pub wf : ValidNumbers (values f)
  wf = valid_numbers f (check_keep f passed).0

  -- ---- a period

  pub begins : {x : List ℤ} (q : Period) → Returning (values f) x → Measured f q x → Backed (values f) (period_law f q) (δ (values f)) x
  unfolding Measured period_law kept Backed
  begins none r b = r
  begins {x} (some g) r b =
      choose (λ l. Backed (values f) l (δ (values f)) x) (is_keep (decide f g)) _ _
      (λ t. let d = decide_keep f g t in keep_held g wf d.0 d.1 (b t)) (λ n. r)

  pub backed_tick : {x y : List ℤ} (l : Law) (left : ℕ) → Backed (values f) l (suc left) x → Tick (machine (values f) l) x y → Backed (values f) l left y
  unfolding Backed
  backed_tick Baseline left r t = returning_tick wf (check_keep f passed).1 r t
  backed_tick (Span a b) left s t = held_tick wf s t

  ends : {x : List ℤ} (l : Law) → Backed (values f) l 0 x → Returning (values f) x
  unfolding Backed
  ends Baseline r = r
  ends (Span a b) s = returning wf (check_keep f passed).1 (α (values f)) (omega arith) s

  -- after a kept period α ticks of the plain law are left
  kept_ends : {x : List ℤ} (q : Period) → T (kept f q) → Backed (values f) (period_law f q) 0 x → Held (values f) (replicate (α (values f)) Baseline) x
  unfolding kept period_law Backed
  kept_ends none t s = absurd t
  kept_ends {x} (some g) t s =
      choose (λ l. Backed (values f) l 0 x → Held (values f) (replicate (α (values f)) Baseline) x) (is_keep (decide f g)) _ _
      (λ k s. s) (λ n. absurd (T_not (is_keep (decide f g)) n t)) s

  -- ---- the whole run

  module _ (qs : List Period) (x : ℕ → List ℤ) (start : In (vars (values f)) (recovery_box (values f)) (x 0)) (run : Run f qs x) where
    -- what is known after tick i of period p
    through : (p : ℕ) → p < length qs → Returning (values f) (x (p * δ (values f)))
        → (i : ℕ) → i ≤ δ (values f) → Backed (values f) (period_law f (get_or qs p none)) (δ (values f) - i) (x (p * δ (values f) + i))
    through p h r zero k = rw (add-zero, sub-zero) (begins (get_or qs p none) r (run.measured p h))
    through p h r (suc i) k =
        let n = δ (values f) in
        let e : n - i ≡ suc (n - suc i) = omega arith in
        rw add-suc
        (backed_tick (period_law f (get_or qs p none)) (n - suc i) (rw e at (through p h r i (omega arith)))
        (rw (law_at_lem f qs p i h k) at (run.ticks (p * n + i) (omega (arith, mul-le-mul_right n h)))))

    period_end : (p : ℕ) → p < length qs → Returning (values f) (x (p * δ (values f))) → Backed (values f) (period_law f (get_or qs p none)) 0 (x (suc p * δ (values f)))
    period_end p h r = let n = δ (values f) in rw suc-mul (rw (sub_self n) at (through p h r n (omega arith)))

    -- a period starts and ends on the way back to the recovery box
    pub at_period : (p : ℕ) → p ≤ length qs → Returning (values f) (x (p * δ (values f)))
    at_period zero h = rw zero-mul (recovered wf (check_keep f passed).1 start)
    at_period (suc p) h = ends (period_law f (get_or qs p none)) (period_end p h (at_period p (omega arith)))

    -- what is known at tick t goes by the law that acts there
    pub at_tick : (t : ℕ) → t < length qs * δ (values f) → Backed (values f) (law_at f qs t) (suc (δ (values f) - suc (t % δ (values f)))) (x t)
    at_tick t h =
        let n = δ (values f) in
        let some-ticks = wf.δ_low in
        let i = mod-lt t {m = n} some-ticks in
        let p = (div-lt_iff_lt-mul {k = n} {x = t} {y = length qs} some-ticks).1 h in
        let e : n - t % n ≡ suc (n - suc (t % n)) = omega arith in
        subst (λ (z : ℕ). Backed (values f) (law_at f qs z) (suc (n - suc (t % n))) (x z)) (div-add-mod' t n)
        (rw (law_at_lem f qs (t / n) (t % n) p i, ← e) (through (t / n) p (at_period (t / n) (omega arith)) (t % n) (omega arith)))

    -- so at each tick of the plain law the state is on the way back
    pub returning_at : (t : ℕ) → t < length qs * δ (values f) → law_at f qs t ≡ Baseline → Returning (values f) (x t)
    unfolding Backed
    returning_at t h e = subst (λ (l : Law). Backed (values f) l (suc (δ (values f) - suc (t % δ (values f)))) (x t)) e (at_tick t h)

    pub guarded : (t : ℕ) → t ≤ length qs * δ (values f) → Guarded (values f) (x t)
    guarded t h = ⊎_elim (λ e. rw e (returning_guarded (at_period (length qs) (omega arith))))
        (λ k. backed_guarded (law_at f qs t) _ (at_tick t k)) (eq-or-lt_of_le h)

    returns : (p : ℕ) → p < length qs → T (kept f (get_or qs p none))
        → suc p * δ (values f) + α (values f) ≤ length qs * δ (values f)
        → ((t : ℕ) → t < α (values f) → law_at f qs (suc p * δ (values f) + t) ≡ Baseline)
        → In (vars (values f)) (recovery_box (values f)) (x (suc p * δ (values f) + α (values f)))
    returns p h t k plain =
        let n = suc p * δ (values f) in
        held_returns wf (α (values f)) (λ i. x (n + i)) (rw add-zero (kept_ends (get_or qs p none) t (period_end p h (at_period p (omega arith)))))
        (λ i l. rw add-suc (rw (plain i l) at (run.ticks (n + i) (omega arith))))

pub safe_runs : SafeRuns
unfolding Covered
safe_runs f passed qs x start run = record {
  safe = λ t h. (guarded f passed qs x start run t h).held.covered.0.outside;
  returns = returns f passed qs x start run;
}
