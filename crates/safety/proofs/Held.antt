-- What a run keeps up from tick to tick: the state is covered by the laws to come, and is so far inside ±2,000,000 that these ticks cannot lead out of it.
-- Assumes nothing.
use mathlib.Core.Path.{◌≡◌}
use mathlib.Core.Bool.{true, false}
use mathlib.Core.List.{List, [], ◌∷◌, ◌++◌, append-nil}
use Prim.Native.Nat.{ℕ, zero, suc, ◌+◌, ◌*◌, ◌≤◌, ◌<◌, max}
use native.Mathlib.Omega.{arith}
use lib.Dec.{T}
use lib.IntN.{ℤ, pos, negsuc, neg_ℤ, ◌-ℤ◌}
use lib.Signed.{◌≤ℤ◌}
use lib.ListN.{length, replicate, length-append, length-replicate}
use Rattle.integers.specs.Bound.{size}
use Rattle.integers.proofs.Z.{ints, sub, neg}
use Rattle.sheet_spec.specs.Limits.{max_ticks, max_cap, max_edge, max_side}
use Rattle.sheet_spec.specs.Slots.{◌!◌, vars, δ, α, ρ, recovery_box}
use Rattle.sheet_spec.specs.Valid.{ValidNumbers}
use Rattle.machine_spec.specs.Box.{Sized, In}
use Rattle.machine_spec.specs.declared.Law.{Law}
use Rattle.machine_spec.specs.declared.Law.TheVariants.{Baseline}
use Rattle.machine_spec.specs.Accepted.{Lawful}
use Rattle.machine_spec.specs.Machine.{machine, Tick}
use Rattle.machine_spec.specs.Rate.{neutral}
use Rattle.machine_spec.proofs.Sound.{cap_bounds}
use Rattle.boxes_spec.proofs.Sound.{Ticks}
use Rattle.boxes_spec.proofs.Ranges.{lawful, start_sized, recovery_sized}
use Rattle.decision_spec.specs.Question.{question_of, question_head, question_refusal, allowance_of, measured}
use Rattle.decision_spec.specs.Decision.{recovery_of, decision_to, is_keep}
use Rattle.decision_spec.proofs.Passes.{question_passes}
use Rattle.decision_spec.proofs.Cover.{Covered}
use Rattle.decision_spec.proofs.Attempt.{recovery_sound, decision_sound}

pub record Held (v : List ℤ) (ls : List Law) (x : List ℤ) : Type 0 where
  pub covered : Covered v ls x
  pub near : (i : ℕ) → i < vars v → size (x ! i) + length ls * max_cap ≤ max_edge

-- ---- a tick moves it on

-- a tick changes a variable by at most the greatest cap
change_size : {v : List ℤ} {l : Law} {x y : List ℤ} → ValidNumbers v → Tick (machine v l) x y → (i : ℕ) → i < vars v → size (y ! i) ≤ size (x ! i) + max_cap
unfolding neutral
change_size {v} {l} {x} {y} wf t i h =
    step (x ! i) (y ! i) _ (wf.caps i h).high (cap_bounds wf t i h false).order (cap_bounds wf t i h true).order
  where
    step : (a b c : ℤ) → c ≤ℤ pos max_cap → neg_ℤ c ≤ℤ (b -ℤ a) → (b -ℤ a) ≤ℤ c → size b ≤ size a + max_cap
    step a (pos b) c k f g = omega (ints, sub (pos b) a)
    step a (negsuc b) c k f g = omega (ints, sub (negsuc b) a, neg c)

module _ {v : List ℤ} (wf : ValidNumbers v) where
  pub held_tick : {l : Law} {ls : List Law} {x y : List ℤ} → Held v (l ∷ ls) x → Tick (machine v l) x y → Held v ls y
  unfolding Covered
  held_tick {y} s t = record {
    covered = s.covered.1 y t;
    near = λ i h. omega (arith, s.near i h, change_size wf t i h);
  }

  -- so do k ticks under one law
  pub held_after : {l : Law} {ls : List Law} (k : ℕ) (x : ℕ → List ℤ) → Held v (replicate k l ++ ls) (x 0) → Ticks (machine v l) x k → Held v ls (x k)
  held_after zero x s f = s
  held_after (suc k) x s f = held_after k (λ t. x (suc t)) (held_tick s (f 0 (omega arith))) (λ i h. f (suc i) (omega arith))

  -- and those of the plain law end in the recovery box
  pub held_returns : (k : ℕ) (x : ℕ → List ℤ) → Held v (replicate k Baseline) (x 0) → Ticks (machine v Baseline) x k → In (vars v) (recovery_box v) (x k)
  unfolding Covered
  held_returns k x s f = (held_after {l = Baseline} {ls = []} k x (rw append-nil s) f).covered

-- ---- where it starts: in a measured box and in the recovery box, whose sides are at most max_side

hold : {v : List ℤ} {ls : List Law} {B x : List ℤ} → length ls ≤ max_ticks → Sized (vars v) max_side B → In (vars v) B x → Covered v ls x → Held v ls x
hold {x} few s b c = record {
  covered = c;
  near = λ i h. omega (arith, between (x ! i) (s.near.at false i h).at_most (s.near.at true i h).at_most (b.low i h) (b.high i h));
}
  where
    between : {l u : ℤ} {k : ℕ} (z : ℤ) → size l ≤ k → size u ≤ k → l ≤ℤ z → z ≤ℤ u → size z ≤ k
    between (pos n) a b h k = omega ints
    between (negsuc n) a b h k = omega ints

-- the law of a question that is not refused
pub question_lawful : (v : List ℤ) (g : List ℕ) → question_refusal v g ≡ 0 → Lawful v (question_head g).law
question_lawful v g e = lawful v (question_head g).law (question_passes v g e).head.law

pub keep_held : {v x : List ℤ} (g : List ℕ) → ValidNumbers v → question_refusal v g ≡ 0
    → T (is_keep (decision_to v (question_of (vars v) g))) → In (vars v) (measured (vars v) g) x
    → Held v (replicate (δ v) (question_head g).law ++ replicate (α v) Baseline) x
keep_held {v} g wf e t b =
    let few : length (replicate (δ v) (question_head g).law ++ replicate (α v) Baseline) ≤ max_ticks = simp (length-append, length-replicate) wf.sum_high in
    hold few (start_sized (vars v) (measured (vars v) g) (question_passes v g e).start) b (decision_sound wf (question_head g).law (allowance_of g) t b)

-- ---- the way back to the recovery box

-- under the plain law the state comes to the recovery box in `left` + 1 ticks
pub record Returning (v x : List ℤ) : Type 0 where
  pub left : ℕ
  pub soon : left < max (α v) (ρ v)
  pub held : Held v (replicate (suc left) Baseline) x

-- a sheet whose recovery check passed
module _ {v : List ℤ} (wf : ValidNumbers v) (passed : T (is_keep (recovery_of v))) where
  -- a state of the recovery box comes back to it in ρ ticks
  pub recovered : {x : List ℤ} → In (vars v) (recovery_box v) x → Returning v x
  recovered {x} b =
      let few : length (replicate (ρ v) Baseline) ≤ max_ticks = rw (length-replicate (ρ v) Baseline) wf.ρ_high in
      from (ρ v) wf.ρ_low (omega arith) (hold few (recovery_sized wf) b (recovery_sound wf passed b))
    where
      from : (k : ℕ) → 1 ≤ k → k ≤ max (α v) (ρ v) → Held v (replicate k Baseline) x → Returning v x
      from zero h few s = absurd (omega arith)
      from (suc k) h few s = record { left = k; soon = few; held = s }

  -- and so does each state that the plain law brings there
  pub returning : {x : List ℤ} (k : ℕ) → k ≤ max (α v) (ρ v) → Held v (replicate k Baseline) x → Returning v x
  unfolding Covered
  returning zero few s = recovered s.covered
  returning (suc k) few s = record { left = k; soon = few; held = s }

  pub returning_tick : {x y : List ℤ} → Returning v x → Tick (machine v Baseline) x y → Returning v y
  returning_tick r t = returning r.left (omega (arith, r.soon)) (held_tick wf r.held t)
