-- Runs do not come to an end: every state of a run has a band, and every run goes on with any further period. Assumes nothing.
use mathlib.Core.Path.{◌≡◌, refl, sym, ap, subst}
use mathlib.Core.List.{List, [], ◌∷◌, ◌++◌}
use mathlib.Core.Logic.{⊎_elim}
use mathlib.Core.Option.{none}
use Prim.Native.Nat.{ℕ, zero, suc, ◌+◌, ◌-◌, ◌*◌, ◌≤◌, ◌<◌}
use native.Mathlib.Nat.{add-suc, zero-add, suc-add, zero-mul, mul-le-mul_right, eq-zero-or-pos}
use native.Mathlib.Omega.{arith}
use lib.Dec.{T}
use lib.IntN.{ℤ}
use lib.ListN.{length, get_or, length-append, get_or-append}
use lib.Seq.{get_or-append-add}
use Rattle.integers.specs.Bound.{Bound}
use Rattle.integers.proofs.Z.{ints}
use Rattle.sheet_spec.specs.Limits.{max_edge}
use Rattle.sheet_spec.specs.Slots.{◌!◌, vars, bands, band_var, δ, recovery_box}
use Rattle.sheet_spec.specs.Sheet.{values}
use Rattle.sheet_spec.specs.Valid.{ValidNumbers}
use Rattle.machine_spec.specs.Box.{In}
use Rattle.machine_spec.specs.declared.Law.{Law}
use Rattle.machine_spec.specs.Accepted.{Lawful}
use Rattle.machine_spec.specs.Machine.{Machine, machine, Tick}
use Rattle.machine_spec.proofs.Bands.{Band, has_band}
use Rattle.machine_spec.proofs.Progress.{some_tick}
use Rattle.boxes_spec.proofs.Sound.{Ticks}
use Rattle.decision_spec.specs.Decision.{check_recovery, is_keep}
use Rattle.safety.specs.Run.{Period, period_law, law_at, Measured, Run}
use Rattle.decision_spec.proofs.Cover.{prepend, prepend_ticks}
use Rattle.safety.proofs.Acting.{law_at_lem, law_before, law_later}
use Rattle.safety.proofs.Run.{Backed, Guarded, backed_guarded, period_lawful, wf, begins, backed_tick, at_period, guarded}

-- ---- the states of a run

guarded_bound : {v x : List ℤ} → Guarded v x → (i : ℕ) → i < vars v → Bound (x ! i) max_edge
guarded_bound g i h = record { at_most = omega (arith, g.held.near i h) }

guarded_band : {v x : List ℤ} → ValidNumbers v → Guarded v x → Band v (bands v) (x ! band_var v)
guarded_band {v} wf g = has_band wf.bands_low (omega (ints, wf.first_edge, (guarded_bound g (band_var v) wf.var).at_most))

module _ (f : List ℕ) (passed : T (is_keep (check_recovery f))) (qs : List Period) (x : ℕ → List ℤ)
    (start : In (vars (values f)) (recovery_box (values f)) (x 0)) (run : Run f qs x) (t : ℕ) (h : t ≤ length qs * δ (values f)) where
  pub within_limits : (i : ℕ) → i < vars (values f) → Bound (x t ! i) max_edge
  within_limits = guarded_bound (guarded f passed qs x start run t h)

  pub has_bands : Band (values f) (bands (values f)) (x t ! band_var (values f))
  has_bands = guarded_band (wf f passed) (guarded f passed qs x start run t h)

sizes : {f : List ℕ} {qs : List Period} {x : ℕ → List ℤ} → Run f qs x → (t : ℕ) → t ≤ length qs * δ (values f) → length (x t) ≡ vars (values f)
sizes run zero h = run.starts
sizes run (suc t) h = (run.ticks t h).size

-- a state alone is a run of no periods
pub runs_start : (f : List ℕ) {s : List ℤ} → length s ≡ vars (values f) → Run f [] (λ t. s)
runs_start f e = record { starts = e; ticks = λ t h. absurd (omega arith); measured = λ p h. absurd (omega arith) }

-- ---- one run after another

-- x up to tick k, then y
join : ℕ → (ℕ → List ℤ) → (ℕ → List ℤ) → ℕ → List ℤ
join zero x y t = y t
join (suc k) x y zero = x 0
join (suc k) x y (suc t) = join k (λ i. x (suc i)) y t

join_to : (k : ℕ) (x y : ℕ → List ℤ) → x k ≡ y 0 → (t : ℕ) → t ≤ k → join k x y t ≡ x t
unfolding join
join_to zero x y e t h = let z : 0 ≡ t = omega arith in subst (λ (t : ℕ). y t ≡ x t) z (sym e)
join_to (suc k) x y e zero h = refl
join_to (suc k) x y e (suc t) h = join_to k (λ i. x (suc i)) y e t (omega arith)

join_later : (k : ℕ) (x y : ℕ → List ℤ) (i : ℕ) → join k x y (k + i) ≡ y i
unfolding join
join_later zero x y i = rw zero-add refl
join_later (suc k) x y i = rw suc-add (join_later k (λ i. x (suc i)) y i)

-- what holds of each t below k, and of each k + i, holds of every t
split : (P : ℕ → Type 0) (k : ℕ) → ((t : ℕ) → t < k → P t) → ((i : ℕ) → P (k + i)) → (t : ℕ) → P t
split P k before after t =
    ⊎_elim (λ z. let e : k + (t - k) ≡ t = omega arith in subst P e (after (t - k))) (λ z. before t (omega arith)) (eq-zero-or-pos (k - t))

join_runs : {f : List ℕ} {qs rs : List Period} {x y : ℕ → List ℤ} → Run f qs x → Run f rs y → x (length qs * δ (values f)) ≡ y 0
    → Run f (qs ++ rs) (join (length qs * δ (values f)) x y)
join_runs {f} {qs} {rs} {x} {y} r s e =
    let n = δ (values f) in
    let k = length qs * n in
    let j = join k x y in
    record {
      starts = rw (join_to k x y e 0 (omega arith)) r.starts;
      ticks = split (λ t. t < length (qs ++ rs) * n → Tick (machine (values f) (law_at f (qs ++ rs) t)) (j t) (j (suc t))) k
          (λ t h _. rw (law_before f qs rs t h, join_to k x y e t (omega arith), join_to k x y e (suc t) (omega arith)) (r.ticks t h))
          (λ i h. rw (law_later f qs rs i, join_later k x y i, ← add-suc k i, join_later k x y (suc i))
          (s.ticks i (omega (arith, ap (λ (z : ℕ). z * n) (length-append qs rs)))));
      measured = split (λ p. p < length (qs ++ rs) → Measured f (get_or (qs ++ rs) p none) (j (p * n))) (length qs)
          (λ p h _. rw (get_or-append qs rs none p h, join_to k x y e (p * n) (mul-le-mul_right n (omega arith))) (r.measured p h))
          (λ i h. let q : (length qs + i) * n ≡ k + i * n = omega arith in
          rw (get_or-append-add qs rs i none, q, join_later k x y (i * n)) (s.measured i (omega (arith, length-append qs rs))));
    }

-- ---- a further period

-- k ticks from the state s
record Trajectory (m : Machine) (s : List ℤ) (k : ℕ) : Type 0 where
  states : ℕ → List ℤ
  first : states 0 ≡ s
  ticks : Ticks m states k

one_period : {f : List ℕ} (q : Period) {s : List ℤ} (r : Trajectory (machine (values f) (period_law f q)) s (δ (values f)))
    → length s ≡ vars (values f) → Measured f q s → Run f (q ∷ []) r.states
one_period {f} q r e m = record {
  starts = rw r.first e;
  ticks = λ t h. let z : t ≡ 0 * δ (values f) + t = omega arith in
      rw (ap (law_at f (q ∷ [])) z, law_at_lem f (q ∷ []) 0 t (omega arith) (omega arith)) (r.ticks t (omega arith));
  measured = only;
}
  where
    only : (p : ℕ) → p < 1 → Measured f (get_or (q ∷ []) p none) (r.states (p * δ (values f)))
    only zero h = rw (zero-mul, r.first) m
    only (suc p) h = absurd (omega arith)

-- x goes on by the period q
pub record Continued (f : List ℕ) (qs : List Period) (x : ℕ → List ℤ) (q : Period) : Type 0 where
  pub states : ℕ → List ℤ
  pub same : (t : ℕ) → t ≤ length qs * δ (values f) → states t ≡ x t
  pub run : Run f (qs ++ (q ∷ [])) states

module _ (f : List ℕ) (passed : T (is_keep (check_recovery f))) where
  onward : (left : ℕ) (l : Law) (s : List ℤ) → Lawful (values f) l → Backed (values f) l left s → Trajectory (machine (values f) l) s left
  unfolding prepend
  onward zero l s a b = record { states = λ t. s; first = refl; ticks = λ i h. absurd (omega arith) }
  onward (suc left) l s a b =
      let n = some_tick s (record { sheet = wf f passed; law = a }) (guarded_band (wf f passed) (backed_guarded l left b)) in
      let r = onward left l n.next a (backed_tick f passed l left b n.tick) in
      record { states = prepend s r.states; first = refl; ticks = prepend_ticks r.states left r.first n.tick r.ticks }

  -- every run goes on with any further period; if that is kept, its measured box has to hold the state
  pub runs_go_on : (qs : List Period) (x : ℕ → List ℤ) → In (vars (values f)) (recovery_box (values f)) (x 0) → Run f qs x
      → (q : Period) → Measured f q (x (length qs * δ (values f))) → Continued f qs x q
  runs_go_on qs x start run q m =
      let k = length qs * δ (values f) in
      let r = onward (δ (values f)) (period_law f q) (x k) (period_lawful f q) (begins f passed q (at_period f passed qs x start run (length qs) (omega arith)) m) in
      record {
        states = join k x r.states;
        same = join_to k x r.states (sym r.first);
        run = join_runs run (one_period q r (sizes run k (omega arith)) m) (sym r.first);
      }
