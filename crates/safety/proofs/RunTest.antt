-- A computed test that a list of ticks is a run, for examples. Assumes nothing.
use mathlib.Core.Path.{◌≡◌, refl, sym, subst}
use mathlib.Core.Bool.{Bool, true, false, not, ◌&&◌, ◌||◌}
use mathlib.Core.List.{List, [], ◌∷◌}
use mathlib.Core.Option.{none, some}
use Prim.Native.Nat.{ℕ, zero, suc, ◌*◌, ◌<◌}
use native.Mathlib.Omega.{arith}
use lib.Dec.{T, ltb, ltb→lt, eqb, eqb→eq}
use lib.IntN.{ℤ, ◌-ℤ◌}
use lib.Signed.{le_z}
use lib.ListN.{length, get_or}
use Rattle.integers.proofs.Z.{le_true}
use Rattle.sheet_spec.specs.Slots.{◌!◌, vars, δ}
use Rattle.sheet_spec.specs.Sheet.{values}
use Rattle.sheet_spec.specs.Box.{lo, hi, all}
use Rattle.machine_spec.specs.Box.{In}
use Rattle.machine_spec.specs.declared.Law.{Law}
use Rattle.machine_spec.specs.declared.Law.TheVariants.{Baseline}
use Rattle.machine_spec.specs.Machine.{Machine, machine, vars_of, bands_of, cap, row_of, band_holds, offered_at, numerator, change, Tick}
use Rattle.sheet_spec.proofs.Box.{differ, and_both, all_at}
use Rattle.decision_spec.specs.Question.{measured}
use Rattle.safety.specs.Run.{Period, kept, acting, Measured, Run}
use Rattle.safety.proofs.Acting.{acting_length}

-- what a tick goes by, and the state that it leads to
pub record Moment : Type 0 where
  pub band : ℕ
  pub used : ℤ
  pub state : List ℤ

-- the states of a list of ticks from x
unfoldable pub states : List ℤ → List Moment → ℕ → List ℤ
states x ts zero = x
states x [] (suc i) = x
states x (t ∷ ts) (suc i) = states t.state ts i

-- ---- the test

unfoldable pub allows : Machine → List ℤ → Moment → ℕ → Bool
allows m x t i =
    let r = row_of m t.band i in
    let N = numerator (vars_of m) r x t.used in
    le_z (change false (cap m i) r N) (t.state ! i -ℤ x ! i) && le_z (t.state ! i -ℤ x ! i) (change true (cap m i) r N)

unfoldable pub ticks : Machine → List ℤ → Moment → Bool
ticks m x t =
    eqb (length t.state) (vars_of m) && (ltb t.band (bands_of m) && (band_holds m t.band x
    && (le_z (offered_at false m t.band x) t.used && (le_z t.used (offered_at true m t.band x) && all (vars_of m) (allows m x t)))))

unfoldable pub follows : List ℤ → List Law → List ℤ → List Moment → Bool
follows v [] x ts = true
follows v (l ∷ ls) x [] = false
follows v (l ∷ ls) x (t ∷ ts) = ticks (machine v l) x t && follows v ls t.state ts

unfoldable pub holds : ℕ → List ℤ → List ℤ → Bool
holds n B x = all n (λ i. le_z (lo B i) (x ! i) && le_z (x ! i) (hi B i))

unfoldable pub measures : List ℕ → Period → List ℤ → Bool
measures f none x = true
measures f (some g) x = not (kept f (some g)) || holds (vars (values f)) (measured (vars (values f)) g) x

unfoldable pub runs : List ℕ → List Period → List ℤ → List Moment → Bool
runs f qs x ts =
    eqb (length x) (vars (values f))
    && (follows (values f) (acting f qs) x ts && all (length qs) (λ p. measures f (get_or qs p none) (states x ts (p * δ (values f)))))

-- ---- what it says

passes : {t : Bool} → t ≡ true → T t
passes e = subst T (sym e) tt

ticks_tick : (m : Machine) (x : List ℤ) (t : Moment) → ticks m x t ≡ true → Tick m x t.state
unfolding ticks allows
ticks_tick m x t e =
    let k = t.band in
    let a = and_both (eqb (length t.state) (vars_of m)) _ e in
    let b = and_both (ltb k (bands_of m)) _ a.1 in
    let c = and_both (band_holds m k x) _ b.1 in
    let d = and_both (le_z (offered_at false m k x) t.used) _ c.1 in
    let g = and_both (le_z t.used (offered_at true m k x)) _ d.1 in
    record {
      size = eqb→eq (length t.state) (vars_of m) (passes a.0);
      band = k;
      among = ltb→lt k (bands_of m) (passes b.0);
      holds = passes c.0;
      used = t.used;
      offered = record { low = le_true _ _ d.0; high = le_true _ _ g.0 };
      change = λ i h. let s = sides i (all_at (vars_of m) (allows m x t) i g.1 h) in record { above = le_true _ _ s.0; below = le_true _ _ s.1 };
    }
  where
    N : ℕ → ℤ
    N i = numerator (vars_of m) (row_of m t.band i) x t.used

    sides : (i : ℕ) → allows m x t i ≡ true
        → (le_z (change false (cap m i) (row_of m t.band i) (N i)) (t.state ! i -ℤ x ! i) ≡ true) × (le_z (t.state ! i -ℤ x ! i) (change true (cap m i) (row_of m t.band i) (N i)) ≡ true)
    sides i = and_both (le_z (change false (cap m i) (row_of m t.band i) (N i)) (t.state ! i -ℤ x ! i)) _

follows_ticks : (v : List ℤ) (ls : List Law) (x : List ℤ) (ts : List Moment) → follows v ls x ts ≡ true
    → (i : ℕ) → i < length ls → Tick (machine v (get_or ls i Baseline)) (states x ts i) (states x ts (suc i))
unfolding follows states
follows_ticks v [] x ts e i h = absurd (omega arith)
follows_ticks v (l ∷ ls) x [] e i h = absurd (differ e refl)
follows_ticks v (l ∷ ls) x (t ∷ ts) e zero h = ticks_tick (machine v l) x t (and_both (ticks (machine v l) x t) _ e).0
follows_ticks v (l ∷ ls) x (t ∷ ts) e (suc i) h = follows_ticks v ls t.state ts (and_both (ticks (machine v l) x t) _ e).1 i (omega arith)

pub holds_in : (n : ℕ) (B x : List ℤ) → holds n B x ≡ true → In n B x
unfolding holds
holds_in n B x e = record { low = λ i h. le_true _ _ (sides i h).0; high = λ i h. le_true _ _ (sides i h).1 }
  where
    sides : (i : ℕ) → i < n → (le_z (lo B i) (x ! i) ≡ true) × (le_z (x ! i) (hi B i) ≡ true)
    sides i h = and_both (le_z (lo B i) (x ! i)) _ (all_at n _ i e h)

measures_measured : (f : List ℕ) (q : Period) (x : List ℤ) → measures f q x ≡ true → Measured f q x
unfolding measures Measured
measures_measured f none x e = tt
measures_measured f (some g) x e = by (kept f (some g)) (measured (vars (values f)) g) e
  where
    by : (k : Bool) (B : List ℤ) → (not k || holds (vars (values f)) B x) ≡ true → T k → In (vars (values f)) B x
    by true B e t = holds_in (vars (values f)) B x e
    by false B e t = absurd t

pub runs_run : (f : List ℕ) (qs : List Period) (x : List ℤ) (ts : List Moment) → runs f qs x ts ≡ true → Run f qs (states x ts)
unfolding runs states
runs_run f qs x ts e =
    let a = and_both (eqb (length x) (vars (values f))) _ e in
    let b = and_both (follows (values f) (acting f qs) x ts) _ a.1 in
    record {
      starts = eqb→eq (length x) (vars (values f)) (passes a.0);
      ticks = λ t h. follows_ticks (values f) (acting f qs) x ts b.0 t (rw (acting_length f qs) h);
      measured = λ p h. measures_measured f (get_or qs p none) _ (all_at (length qs) _ p b.1 h);
    }
