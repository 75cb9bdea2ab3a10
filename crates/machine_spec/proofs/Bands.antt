-- What it is that a band meets a range of numbers; edges ascend; and from the first edge on every number has a band. Assumes nothing.
use mathlib.Core.Logic.{⊎_elim}
use mathlib.Core.Bool.{Bool, true, false, not, ◌&&◌, ◌||◌}
use mathlib.Core.List.{List}
use Prim.Native.Nat.{ℕ, zero, suc, ◌+◌, ◌<◌}
use native.Mathlib.Nat.{add-zero, add-suc}
use native.Mathlib.Numerals.{add-one}
use native.Mathlib.Omega.{arith}
use lib.Dec.{T, leb, leb→le, nleb→lt}
use lib.IntN.{ℤ}
use lib.Signed.{le_z, lt_z, ◌≤ℤ◌, ◌<ℤ◌, ≤ℤ_refl, le_z_yes, lt_z_yes}
use mir.Facts.{and_yes, or_yes}
use Rattle.integers.proofs.Z.{ints, le_or_lt}
use Rattle.sheet_spec.specs.Slots.{bands, edge}
use Rattle.sheet_spec.specs.Valid.{ValidNumbers}
use Rattle.machine_spec.specs.Machine.{band_meets}

both : (a b : Bool) → T a → T b → T (a && b)
both true b t u = u
both false b t u = t

either : (a b : Bool) → (T (not a) → T b) → T (a || b)
either true b f = tt
either false b f = f tt

-- band k has a number from l to h
pub record Meets (v : List ℤ) (bands k : ℕ) (l h : ℤ) : Type 0 where
  pub above : edge v k ≤ℤ h
  pub below : k + 1 < bands → l <ℤ edge v (k + 1)

module _ {v : List ℤ} {bands k : ℕ} {l h : ℤ} where
  pub meets_read : T (band_meets v bands k l h) → Meets v bands k l h
  unfolding band_meets
  meets_read t =
      let a = and_yes (le_z (edge v k) h) _ t in
      record {
        above = le_z_yes a.0;
        below = λ g. ⊎_elim (λ b. absurd (omega (arith, leb→le bands (k + 1) b))) (λ b. lt_z_yes b) (or_yes (leb bands (k + 1)) _ a.1);
      }

  pub meets_show : Meets v bands k l h → T (band_meets v bands k l h)
  unfolding band_meets
  meets_show s =
      both (le_z (edge v k) h) _ s.above.le
      (either (leb bands (k + 1)) (lt_z l (edge v (k + 1))) (λ g. (s.below (nleb→lt bands (k + 1) g)).lt))

-- a band that meets a range meets each that holds it
pub meets_wider : {v : List ℤ} {bands k : ℕ} {l l' h h' : ℤ} → l' ≤ℤ l → h ≤ℤ h' → Meets v bands k l h → Meets v bands k l' h'
meets_wider u w s = record { above = omega (ints, s.above); below = λ g. omega (ints, s.below g) }

-- ---- edges ascend

pub edge_below : {v : List ℤ} → ValidNumbers v → (k : ℕ) → k + 1 < bands v → edge v k <ℤ edge v (k + 1)
edge_below wf k h = rw add-one (wf.edges k (omega arith))

pub edges_ascend : {v : List ℤ} → ValidNumbers v → (k d : ℕ) → k + d < bands v → edge v k ≤ℤ edge v (k + d)
edges_ascend {v} wf k zero h = rw (add-zero k) (≤ℤ_refl (edge v k))
edges_ascend wf k (suc d) h = rw (add-suc k d) (omega (ints, edges_ascend wf k d (omega arith), wf.edges (k + d) (omega arith)))

-- ---- from the first edge on every number has a band

pub record Band (v : List ℤ) (bands : ℕ) (x : ℤ) : Type 0 where
  pub band : ℕ
  pub among : band < bands
  pub holds : T (band_meets v bands band x x)

-- the band is k or one below it, where x is not above band k
band_down : (v : List ℤ) (bands : ℕ) (x : ℤ) → edge v 0 ≤ℤ x → (k : ℕ) → k < bands → (k + 1 < bands → x <ℤ edge v (k + 1)) → Band v bands x
band_down v bands x e zero h b = record { band = 0; among = h; holds = meets_show (record { above = e; below = b }) }
band_down v bands x e (suc k) h b =
    ⊎_elim (λ a. record { band = suc k; among = h; holds = meets_show (record { above = a; below = b }) })
    (λ a. band_down v bands x e k (omega arith) (λ g. rw add-one a))
    (le_or_lt (edge v (suc k)) x)

pub has_band : {v : List ℤ} {bands : ℕ} {x : ℤ} → 0 < bands → edge v 0 ≤ℤ x → Band v bands x
has_band {v} {bands = zero} {x} z e = absurd (omega arith)
has_band {v} {bands = suc k} {x} z e = band_down v (suc k) x e k (omega arith) (λ g. absurd (omega arith))
