-- Which case of the code is taken. Assumes nothing.
use mathlib.Core.Path.{◌≡◌, refl, sym, ap}
use mathlib.Core.Bool.{Bool, true, false}
use mathlib.Core.List.{List}
use Prim.Native.Nat.{◌≤◌}
use native.Mathlib.Omega.{arith}
use lib.IntN.{ℤ}
use Rattle.sheet_spec.specs.Slots.{N}
use Rattle.sheet_spec.specs.declared.BandKind.{BandKind}
use Rattle.sheet_spec.specs.declared.BandKind.TheVariants.{Fixed, Feedback}
use Rattle.machine_spec.specs.declared.Law.{Law}
use Rattle.machine_spec.specs.declared.Law.TheVariants.{Baseline, Span}
use Rattle.sheet_spec.proofs.Box.{differ}
use Rattle.boxes_rates.specs.declared.Plant.{Plant}
use Rattle.boxes_rates.specs.Plant.{Chosen, Describes, follows_state}

-- it follows the state: the plain law of bands that have one
pub follows_yes : (l : Law) (b : BandKind) → follows_state l b ≡ true → (l ≡ Baseline) × (b ≡ Feedback)
unfolding follows_state
follows_yes Baseline Feedback e = (refl, refl)
follows_yes Baseline Fixed e = absurd (differ e refl)
follows_yes (Span l h) b e = absurd (differ e refl)

-- it does not: bands of the plain law have none
pub follows_no : (l : Law) (b : BandKind) → follows_state l b ≡ false → l ≡ Baseline → b ≡ Fixed
unfolding follows_state
follows_no Baseline Fixed e q = refl
follows_no Baseline Feedback e q = absurd (differ refl e)
follows_no (Span l h) b e q = absurd (other q)
  where
    other : Span l h ≡ Baseline → ⊥
    other q = differ (ap (λ (x : Law). elim x [ Baseline ↦ true | Span a b ↦ false ]) q) refl

-- the case of a plant, with its number of variables
pub chosen : {p : Plant} {v : List ℤ} {follows : Bool} → Describes p v → follows_state p.law p.kind ≡ follows → Chosen follows p.n p v
chosen d e = record { law_is = sym e; n_is = d.n }

-- and with the most that there can be, where it has as many
pub chosen_most : {p : Plant} {v : List ℤ} {follows : Bool} → Describes p v → follows_state p.law p.kind ≡ follows → N ≤ p.n → Chosen follows N p v
chosen_most d e h = record { law_is = sym e; n_is = omega (arith, h, d.n, d.sheet.vars_high) }
