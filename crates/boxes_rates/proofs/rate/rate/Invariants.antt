-- Invariant: the band at the slot is met; the outermost is that of the bands before it; the box is cut to it but for its upper side; what is
-- known of the plain law's commands is right. Measure: the slots left.
use Rattle.std.proofs.Common.{◌-◌, ◌≡◌, ◌<◌, ℕ, ℤ, List, Bool}
use Rattle.sheet_spec.specs.Slots.{band_slot, bands, band_var, cap}
use Rattle.sheet_spec.specs.Box.{lo, hi}
use Rattle.machine_spec.specs.Machine.{Machine, machine}
use Rattle.machine_spec.specs.Rate.{outermost, neutral, band_rate}
use Rattle.machine_spec.proofs.Bands.{Meets}
use Rattle.boxes_rates.specs.Known.{NotedAll}
use Rattle.boxes_rates.proofs.Parts.{Cutting}
use Rattle.boxes_rates.proofs.rate.rate.Given as goal

-- at the slot of a band that B meets, where O is B cut to that band but for its upper side and z the outermost of the bands before it; o is what
-- is known of the commands, and o₀ what was
pub record Invariant (m : Machine) (B : List ℤ) (up : Bool) (i : ℕ) (shared : Bool) (o₀ O o : List ℤ) (z : ℤ) (at number : ℕ) : Type 0 where
  pub band : ℕ
  pub place : at ≡ band_slot band
  pub among : band < bands m.sheet
  pub met : Meets m.sheet (bands m.sheet) band (lo B (band_var m.sheet)) (hi B (band_var m.sheet))
  pub cutting : Cutting m band B O
  pub so_far : z ≡ outermost up (neutral up (cap m.sheet i)) band (band_rate up m B i)
  pub count : number ≡ band
  pub noted : NotedAll shared m B o₀ o

abbrev pub invariant-loop-next : goal.invariant-loop-next
invariant-loop-next l = Invariant (machine l.sheet l.plant.law) l.fn.over l.up l.i l.shared l.fn.ends l.over l.ends l.outermost l.band l.k

abbrev pub decreases-loop-next : goal.decreases-loop-next
decreases-loop-next l = l.top - l.band
