-- What the code is given: a law and some numbers of the sheet, beside the sheet's value; and which bands and sides it looks for.
use Rattle.std.specs.Prelude.{◌≡◌, Bool, true, false, not, ◌&&◌, List, ℕ, ◌+◌, ◌<◌, leb, ℤ, ◌≤ℤ◌, ◌<ℤ◌}
use Rattle.std.specs.Int.Signed.{le_z}
use Rattle.sheet_spec.specs.Slots.{◌!◌, N, band_size, band_slot, vars, bands, band_var, band_kind, edge}
use Rattle.sheet_spec.specs.Valid.{ValidNumbers}
use Rattle.sheet_spec.specs.declared.BandKind.{BandKind}
use Rattle.sheet_spec.specs.declared.BandKind.TheVariants.{Fixed, Feedback}
use Rattle.machine_spec.specs.declared.Law.{Law}
use Rattle.machine_spec.specs.declared.Law.TheVariants.{Baseline, Span}
use Rattle.machine_spec.specs.Accepted.{Lawful}
use Rattle.boxes_rates.specs.declared.Plant.{Plant}

-- the plant has the numbers of v, the value of an accepted sheet, and a law that v allows: it describes the machine of v under that law
pub record Describes (p : Plant) (v : List ℤ) : Type 0 where
  pub sheet : ValidNumbers v
  pub law : Lawful v p.law
  pub n : p.n ≡ vars v
  pub bands : p.bands ≡ bands v
  pub var : p.var ≡ band_var v
  pub kind : p.kind ≡ band_kind v

-- the plain law acts, and it follows the state
unfoldable pub follows_state : Law → BandKind → Bool
follows_state Baseline Feedback = true
follows_state Baseline Fixed = false
follows_state (Span l h) b = false

-- the case of the code that is taken: whether the law follows the state, and the number of variables
pub record Chosen (follows : Bool) (n : ℕ) (p : Plant) (v : List ℤ) : Type 0 where
  pub law_is : follows ≡ follows_state p.law p.kind
  pub n_is : n ≡ vars v

-- ---- bands, by the slots of their edges

-- a band follows the one at a slot, which is not the last band's, and starts at or below x
unfoldable pub next_starts_by : List ℤ → ℕ → ℕ → ℤ → Bool
next_starts_by v last at x = not (leb last at) && le_z (v ! (at + band_size)) x

-- the bands before the one at a slot end at or below l
pub record BandFrom (v : List ℤ) (l : ℤ) (at : ℕ) : Type 0 where
  pub band : ℕ
  pub place : at ≡ band_slot band
  pub among : band < bands v
  pub before : (k : ℕ) → k < band → edge v (k + 1) ≤ℤ l

-- and it does not: it is the first that has a number from l on
pub record FirstBand (v : List ℤ) (l : ℤ) (at : ℕ) : Type 0 where
  pub from : BandFrom v l at
  pub next : from.band + 1 < bands v → l <ℤ edge v (from.band + 1)

-- ---- the side that is cut

-- the place of the side that the neighborhood of a face of variable i cuts: that of the other face
unfoldable pub cut_at : Bool → ℕ → ℕ
cut_at false i = i + N
cut_at true i = i
