-- The machine on a sheet (document 01, "The machine on a sheet"): bands, laws, allowed changes, ticks.
use Rattle.std.specs.Prelude.{◌≡◌, Bool, true, false, ◌&&◌, ◌||◌, List, ℕ, ◌+◌, ◌<◌, T, leb, ℤ, neg_ℤ, nat_abs, ◌+ℤ◌, ◌-ℤ◌, ◌*ℤ◌, ◌≤ℤ◌, length}
use Rattle.std.specs.Int.Signed.{le_z, lt_z}
use Rattle.integers.specs.Order.{min_z, max_z}
use Rattle.integers.specs.Division.{floor_div, ceil_div}
use Rattle.sheet_spec.specs.Slots.{◌!◌, FeedbackLaw, Row, vars, bands, band_var, band_kind, feedback, row}
use Rattle.sheet_spec.specs.Slots as sheet
use Rattle.sheet_spec.specs.Valid.{Between}
use Rattle.sheet_spec.specs.declared.BandKind.{BandKind}
use Rattle.sheet_spec.specs.declared.BandKind.TheVariants.{Fixed, Feedback}
use Rattle.machine_spec.specs.declared.Law.{Law}
use Rattle.machine_spec.specs.declared.Law.TheVariants.{Baseline, Span}
use Rattle.machine_spec.specs.Box.{sum}

-- a sheet's machine under a law
pub record Machine : Type 0 where
  pub law : Law
  -- the sheet's value
  pub sheet : List ℤ

abbrev pub machine : List ℤ → Law → Machine
machine v l = record { law = l; sheet = v }

-- how many variables and bands it has, and the band variable
abbrev pub vars_of : Machine → ℕ
vars_of m = vars m.sheet

abbrev pub bands_of : Machine → ℕ
bands_of m = bands m.sheet

abbrev pub band_var_of : Machine → ℕ
band_var_of m = band_var m.sheet

abbrev pub cap : Machine → ℕ → ℤ
cap m i = sheet.cap m.sheet i

abbrev pub row_of : Machine → ℕ → ℕ → Row
row_of m k i = row m.sheet k i

-- ---- bands

-- band k has a number from l to h: it runs from its edge up to just below the next edge, the last without end
unfoldable pub band_meets : List ℤ → ℕ → ℕ → ℤ → ℤ → Bool
band_meets v bands k l h = le_z (sheet.edge v k) h && (leb bands (k + 1) || lt_z l (sheet.edge v (k + 1)))

-- band k holds the state x
abbrev pub band_holds : Machine → ℕ → List ℤ → Bool
band_holds m k x = band_meets m.sheet (bands_of m) k (x ! band_var_of m) (x ! band_var_of m)

-- ---- numbers at a state

-- Σ aj·xj
abbrev pub combination : ℕ → (ℕ → ℤ) → List ℤ → ℤ
combination n a x = sum n (λ j. a j *ℤ x ! j)

-- z, clamped to the range from l to h
abbrev pub clamp_to : ℤ → ℤ → ℤ → ℤ
clamp_to l h z = max_z l (min_z z h)

-- the quotient x / q, rounded down for a lower end or face (`false`), up for an upper one (`true`)
unfoldable pub outward_div : Bool → ℤ → ℕ → ℤ
outward_div false x q = floor_div x q
outward_div true x q = ceil_div x q

-- ---- what a law offers

-- the least (`false`) and the greatest (`true`) command of band k's safety range
abbrev pub safety_end : Bool → List ℤ → ℕ → ℤ
safety_end false v k = sheet.safety_least v k
safety_end true v k = sheet.safety_greatest v k

-- the sum of a law that follows the state (document 02, paper 9): Σ aj·xj + c
unfoldable pub law_sum : ℕ → FeedbackLaw → List ℤ → ℤ
law_sum n l x = combination n l.a x +ℤ l.c

-- the least and the greatest command of band k's plain law, where s is the sum of its law. Without such a law they do not move: they are those of
-- the safety range. With it they are s / q, rounded outward and clamped to the safety range
unfoldable pub baseline_end : BandKind → Bool → List ℤ → ℕ → ℤ → ℤ
baseline_end Fixed up v k s = safety_end up v k
baseline_end Feedback up v k s = clamp_to (sheet.safety_least v k) (sheet.safety_greatest v k) (outward_div up s (nat_abs (feedback v k).q))

-- the least and the greatest of the commands from l to h
abbrev pub span_end : Bool → ℤ → ℤ → ℤ
span_end false l h = l
span_end true l h = h

-- one command is a span of one
abbrev pub one_command : ℤ → Law
one_command u = Span u u

-- the least and the greatest command that the law offers in band k at the state x: under the plain law those of the band at this state, in a
-- span its own, whatever the band (document 02, paper 4)
unfoldable pub offered_at : Bool → Machine → ℕ → List ℤ → ℤ
offered_at up m k x =
    let v = m.sheet in
    elim m.law [ Baseline ↦ baseline_end (band_kind v) up v k (law_sum (vars v) (feedback v k) x) | Span l h ↦ span_end up l h ]

-- the law offers the command u there
abbrev pub Offered : Machine → ℕ → List ℤ → ℤ → Type 0
Offered m k x u = Between (offered_at false m k x) (offered_at true m k x) u

-- ---- the allowed change

unfoldable pub clamp : ℤ → ℤ → ℤ
clamp cap z = clamp_to (neg_ℤ cap) cap z

-- N = Σ aj·xj + b·u + c
unfoldable pub numerator : ℕ → Row → List ℤ → ℤ → ℤ
numerator n r x u = combination n r.a x +ℤ r.b *ℤ u +ℤ r.c

-- the least (for a lower face, `false`) and the greatest (upper, `true`) allowed change where N is the row's number
unfoldable pub change : Bool → ℤ → Row → ℤ → ℤ
change false cap r N = clamp cap (floor_div (N -ℤ r.d) (nat_abs r.q))
change true cap r N = clamp cap (ceil_div (N +ℤ r.d) (nat_abs r.q))

-- variable i may change by y from the state x, in band k under the command u
pub record Allowed (m : Machine) (k : ℕ) (x : List ℤ) (u : ℤ) (i : ℕ) (y : ℤ) : Type 0 where
  pub above : change false (cap m i) (row_of m k i) (numerator (vars_of m) (row_of m k i) x u) ≤ℤ y
  pub below : y ≤ℤ change true (cap m i) (row_of m k i) (numerator (vars_of m) (row_of m k i) x u)

-- a tick from the state x to the state y: one band holds x, one command that the law offers is used for all variables, and each
-- variable takes an allowed change
pub record Tick (m : Machine) (x y : List ℤ) : Type 0 where
  pub size : length y ≡ vars_of m
  pub band : ℕ
  pub among : band < bands_of m
  pub holds : T (band_holds m band x)
  pub used : ℤ
  pub offered : Offered m band x used
  pub change : (i : ℕ) → i < vars_of m → Allowed m band x used i (y ! i -ℤ x ! i)
