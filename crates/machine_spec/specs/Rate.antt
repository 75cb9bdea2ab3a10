-- The rates of a box's faces (document 01, "One lifted step"; document 02, paper 3). All of it computes.
-- A face is `false` for a lower and `true` for an upper one.
use Rattle.std.specs.Prelude.{Bool, true, false, cond, List, ℕ, zero, suc, ◌+◌, leb, ℤ, pos, neg_ℤ, ◌+ℤ◌, ◌-ℤ◌, ◌*ℤ◌, set}
use Rattle.integers.specs.Order.{min_z, max_z}
use Rattle.sheet_spec.specs.Slots.{N, FeedbackLaw, Row, vars, edge, band_kind, feedback}
use Rattle.sheet_spec.specs.Box.{lo, hi}
use Rattle.machine_spec.specs.declared.Law.TheVariants.{Baseline, Span}
use Rattle.machine_spec.specs.Box.{sum, box_of}
use Rattle.machine_spec.specs.Machine.{Machine, vars_of, bands_of, band_var_of, cap, row_of, band_meets, baseline_end, span_end, change}

-- ---- rates over a box

-- the smaller for a lower face, the greater for an upper
unfoldable pub outer : Bool → ℤ → ℤ → ℤ
outer false a b = min_z a b
outer true a b = max_z a b

-- the outermost of z and f 0, .. f (n − 1)
unfoldable pub outermost : Bool → ℤ → ℕ → (ℕ → ℤ) → ℤ
outermost up z zero f = z
outermost up z (suc n) f = outer up (outermost up z n f) (f n)

-- Σ aj·xj over the box, side by side
unfoldable pub weighted : Bool → ℕ → (ℕ → ℤ) → List ℤ → ℤ
weighted up n a B = sum n (λ j. outer up (a j *ℤ lo B j) (a j *ℤ hi B j))

-- the sum of a law that follows the state, bounded over a box
unfoldable pub law_over : Bool → ℕ → FeedbackLaw → List ℤ → ℤ
law_over up n l B = weighted up n l.a B +ℤ l.c

-- a row's number N bounded over a box and over the commands from u to v
unfoldable pub bound : Bool → ℕ → Row → List ℤ → ℤ → ℤ → ℤ
bound up n r B u v = weighted up n r.a B +ℤ outer up (r.b *ℤ u) (r.b *ℤ v) +ℤ r.c

-- band k has a state of the box
abbrev pub band_met : Machine → ℕ → List ℤ → Bool
band_met m k B = band_meets m.sheet (bands_of m) k (lo B (band_var_of m)) (hi B (band_var_of m))

-- a lower (`false`) or an upper side of the band variable, cut to band k: from its edge, to just below the next edge, the last without end
unfoldable pub cut_to_band : Bool → Machine → ℕ → ℤ → ℤ
cut_to_band false m k l = max_z l (edge m.sheet k)
cut_to_band true m k h = cond (leb (bands_of m) (k + 1)) h (min_z h (edge m.sheet (k + 1) -ℤ pos 1))

-- the part of a box that lies in band k, which the band's row is bounded over (document 02, paper 3)
unfoldable pub part : Machine → ℕ → List ℤ → List ℤ
part m k B =
    set (set B (band_var_of m) (cut_to_band false m k (lo B (band_var_of m)))) (band_var_of m + N) (cut_to_band true m k (hi B (band_var_of m)))

-- bounds of the least and of the greatest command that the law offers in band k, over the states of a box: of the plain law the least one comes of
-- the least of its law's sum over the box, the greatest of the greatest, rounded and clamped as at a state (document 02, paper 9)
unfoldable pub offered_over : Bool → Machine → ℕ → List ℤ → ℤ
offered_over up m k B =
    let v = m.sheet in
    elim m.law [ Baseline ↦ baseline_end (band_kind v) up v k (law_over up (vars v) (feedback v k) B) | Span l h ↦ span_end up l h ]

-- the number N of band k's row for variable i, bounded over a box and over the commands that the law offers there
abbrev pub row_over : Bool → Machine → List ℤ → ℕ → ℕ → ℤ
row_over up m B i k = bound up (vars_of m) (row_of m k i) B (offered_over false m k B) (offered_over true m k B)

-- the value that leaves the outermost as it is
unfoldable pub neutral : Bool → ℤ → ℤ
neutral false cap = cap
neutral true cap = neg_ℤ cap

-- band k's share in the rate of variable i over the box
unfoldable pub band_rate : Bool → Machine → List ℤ → ℕ → ℕ → ℤ
band_rate up m B i k =
    cond (band_met m k B) (change up (cap m i) (row_of m k i) (row_over up m (part m k B) i k)) (neutral up (cap m i))

-- the least (greatest) allowed change of variable i over the box: all commands, and every band that the box meets
unfoldable pub rate : Bool → Machine → List ℤ → ℕ → ℤ
rate up m B i = outermost up (neutral up (cap m i)) (bands_of m) (band_rate up m B i)

-- ---- the rates of a round: a step of `ticks` ticks (document 01: length k) from the box S, with the working box E

-- the neighborhood (document 01: slab) of a face of variable i: the part of E within `reach` of S's face
unfoldable pub neighborhood : Bool → List ℤ → ℤ → List ℤ → ℕ → List ℤ
neighborhood false S reach E i = set E (i + N) (min_z (hi E i) (lo S i +ℤ reach))
neighborhood true S reach E i = set E i (max_z (lo E i) (hi S i -ℤ reach))

unfoldable pub face_rate : Bool → Machine → List ℤ → ℕ → List ℤ → ℕ → ℤ
face_rate up m S ticks E i = rate up m (neighborhood up S (pos (ticks + 1) *ℤ cap m i) E i) i

-- the rates of all faces, as a box
unfoldable pub rates : Machine → List ℤ → ℕ → List ℤ → List ℤ
rates m S ticks E = box_of (vars_of m) (face_rate false m S ticks E) (face_rate true m S ticks E)
