-- How far the numbers go that the code is given, what it asks of its caller, and what it promises.
use Rattle.std.specs.Prelude.{◌≡◌, Bool, true, false, cond, not, List, ℕ, ◌+◌, ◌*◌, ◌≤◌, ◌<◌, ℤ, pos, neg_ℤ, ◌*ℤ◌, ◌≤ℤ◌}
use Rattle.std.specs.Int.Signed.{lt_z}
use Rattle.integers.specs.Bound.{Bound}
use Rattle.sheet_spec.specs.Limits.{max_ticks, max_cap, max_divisor, max_edge}
use Rattle.sheet_spec.specs.Slots.{N, row_size, band_slot, slots, vars, bands, cap, band_kind, feedback, Row, row_at}
use Rattle.sheet_spec.specs.Box.{lo, hi}
use Rattle.sheet_spec.specs.Valid.{Between, ValidNumbers}
use Rattle.machine_spec.specs.Box.{side, Near, Ordered, Sized, within}
use Rattle.sheet_spec.specs.declared.BandKind.{BandKind}
use Rattle.sheet_spec.specs.declared.BandKind.TheVariants.{Feedback}
use Rattle.machine_spec.specs.Machine.{Machine, row_of, baseline_end, change}
use Rattle.machine_spec.specs.Rate.{bound, law_over, neutral, offered_over, outer, row_over}
use Rattle.boxes_arithmetic.specs.declared.Outermost.{Outermost}
use Rattle.boxes_arithmetic.specs.Limits.{Capped, limit, word}
use Rattle.boxes_rates.specs.declared.Plant.{Plant}
use Rattle.boxes_rates.specs.Plant.{Describes}

-- no number N of a row over a box that the code takes is greater
abbrev pub row_limit : ℕ
row_limit = 9000000000000000000

-- nor the part of a row's N that a command has
abbrev pub term_limit : ℕ
term_limit = word * word

-- nor how far a neighborhood reaches in from its face: one cap more than a step has ticks
abbrev pub neighborhood_limit : ℕ
neighborhood_limit = (max_ticks + 1) * max_cap

-- ---- a row of the sheet

-- of the lower and the upper end of an interval that is not empty the one at which the product with a is the outer one
unfoldable pub outer_end : {A : Type 0} → Bool → ℤ → A → A → A
outer_end false a l h = cond (lt_z a (pos 0)) h l
outer_end true a l h = cond (lt_z a (pos 0)) l h

-- a coefficient's products with the sides of variable j of the box B can be bounded
pub record TermAsked (B : List ℤ) (j : ℕ) : Type 0 where
  pub room : j < N
  pub near : (up : Bool) → Bound (side up B j) word
  pub ordered : lo B j ≤ℤ hi B j

-- the row at a slot can be bounded over the box B of n variables, which is not empty
pub record RowAsked (n row : ℕ) (B : List ℤ) : Type 0 where
  pub vars : n ≤ N
  pub place : row + row_size ≤ slots
  pub sides : Sized n limit B

-- ---- the commands that a law offers

-- the slot `at` is that of one of the bands
pub record BandAt (v : List ℤ) (at : ℕ) : Type 0 where
  pub band : ℕ
  pub place : at ≡ band_slot band
  pub among : band < bands v

-- the commands of the safety range of the band at a slot can be read
pub record SafetyAsked (v : List ℤ) (at : ℕ) : Type 0 where
  pub sheet : ValidNumbers v
  pub slot : BandAt v at

-- the commands over the box B of the plain law that follows the state can be bounded, in the band at a slot
pub record FeedbackAsked (n : ℕ) (v B : List ℤ) (at : ℕ) : Type 0 where
  pub sheet : ValidNumbers v
  pub kind : band_kind v ≡ Feedback
  pub n_is : n ≡ vars v
  pub sides : Sized (vars v) limit B
  pub slot : BandAt v at

-- an end of the plain law's commands in band k over the box B, for bands of a kind
abbrev pub end_over : BandKind → Bool → List ℤ → ℕ → List ℤ → ℤ
end_over b up v k B = baseline_end b up v k (law_over up (vars v) (feedback v k) B)

-- z is such an end of the law that follows the state, in the band k at a slot
pub record FeedbackEnd (up : Bool) (v : List ℤ) (at : ℕ) (B : List ℤ) (z : ℤ) : Type 0 where
  pub same : (k : ℕ) → at ≡ band_slot k → z ≡ end_over Feedback up v k B
  pub near : Bound z word

-- t is the outer one of the products of c with the plain law's commands in the band k at a slot, over the box B
pub record BaselineTerm (b : BandKind) (up : Bool) (v : List ℤ) (c : ℤ) (at : ℕ) (B : List ℤ) (t : ℤ) : Type 0 where
  pub same : (k : ℕ) → at ≡ band_slot k → t ≡ outer up (c *ℤ end_over b false v k B) (c *ℤ end_over b true v k B)
  pub near : Bound t term_limit

-- the commands that the plant's law offers over the box B in the band at a slot can be bounded, for the row at a slot
pub record CommandsAsked (p : Plant) (v B : List ℤ) (row at : ℕ) : Type 0 where
  pub plant : Describes p v
  pub room : row + row_size ≤ slots
  pub sides : Sized (vars v) limit B
  pub slot : BandAt v at

-- t is the outer one of b·u over the commands u that the law offers in the band k at a slot, over the box B
pub record CommandTerm (up : Bool) (m : Machine) (r : Row) (at : ℕ) (B : List ℤ) (t : ℤ) : Type 0 where
  pub same : (k : ℕ) → at ≡ band_slot k → t ≡ outer up (r.b *ℤ offered_over false m k B) (r.b *ℤ offered_over true m k B)
  pub near : Bound t term_limit

-- ---- the allowed change by a row

-- x is the row's N bounded over the box B and over the commands whose outer term is t
pub record RowBounded (up : Bool) (n : ℕ) (r : Row) (B : List ℤ) (t x : ℤ) : Type 0 where
  pub same : (u v : ℤ) → t ≡ outer up (r.b *ℤ u) (r.b *ℤ v) → x ≡ bound up n r B u v
  pub near : Bound x row_limit

-- the allowed change by the row at a slot can be worked out where x is the row's N, beside the outermost so far, z
pub record ChangeAsked (cap : ℤ) (v : List ℤ) (row : ℕ) (x z : ℤ) : Type 0 where
  pub place : row + row_size ≤ slots
  pub divisor : Between (pos 1) (pos max_divisor) (row_at v row).q
  pub number : Bound x row_limit
  pub capped : Capped cap z

-- the allowed change of variable i over the box B by the row of the band at a slot can be worked out, beside the outermost so far, z
pub record BandAsked (p : Plant) (v B : List ℤ) (i at : ℕ) (z : ℤ) : Type 0 where
  pub plant : Describes p v
  pub var : i < vars v
  pub sides : Sized (vars v) limit B
  pub slot : BandAt v at
  pub between : Between (neg_ℤ (cap v i)) (cap v i) z

-- r is the outer one of z and of that change in the band k at the slot, and where it says so it is the cap, beyond which nothing goes
pub record RowRated (up : Bool) (m : Machine) (B : List ℤ) (i at : ℕ) (z : ℤ) (r : Outermost) : Type 0 where
  pub same : (k : ℕ) → at ≡ band_slot k → r.change ≡ outer up z (change up (cap m.sheet i) (row_of m k i) (row_over up m B i k))
  pub limit : r.capped ≡ true → r.change ≡ neutral (not up) (cap m.sheet i)

-- ---- a rate over a box

-- the rate of variable i over the box B can be worked out: B is not empty, and the first edge is not above it
pub record RateAsked (p : Plant) (v B : List ℤ) (i : ℕ) : Type 0 where
  pub plant : Describes p v
  pub var : i < vars v
  pub sides : Sized (vars v) max_edge B

-- ---- the rates of a round

-- a box can be cut off at `reach` from a face of S
pub record NarrowAsked (S : List ℤ) (reach : ℤ) (i : ℕ) : Type 0 where
  pub room : i < N
  pub near : Bound reach neighborhood_limit
  pub start : (up : Bool) → Bound (side up S i) limit

-- the rates of a step of T ticks from the box S can be worked out with the working box E: S is not empty, E holds it, and the
-- first edge is not above it
pub record RatesAsked (p : Plant) (v S : List ℤ) (T : ℕ) (E : List ℤ) : Type 0 where
  pub plant : Describes p v
  pub ticks : T ≤ max_ticks
  pub start : Ordered (vars v) S
  pub holds : within (vars v) S E ≡ true
  pub work : Near (vars v) max_edge E
