-- `weighted` gives the sum of a row's or a law's terms over a box. Assumes nothing.
use Rattle.std.proofs.Common.{rules, arith, ◌≡◌, ◌∙◌, refl, Bool, true, false, ℕ, ◌+◌, ◌*◌, ◌<◌, List, ℤ, pos, ◌+ℤ◌, ◌*ℤ◌, FitsSigned, w32, w64}
use mir.Facts.{to_z-of_z}
use Rattle.integers.specs.Bound.{Bound}
use Rattle.integers.proofs.Z.{bound_of, bound_sum, bound_mul, bound_less, bound_lit, fits64, fits_by}
use Rattle.sheet_spec.specs.Slots.{◌!◌}
use Rattle.sheet_spec.specs.Box.{lo, hi}
use Rattle.machine_spec.specs.Box.{sum, Sized}
use Rattle.machine_spec.specs.Rate.{outer, weighted}
use Rattle.machine_spec.proofs.Box.{sum_more}
use Rattle.machine_spec.proofs.Face.{outer_one}
use Rattle.boxes_arithmetic.specs.Limits.{limit, word}
use Rattle.boxes_rates.proofs.row.weighted.Goals as goal

pub loop-j-init : goal.loop-j-init
unfolding weighted sum
loop-j-init c = record { same = refl; near = bound_lit (pos 0) }

-- the term of variable j, and the sum with it
module _ (up : Bool) {a : ℤ} (fits : FitsSigned w32 a) {n j : ℕ} {B : List ℤ} (sides : Sized n limit B) (more : j < n) where
  term_bound : Bound (outer up (a *ℤ lo B j) (a *ℤ hi B j)) (word * limit)
  term_bound =
      outer_one (λ z. Bound z (word * limit)) up
      (bound_mul (bound_of fits) (sides.near.at false j more)) (bound_mul (bound_of fits) (sides.near.at true j more))

  term_fits : FitsSigned w64 (outer up (a *ℤ lo B j) (a *ℤ hi B j))
  term_fits = fits64 term_bound tt

  sum_bound : {s : ℤ} → Bound s (j * (word * limit)) → Bound (s +ℤ outer up (a *ℤ lo B j) (a *ℤ hi B j)) ((j + 1) * (word * limit))
  sum_bound near = bound_less (bound_sum near term_bound) (omega arith)

pub overflow_add-sum : goal.overflow_add-sum
overflow_add-sum c =
    let x = c.args.sheet.now ! (c.args.row + c.loop-j.j) in
    let a : FitsSigned w32 x = search rules in
    let more : c.loop-j.j < c.args.n = omega arith in
    let term_is : c.term-sum.result ≡ outer c.args.up (x *ℤ lo c.args.over.now c.loop-j.j) (x *ℤ hi c.args.over.now c.loop-j.j) = c.term-sum.ensures ∙ simp (to_z-of_z, a) in
    simp (c.loop-j.invariant.same, term_is, to_z-of_z, term_fits c.args.up a c.requires.sides more)
    (fits_by (sum_bound c.args.up a c.requires.sides more c.loop-j.invariant.near) (omega arith))

pub loop-j-preserved : goal.loop-j-preserved
unfolding weighted
loop-j-preserved c =
    let x = c.args.sheet.now ! (c.args.row + c.loop-j.j) in
    let a : FitsSigned w32 x = search rules in
    let more : c.loop-j.j < c.args.n = omega arith in
    let term_is : c.term-sum.result ≡ outer c.args.up (x *ℤ lo c.args.over.now c.loop-j.j) (x *ℤ hi c.args.over.now c.loop-j.j) = c.term-sum.ensures ∙ simp (to_z-of_z, a) in
    let bound = sum_bound c.args.up a c.requires.sides more c.loop-j.invariant.near in
    record {
      same = simp (c.loop-j.invariant.same, term_is, to_z-of_z, term_fits c.args.up a c.requires.sides more, fits_by {w = w64} bound (omega arith), sum_more);
      near = rw sum_more bound;
    }

pub returns-clause-value : goal.returns-clause-value
returns-clause-value c =
    let all : c.loop-j.j ≡ c.args.n = omega arith in
    rw all at c.loop-j.invariant.same

pub returns-clause-bound : goal.returns-clause-bound
returns-clause-bound c =
    let inv = c.loop-j.invariant in
    bound_less {B = c.loop-j.j * (word * limit)} (rw inv.same inv.near) (omega arith)
