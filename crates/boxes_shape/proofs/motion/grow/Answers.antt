-- `grow` tests whether the hull of the start box and of the start box moved lies in the working box, and makes the hull of both in the
-- working box. Assumes nothing.
use mir.Facts.{to_z-of_z}
use Rattle.std.proofs.Common.{◌≡◌, refl, sym, ap₂, ◌∙◌, Bool, true, false, ◌&&◌, List, ℕ, ◌+◌, ◌<◌, ℤ, rules, arith, w64, FitsSigned, to_z, of_z}
use Rattle.std.specs.Int.Signed.{le_z}
use Rattle.sheet_spec.specs.Slots.{N}
use Rattle.sheet_spec.specs.Box.{lo, hi, all}
use Rattle.sheet_spec.proofs.Box.{all_last, all_false}
use Rattle.machine_spec.specs.Box.{hull, moved, within}
use Rattle.machine_spec.specs.Rate.{outer}
use Rattle.machine_spec.proofs.Box.{swept_lo, swept_hi}
use Rattle.machine_spec.proofs.InPlace.{with_none, turn_lo, turn_hi, with_all}
use Rattle.boxes_shape.specs.Limits.{TookIn}
use Rattle.boxes_shape.proofs.Sides.{side_movable}
use Rattle.boxes_shape.proofs.Turn.{joined, joined_more}
use Rattle.boxes_shape.proofs.motion.grow.Goals as goal
use Rattle.boxes_shape.proofs.motion.grow.Goals.{then-inside, else-inside}

-- a turn: the sides of variable i are taken in. The box M is tested and joined to the working box F, which was E at first
module _ (M E : List ℤ) {F : List ℤ} {inside : Bool} {i : ℕ} (test : inside ≡ within i M E) (so_far : F ≡ joined i E M) (room : i < N) {low high : ℤ} (low_is : low ≡ lo M i) (high_is : high ≡ hi M i) {right : Bool} {G : List ℤ} (took : TookIn i low high F right G) where
  low_was : lo F i ≡ lo E i
  low_was = turn_lo _ _ i _ so_far room

  high_was : hi F i ≡ hi E i
  high_was = turn_hi _ _ i _ so_far

  right_is : right ≡ (le_z (lo E i) (lo M i) && le_z (hi M i) (hi E i))
  right_is = took.test ∙ ap₂ ◌&&◌ (ap₂ le_z low_was low_is) (ap₂ le_z high_is high_was)

  passed : inside ≡ true → within (i + 1) M E ≡ right
  unfolding within
  passed yes_so = all_last i _ (sym test ∙ yes_so) ∙ sym right_is

  failed : inside ≡ false → within (i + 1) M E ≡ false
  unfolding within
  failed not_so = all_false i _ (sym test ∙ not_so)

pub loop-i-init : goal.loop-i-init
unfolding within all
loop-i-init c = record { test = refl; joined = with_none _ _ _ }

pub swept_side-low-requires : goal.swept_side-low-requires
swept_side-low-requires c =
    let i = c.loop-i.i in
    let s : FitsSigned w64 (lo c.args.start.now i) = search rules in
    let r : FitsSigned w64 (lo c.args.rates.now i) = search rules in
    side_movable c.requires.0 false i (omega arith) (to_z-of_z s) (to_z-of_z r)

pub swept_side-high-requires : goal.swept_side-high-requires
swept_side-high-requires c =
    let i = c.loop-i.i in
    let s : FitsSigned w64 (hi c.args.start.now i) = search rules in
    let r : FitsSigned w64 (hi c.args.rates.now i) = search rules in
    side_movable c.requires.0 true i (omega arith) (to_z-of_z s) (to_z-of_z r)

pub loop-i-preserved : goal.loop-i-preserved
unfolding outer
loop-i-preserved c =
    let a = c.args in
    let A = a.start.now in
    let R = a.rates.now in
    let i = c.loop-i.i in
    let inv = c.loop-i.invariant in
    let M = hull a.n A (moved a.n A a.ticks R) in
    let more : i < a.n = omega arith in
    let room : i < N = omega arith in
    let low_side : FitsSigned w64 (lo A i) = search rules in
    let low_rate : FitsSigned w64 (lo R i) = search rules in
    let high_side : FitsSigned w64 (hi A i) = search rules in
    let high_rate : FitsSigned w64 (hi R i) = search rules in
    let low_fits : FitsSigned w64 c.swept_side-low.result = search rules in
    let high_fits : FitsSigned w64 c.swept_side-high.result = search rules in
    let low : to_z w64 (of_z w64 c.swept_side-low.result) ≡ lo M i =
    to_z-of_z low_fits ∙ ((simp (to_z-of_z, low_side, low_rate) at c.swept_side-low.ensures) ∙ sym (swept_lo a.n i c.requires.0.room more A a.ticks R)) in
    let high : to_z w64 (of_z w64 c.swept_side-high.result) ≡ hi M i =
    to_z-of_z high_fits ∙ ((simp (to_z-of_z, high_side, high_rate) at c.swept_side-high.ensures) ∙ sym (swept_hi a.n i c.requires.0.room more A a.ticks R)) in
    let took = c.take_in-right.ensures in
    record {
      test = elim c.if-inside.branch [
        | then-inside w ↦ w.inside-is ∙ sym (passed M a.work.now inv.test inv.joined room low high took w.if-inside.true)
        | else-inside w ↦ w.inside-is ∙ w.if-inside.false ∙ sym (failed M a.work.now inv.test inv.joined room low high took w.if-inside.false)
      ];
      joined = joined_more a.work.now M i room inv.joined low high took;
    }

pub returns-clause-value : goal.returns-clause-value
returns-clause-value c =
    let all : c.loop-i.i ≡ c.args.n = omega (arith, c.requires.0.room) in
    rw all at c.loop-i.invariant.test

pub returns-clause-work_after : goal.returns-clause-work_after
unfolding hull
returns-clause-work_after c =
    let all : c.loop-i.i ≡ c.args.n = omega (arith, c.requires.0.room) in
    (rw all at c.loop-i.invariant.joined) ∙ with_all _ _ c.args.n _ c.requires.0.room c.requires.1
