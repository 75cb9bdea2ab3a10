-- `rates_of` writes the rates of all faces, as a box. Assumes nothing.
use Rattle.std.proofs.Common.{rules, arith, ◌≡◌, ◌∙◌, refl, ap, subst, true, false, List, ℤ, FitsSigned, w64}
use mir.Facts.{to_z-of_z}
use Rattle.sheet_spec.specs.Slots.{vars}
use Rattle.machine_spec.specs.Box.{box_of}
use Rattle.machine_spec.specs.Machine.{machine}
use Rattle.machine_spec.specs.Rate.{face_rate, rates}
use Rattle.machine_spec.proofs.Box.{sides_more}
use Rattle.boxes_rates.specs.Known.{Known}
use Rattle.boxes_rates.proofs.rate.rates_of.Goals as goal

pub loop-i-init : goal.loop-i-init
unfolding box_of
loop-i-init c = record { turns = omega arith; room = omega (arith, c.requires.rates_asked.0.plant.sheet.vars_high); work = refl; rated = refl; known = c.requires.known }

pub loop-i-preserved : goal.loop-i-preserved
loop-i-preserved c =
    let a = c.args in
    let inv = c.loop-i.invariant in
    let M = machine a.sheet.now a.plant.law in
    let lower = c.face_rate in
    let upper = c.face_rate-in-loop-i in
    let same_work : lower.new.work ≡ a.work.now = lower.ensures.work_unchanged ∙ inv.work in
    let lower_fits : FitsSigned w64 lower.result = search rules in
    let upper_fits : FitsSigned w64 upper.result = search rules in
    record {
      turns = omega (arith, c.requires.rates_asked.0.plant.n);
      room = inv.room;
      work = upper.ensures.work_unchanged ∙ same_work;
      rated =
          sides_more c.loop-i.i _ _ inv.rated
          (to_z-of_z lower_fits ∙ (lower.ensures.value ∙ ap (λ (F : List ℤ). face_rate false M a.start.now a.ticks F c.loop-i.i) inv.work))
          (to_z-of_z upper_fits ∙ (upper.ensures.value ∙ ap (λ (F : List ℤ). face_rate true M a.start.now a.ticks F c.loop-i.i) same_work));
      known = λ f. subst (λ (F : List ℤ). Known M F upper.new.ends) same_work (upper.ensures.known f);
    }

pub returns-clause-face_rates_after : goal.returns-clause-face_rates_after
unfolding rates
returns-clause-face_rates_after c =
    let inv = c.loop-i.invariant in
    let all : c.loop-i.i ≡ vars c.args.sheet.now = omega (arith, inv.turns, c.requires.rates_asked.0.plant.n) in
    rw all at inv.rated
