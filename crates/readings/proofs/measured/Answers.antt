-- `measured`: one more reading passes and has its sides in the box, or its refusal is the first. Assumes nothing.
use Rattle.std.proofs.Common.{rules, ◌≡◌, ℕ, ◌+◌, ◌<◌, min, List, take, get_or, length, refl, ◌∙◌, subst, arith, w64, FitsSigned}
use Rattle.std.specs.declared.result.Result.{Result}
use Rattle.std.specs.declared.result.Result.TheVariants.{Ok, Err}
use Rattle.std.proofs.lemmas.List.{length-take, get_or-take, get_or_default}
use Rattle.std.proofs.lemmas.Result.{err_from_is_err_and}
use mir.Facts.{to_z-of_z}
use Rattle.sheet_spec.specs.Slots.{N}
use Rattle.sheet_spec.specs.Refusals.{first_refusal, refusal_number}
use Rattle.sheet_spec.specs.declared.refusals.Refusal.{Refusal}
use Rattle.sheet_spec.proofs.Laws.{first_next, first_keep}
use Rattle.machine_spec.specs.Box.{box_of}
use Rattle.machine_spec.proofs.Box.{sides_more}
use Rattle.readings_spec.specs.declared.Reading.{Reading}
use Rattle.readings_spec.specs.declared.Reading.TheVariants.{Missing}
use Rattle.readings_spec.specs.Reading.{reading_refusal, reading_at, readings_refusal, readings_box}
use Rattle.readings.specs.declared.Sides.{Sides}
use Rattle.readings.specs.Sides.{SidesOf}
use Rattle.readings.proofs.measured.Goals as goal

-- of the reading at i of the first n, whatever a place beyond the end would have
own : (n : ℕ) (rs : List Reading) (i : ℕ) (d : Reading) {r a : Result Sides Refusal} → i < length (take n rs) → SidesOf (get_or (take n rs) i d) r → r ≡ a → SidesOf (reading_at rs i) a
own n rs i d {r = r} {a = a} h of e =
    let size : length (take n rs) ≡ min n (length rs) = length-take n rs in
    let within : i < length rs = omega arith in
    subst (λ (x : Reading). SidesOf x a) (get_or-take n rs i d (omega arith) ∙ get_or_default rs i d Missing within)
    (subst (λ (s : Result Sides Refusal). SidesOf (get_or (take n rs) i d) s) e of)

not_zero : (k : Refusal) → refusal_number k ≡ 0 → ⊥
not_zero k e = grind arith

pub loop-i-init : goal.loop-i-init
unfolding readings_refusal first_refusal readings_box box_of
loop-i-init c = record { passed = refl; box = refl }

pub returns-in_err-sides : goal.returns-in_err-sides
unfolding readings_refusal
returns-in_err-sides c =
    let rs = c.args.readings in
    let i = c.loop-i.i in
    let size : length rs ≡ N = search rules in
    let p = err_from_is_err_and c.from_residual.result c.from_residual.ensures.1 in
    let k = c.in_err-sides.field-0.0 in
    let of : SidesOf (reading_at rs i) (Err k) = own c.count.result rs i _ c.loop-i-test.true c.sides_of.ensures c.in_err-sides.was in
    rw (p.1, p.2)
    (record {
      refusal =
          first_keep (λ j. reading_refusal (reading_at rs j)) (i + 1) c.args.n (refusal_number k) (omega (arith, length-take c.count.result rs, c.count.ensures.0)) (not_zero k)
          (first_next (λ j. reading_refusal (reading_at rs j)) i (refusal_number k) c.loop-i.invariant.passed of.refusal);
      measured = tt;
    })

pub loop-i-preserved : goal.loop-i-preserved
unfolding readings_refusal readings_box
loop-i-preserved c =
    let rs = c.args.readings in
    let i = c.loop-i.i in
    let s = c.in_ok-sides.sides in
    let size : length rs ≡ N = search rules in
    let lower_fits : FitsSigned w64 s.lower = search rules in
    let upper_fits : FitsSigned w64 s.upper = search rules in
    let of : SidesOf (reading_at rs i) (Ok s) = own c.count.result rs i _ c.loop-i-test.true c.sides_of.ensures c.in_ok-sides.was in
    record {
      passed = first_next (λ j. reading_refusal (reading_at rs j)) i 0 c.loop-i.invariant.passed of.refusal;
      box = sides_more i _ _ c.loop-i.invariant.box (to_z-of_z lower_fits ∙ of.lower) (to_z-of_z upper_fits ∙ of.upper);
    }
