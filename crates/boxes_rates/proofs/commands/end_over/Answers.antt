-- `end_over` gives an end of the commands of a plain law that follows the state: the one that is known, if there is one, and otherwise the one that
-- it works out and notes. Assumes nothing.
use Rattle.std.proofs.Common.{rules, arith, ◌≡◌, ◌∙◌, ap, sym, subst, cond, ℕ, ◌<◌, set, ℤ, pos, ◌<ℤ◌, FitsSigned, w64, to_z, of_z}
use mir.Facts.{to_z-of_z}
use Rattle.integers.specs.Bound.{Bound}
use Rattle.integers.proofs.Z.{lt_true, fits64}
use Rattle.sheet_spec.specs.Limits.{max_bands}
use Rattle.sheet_spec.specs.Slots.{◌!◌, bands}
use Rattle.sheet_spec.specs.declared.BandKind.TheVariants.{Feedback}
use Rattle.boxes_arithmetic.specs.Limits.{word}
use Rattle.boxes_rates.specs.Limits.{end_over}
use Rattle.boxes_rates.specs.Known.{Noted, end_place, unknown}
use Rattle.boxes_rates.proofs.Ends.{band_among, end_near}
use Rattle.boxes_rates.proofs.Known.{noted_end}
use Rattle.boxes_rates.proofs.commands.end_over.Goals as goal

-- the known end
pub returns-then-known-lt-UNKNOWN-clause-feedback_end : goal.returns-then-known-lt-UNKNOWN-clause-feedback_end
returns-then-known-lt-UNKNOWN-clause-feedback_end c =
    let up = c.args.greatest in
    let v = c.args.sheet.now in
    let k = c.args.k in
    let B = c.args.over.now in
    let ends = c.args.ends.now in
    let asked = c.requires.0 in
    let known = c.requires.1 in
    let place_is = c.end_place-place.ensures in
    let read : FitsSigned w64 (ends ! c.end_place-place.result) = search rules in
    let low : (ends ! end_place up k) <ℤ pos unknown =
    subst (λ (j : ℕ). (ends ! j) <ℤ pos unknown) place_is (lt_true _ _ (simp (to_z-of_z, read) at c.if-known-lt-UNKNOWN.true)) in
    let is_end : (ends ! c.end_place-place.result) ≡ end_over Feedback up v k B =
    ap (λ (j : ℕ). ends ! j) place_is ∙ (known.known c.if-shared.true).right up low in
    rw (to_z-of_z read) (record {
      same = λ j p. is_end ∙ ap (λ (i : ℕ). end_over Feedback up v i B) (omega (arith, p, known.place));
      near = subst (λ (z : ℤ). Bound z word) (sym is_end) (end_near asked.sheet up k (band_among asked.sheet asked.slot k known.place) B);
    })

-- the end that is worked out
pub returns-clause-noted : goal.returns-clause-noted
returns-clause-noted c =
    let up = c.args.greatest in
    let v = c.args.sheet.now in
    let k = c.args.k in
    let B = c.args.over.now in
    let ends = c.args.ends.now in
    let shared = c.args.shared in
    let asked = c.requires.0 in
    let known = c.requires.1 in
    let among : k < bands v = band_among asked.sheet asked.slot k known.place in
    let below : k < max_bands = omega (arith, among, asked.sheet.bands_high) in
    let z = c.feedback_end-command.result in
    let end = c.feedback_end-command.ensures in
    let fits : FitsSigned w64 z = fits64 end.near tt in
    let left = c.note.ensures
    ∙ ap (λ (j : ℕ). cond shared (set ends j (to_z w64 (of_z w64 z))) ends) c.end_place-place.ensures
    ∙ ap (λ (y : ℤ). cond shared (set ends (end_place up k) y) ends) (to_z-of_z fits) in
    subst (Noted shared v k B ends) (sym left) (noted_end below shared known up (end.same k known.place))
