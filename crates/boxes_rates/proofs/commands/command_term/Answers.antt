-- `command_term` gives the outer product of the row's b and the commands that the law offers over the box: those of the plain law, by the kind of
-- the bands, or those of a span. Assumes nothing.
use Rattle.std.proofs.Common.{rules, ◌≡◌, ◌∙◌, ap₂, sym, subst, Bool, true, false, ℕ, ◌+◌, List, ℤ, ◌*ℤ◌, FitsSigned, w32, w64}
use mir.Facts.{to_z-of_z}
use Rattle.integers.specs.Bound.{Bound}
use Rattle.integers.proofs.Z.{ints, bound_in, fits64}
use Rattle.sheet_spec.specs.Slots.{◌!◌, N, row_at, band_kind}
use Rattle.sheet_spec.specs.Valid.{ValidNumbers}
use Rattle.sheet_spec.specs.declared.BandKind.{BandKind}
use Rattle.sheet_spec.specs.declared.BandKind.TheVariants.{Fixed, Feedback}
use Rattle.machine_spec.specs.declared.Law.{Law}
use Rattle.machine_spec.specs.declared.Law.TheVariants.{Baseline}
use Rattle.machine_spec.specs.Machine.{machine}
use Rattle.machine_spec.specs.Accepted.{LawfulSpan, Lawful}
use Rattle.machine_spec.specs.Rate.{outer, offered_over}
use Rattle.boxes_arithmetic.specs.Limits.{word}
use Rattle.boxes_rates.specs.Limits.{BaselineTerm, CommandTerm}
use Rattle.boxes_rates.proofs.Chosen.{follows_yes, follows_no}
use Rattle.boxes_rates.proofs.Rates.{over_plain, over_span}
use Rattle.boxes_rates.proofs.commands.command_term.Goals as goal

module _ (up : Bool) (v : List ℤ) (l : Law) (row : ℕ) (B : List ℤ) where
  -- what the commands from x to y give is what those that the law offers do
  offered_term : {x y : ℤ} (k : ℕ) → x ≡ offered_over false (machine v l) k B → y ≡ offered_over true (machine v l) k B
      → outer up ((row_at v row).b *ℤ x) ((row_at v row).b *ℤ y) ≡ outer up ((row_at v row).b *ℤ offered_over false (machine v l) k B) ((row_at v row).b *ℤ offered_over true (machine v l) k B)
  offered_term k p q = ap₂ (λ (x y : ℤ). outer up ((row_at v row).b *ℤ x) ((row_at v row).b *ℤ y)) p q

  -- the plain law, by the kind of the bands
  plain_term : {b : BandKind} {at : ℕ} {t : ℤ} → l ≡ Baseline → band_kind v ≡ b → BaselineTerm b up v (row_at v row).b at B t → CommandTerm up (machine v l) (row_at v row) at B t
  plain_term plain e term = record {
    same = λ k p. term.same k p ∙ offered_term k (sym (over_plain false v k B plain e)) (sym (over_plain true v k B plain e));
    near = term.near;
  }

-- the ends of a lawful span
low_near : {v : List ℤ} {l h : ℤ} → ValidNumbers v → LawfulSpan v l h → Bound l word
low_near wf allowed = bound_in (omega (ints, wf.commands_low, allowed.low)) (omega (ints, allowed.order, allowed.high, wf.commands_high))

high_near : {v : List ℤ} {l h : ℤ} → ValidNumbers v → LawfulSpan v l h → Bound h word
high_near wf allowed = bound_in (omega (ints, wf.commands_low, allowed.low, allowed.order)) (omega (ints, allowed.high, wf.commands_high))

-- the law follows the state
pub feedback_term-requires : goal.feedback_term-requires
feedback_term-requires c =
    let asked = c.requires.commands_asked.0 in
    let chosen = c.requires.commands_asked.1 in
    let cases = follows_yes _ _ (sym chosen.law_is ∙ c.if-follows.true) in
    (record { sheet = asked.plant.sheet; kind = sym asked.plant.kind ∙ cases.1; n_is = chosen.n_is; sides = asked.sides; slot = asked.slot }, c.requires.known_asked)

pub returns-then-follows-clause-command_term : goal.returns-then-follows-clause-command_term
returns-then-follows-clause-command_term c =
    let asked = c.requires.commands_asked.0 in
    let chosen = c.requires.commands_asked.1 in
    let cases = follows_yes _ _ (sym chosen.law_is ∙ c.if-follows.true) in
    let b = (row_at c.args.sheet.now c.args.row).b in
    let read : FitsSigned w32 (c.args.sheet.now ! (c.args.row + N)) = search rules in
    let term : BaselineTerm Feedback c.args.up c.args.sheet.now b c.args.band c.args.over.now c.feedback_term.result =
    simp (to_z-of_z, read) at c.feedback_term.ensures.baseline_term in
    rw (to_z-of_z (fits64 term.near tt)) (plain_term c.args.up c.args.sheet.now c.args.plant.law c.args.row c.args.over.now cases.0 (sym asked.plant.kind ∙ cases.1) term)

-- the plain law of bands without one
pub returns-in-Baseline-clause-command_term : goal.returns-in-Baseline-clause-command_term
returns-in-Baseline-clause-command_term c =
    let asked = c.requires.commands_asked.0 in
    let chosen = c.requires.commands_asked.1 in
    let plain = c.in-Baseline.is in
    let b = (row_at c.args.sheet.now c.args.row).b in
    let read : FitsSigned w32 (c.args.sheet.now ! (c.args.row + N)) = search rules in
    let term : BaselineTerm Fixed c.args.up c.args.sheet.now b c.args.band c.args.over.now c.safety_term.result =
    simp (to_z-of_z, read) at (c.safety_term.ensures c.args.over.now) in
    rw (to_z-of_z (fits64 term.near tt))
    (plain_term c.args.up c.args.sheet.now c.args.plant.law c.args.row c.args.over.now plain
    (sym asked.plant.kind ∙ follows_no _ _ (sym chosen.law_is ∙ c.if-follows.false) plain) term)

-- a span
pub returns-in-Span-clause-command_term : goal.returns-in-Span-clause-command_term
returns-in-Span-clause-command_term c =
    let asked = c.requires.commands_asked.0 in
    let v = c.args.sheet.now in
    let B = c.args.over.now in
    let low = c.in-Span.least in
    let high = c.in-Span.greatest in
    let b = (row_at v c.args.row).b in
    let read : FitsSigned w32 (v ! (c.args.row + N)) = search rules in
    let allowed : LawfulSpan v low high = subst (Lawful v) c.in-Span.is asked.plant.law in
    let low_fits : FitsSigned w64 low = fits64 (low_near asked.plant.sheet allowed) tt in
    let high_fits : FitsSigned w64 high = fits64 (high_near asked.plant.sheet allowed) tt in
    let near = c.span_term.ensures.1 in
    let term_is : c.span_term.result ≡ outer c.args.up (b *ℤ low) (b *ℤ high) =
    c.span_term.ensures.0 ∙ simp (to_z-of_z, read, low_fits, high_fits) in
    rw (to_z-of_z (fits64 near tt))
    (record {
      same = λ i p. term_is ∙ offered_term c.args.up v c.args.plant.law c.args.row B i (sym (over_span false v i B c.in-Span.is)) (sym (over_span true v i B c.in-Span.is));
      near = near;
    })
