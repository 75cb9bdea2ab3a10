-- `kind_of`: by the mark of the first band, if the file reaches it. Assumes nothing.
use Rattle.std.proofs.Common.{◌≡◌, ℕ, ◌+◌, ◌<◌, Bool, true, false, ◌&&◌, eqb, List, length, get_or, refl, sym, ap, ◌∙◌, arith}
use lib.ListN.{get_or-eq_default}
use Rattle.sheet_spec.specs.declared.BandKind.TheVariants.{Feedback, Fixed}
use Rattle.sheet_spec.specs.declared.Record.TheVariants.{Band}
use Rattle.sheet_spec.specs.Sizes.{cap_bytes, caps_at, letters}
use Rattle.sheet_spec.specs.File.{marked}
use Rattle.sheet_spec.specs.Sheet.{kind_of}
use Rattle.sheet_spec.proofs.BandKinds.{kind_by_mark}
use Rattle.sheet_encoding.proofs.ReaderAnswer.{vars_read}
use Rattle.sheet_reader.proofs.kind_of.Goals as goal
use Rattle.sheet_reader.proofs.kind_of.Goals.{else-at-f-via-then-at-f+else-marked, else-at-f-via-else-at-f}

never : (t : Bool) → t && false ≡ false
never true = refl
never false = refl

-- beyond the file's end there is no mark
short : (f : List ℕ) (at : ℕ) → length f < at + letters → marked f at (Band Feedback 0) ≡ false
unfolding marked
short f at l =
    let z : get_or f (at + 1) 0 ≡ 0 = get_or-eq_default f 0 {n = at + 1} (omega arith) in
    ap (λ (y : ℕ). eqb (get_or f at 0) 66 && eqb y 70) z ∙ never (eqb (get_or f at 0) 66)

unmarked : (f : List ℕ) (n : ℕ) → marked f (caps_at + cap_bytes n) (Band Feedback 0) ≡ false → Fixed ≡ kind_of f n
unfolding kind_of
unmarked f n e = rw (kind_of, e) refl

pub returns-then-marked : goal.returns-then-marked
returns-then-marked c =
    let f = c.args.f.now in
    sym (kind_by_mark f _ Feedback 0 (sym c.marked.ensures ∙ c.if-marked.true)) ∙ ap (kind_of f) (c.from.ensures ∙ sym (vars_read f c.requires))

pub returns-else-at-f : goal.returns-else-at-f
returns-else-at-f c =
    let f = c.args.f.now in
    let none : marked f (caps_at + cap_bytes c.from.result) (Band Feedback 0) ≡ false =
    elim c.else-at-f.branch [ else-at-f-via-then-at-f+else-marked w ↦ sym w.marked.ensures ∙ w.if-marked.false | else-at-f-via-else-at-f w ↦ short _ _ w.if-at-f.false ] in
    unmarked f _ none ∙ ap (kind_of f) (c.from.ensures ∙ sym (vars_read f c.requires))
