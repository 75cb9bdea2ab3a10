-- `marked`: two bytes of a file beside a record's letters. Assumes nothing.
use Rattle.std.proofs.Common.{◌≡◌, ◌∙◌, ◌+◌, ◌-◌, ap, ap₂, take, drop, ℕ, arith}
use Rattle.integers.proofs.Bytes.{two}
use Rattle.sheet_spec.specs.File.{marked}
use Rattle.sheet_encoding.proofs.marks.marked.Goals as goal
use Rattle.std.proofs.Math.Bool.{and-true}
use lib.Pointwise.{pointwise}
use lib.Dec.{eqb}

pub returns : goal.returns
unfolding marked
returns c =
    let f = c.args.f.now in
    let at = c.args.at in
    let size : at + 2 - at ≡ 2 = omega arith in
    c.eq.ensures ∙ ap₂ (pointwise eqb) (ap (λ (k : ℕ). take k (drop at f)) size ∙ two f at c.requires) (c.as_slice.ensures ∙ c.mark_of.ensures) ∙ simp and-true
