-- `record_at`: the r-th record. Assumes nothing.
use Rattle.std.proofs.Common.{◌≡◌, ◌+◌, ◌-◌, sym, ap, ◌∙◌, arith}
use Rattle.sheet_spec.specs.File.{record_at}
use Rattle.sheet_spec.proofs.Records.{head_at, band_at_lem, unsafe_at, beyond_at}
use Rattle.sheet_encoding.proofs.records.record_at.Goals as goal

pub returns-then-r-eq0 : goal.returns-then-r-eq0
returns-then-r-eq0 c = sym (ap (record_at c.args.shape) c.if-r-eq0.true ∙ head_at c.args.shape)

pub returns-then-k-shape : goal.returns-then-k-shape
returns-then-k-shape c =
    let s = c.args.shape in
    let e : c.args.r ≡ 1 + (c.args.r - 1) = omega arith in
    sym (ap (record_at s) e ∙ band_at_lem s _ c.if-k-shape.true)

pub returns-then-j-shape : goal.returns-then-j-shape
returns-then-j-shape c =
    let s = c.args.shape in
    let e : c.args.r ≡ 1 + (s.bands + (c.args.r - 1 - s.bands)) = omega arith in
    sym (ap (record_at s) e ∙ unsafe_at s _ c.if-j-shape.true)

pub returns : goal.returns
returns c =
    let s = c.args.shape in
    let e : c.args.r ≡ 1 + (s.bands + (c.args.r - 1 - s.bands)) = omega arith in
    sym (ap (record_at s) e ∙ beyond_at s _ c.if-j-shape.false)
