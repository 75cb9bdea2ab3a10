-- `bound` gives a row's N bounded over a box and over commands whose outer term is known: the weighted sum, the term and the row's
-- constant c. Assumes nothing.
use Rattle.std.proofs.Common.{rules, ◌≡◌, ap, ◌+◌, ◌*◌, ℤ, ◌+ℤ◌, FitsSigned, w32}
use lib.Dec.{lit≤}
use mir.Facts.{to_z-of_z}
use Rattle.integers.specs.Bound.{Bound}
use Rattle.integers.proofs.Z.{bound_sum, bound_less, fits64}
use Rattle.sheet_spec.specs.Slots.{◌!◌, N, row_at}
use Rattle.machine_spec.specs.Rate.{weighted, bound}
use Rattle.boxes_arithmetic.specs.Limits.{limit, word}
use Rattle.boxes_rates.specs.Limits.{row_limit}
use Rattle.boxes_rates.proofs.RowNumbers.{row_read, row_bound}
use Rattle.boxes_rates.proofs.row.bound.Goals as goal

pub returns : goal.returns
unfolding bound
returns c =
    let v = c.args.sheet.now in
    let row = row_at v c.args.row in
    let t = c.args.term in
    let read : FitsSigned w32 (v ! (c.args.row + (N + 1))) = search rules in
    let s = weighted c.args.up c.args.n row.a c.args.over.now in
    let sum_is : c.weighted-sum.result ≡ s = c.weighted-sum.ensures.value in
    let sum_bound : Bound s (N * (word * limit)) = rw sum_is at c.weighted-sum.ensures.bound in
    let both_bound = bound_sum sum_bound c.requires.1 in
    let all_bound : Bound (s +ℤ t +ℤ row.c) row_limit = bound_less (bound_sum both_bound (row_bound v c.args.row 1 read.sfits)) (lit≤ tt) in
    simp (sum_is, to_z-of_z, fits64 sum_bound tt, fits64 c.requires.1 tt, fits64 both_bound tt, row_read v c.args.row 1 read.sfits, fits64 all_bound tt)
    (record { same = λ u w e. ap (λ (z : ℤ). s +ℤ z +ℤ row.c) e; near = all_bound })
