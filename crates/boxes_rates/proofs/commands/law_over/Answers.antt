-- `law_over` gives the sum of a law that follows the state, bounded over a box: the weighted sum and the law's constant. Assumes nothing.
use Rattle.std.proofs.Common.{rules, ◌≡◌, refl, ◌+◌, ◌*◌, ◌+ℤ◌, FitsSigned, w32}
use lib.Dec.{lit≤}
use mir.Facts.{to_z-of_z}
use Rattle.integers.specs.Bound.{Bound}
use Rattle.integers.proofs.Z.{from32, bound_of, bound_sum, bound_less, fits64}
use Rattle.sheet_spec.specs.Slots.{◌!◌, N, feedback_at}
use Rattle.machine_spec.specs.Rate.{weighted, law_over}
use Rattle.boxes_arithmetic.specs.Limits.{limit, word}
use Rattle.boxes_rates.specs.Limits.{row_limit}
use Rattle.boxes_rates.proofs.commands.law_over.Goals as goal

pub returns : goal.returns
unfolding law_over
returns c =
    let law = feedback_at c.args.sheet.now c.args.law in
    let read : FitsSigned w32 (c.args.sheet.now ! (c.args.law + N)) = search rules in
    let s = weighted c.args.up c.args.n law.a c.args.over.now in
    let sum_is : c.weighted.result ≡ s = c.weighted.ensures.value in
    let sum_bound : Bound s (N * (word * limit)) = rw sum_is at c.weighted.ensures.bound in
    let all_bound : Bound (s +ℤ law.c) row_limit = bound_less (bound_sum sum_bound (bound_of read)) (lit≤ tt) in
    simp (sum_is, to_z-of_z, fits64 sum_bound tt, from32 read, fits64 all_bound tt) (refl, all_bound)
