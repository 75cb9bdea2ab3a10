-- `product` gives a coefficient times a command, which 64 bits have room for. Assumes nothing.
use Rattle.std.proofs.Common.{◌*ℤ◌, refl}
use mir.Facts.{to_z-of_z}
use Rattle.integers.specs.Bound.{Bound}
use Rattle.integers.proofs.Z.{up32, bound_of, bound_mul, fits64}
use Rattle.boxes_rates.specs.Limits.{term_limit}
use Rattle.boxes_rates.proofs.row.product.Goals as goal

pub returns : goal.returns
returns c =
    let fits = c.ranges in
    let near : Bound (c.args.coefficient *ℤ c.args.command) term_limit = bound_mul (bound_of fits.coefficient) c.requires in
    simp (to_z-of_z, fits.coefficient, fits.command, up32 fits.coefficient, fits64 near tt) (refl, near)
