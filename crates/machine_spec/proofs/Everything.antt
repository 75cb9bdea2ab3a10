-- One name that opens every definition of this crate, where an example is computed. Assumes nothing.
use Prim.Native.Nat.{ℕ}
use Rattle.integers.specs.Order.{min_z, max_z}
use Rattle.integers.specs.Division.{floor_div, ceil_div}
use Rattle.sheet_spec.specs.Box.{all, any, meets}
use Rattle.machine_spec.specs.Box.{sum, box_of, trim, hull, within, moved}
use Rattle.machine_spec.specs.Machine.{outward_div, band_meets, law_sum, baseline_end, offered_at, clamp, numerator, change}
use Rattle.machine_spec.specs.Rate.{outer, outermost, weighted, law_over, bound, cut_to_band, part, offered_over, neutral, band_rate, rate, neighborhood, face_rate, rates}

unfoldable pub everything : ℕ
unfolding min_z max_z floor_div ceil_div sum all any box_of trim hull within meets moved outward_div band_meets law_sum baseline_end offered_at clamp numerator change outer outermost weighted law_over bound cut_to_band part offered_over neutral band_rate rate neighborhood face_rate rates
everything = 0
