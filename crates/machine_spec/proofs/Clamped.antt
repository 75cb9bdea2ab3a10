-- The clamp by comparisons, for any y that is less than one off x / q, and so for the floor and the ceiling. Assumes nothing.
use mathlib.Core.Path.{◌≡◌, refl}
use Prim.Native.Nat.{ℕ, ◌<◌}
use lib.IntN.{ℤ, pos, negsuc}
use lib.Signed.{◌≤ℤ◌}
use Rattle.integers.specs.Order.{min_z}
use Rattle.integers.specs.Division.{floor_div, ceil_div}
use Rattle.integers.proofs.Z.{ints, min_is, max_is}
use Rattle.integers.proofs.Rounding.{Close, floor_close, ceil_close, close_most, close_least}
use Rattle.machine_spec.specs.Machine.{clamp_to, clamp}
use Rattle.machine_spec.specs.Clamped.{ByComparison, ClampedByComparison}
use Rattle.machine_spec.proofs.Everything.{everything}

-- ---- the clamp by where y lies

module _ (l h y : ℤ) (room : l ≤ℤ h) where
  top : h ≤ℤ y → clamp_to l h y ≡ h
  top g = omega (ints, max_is l (min_z y h), min_is y h)

  down : y ≤ℤ l → clamp_to l h y ≡ l
  down g = omega (ints, max_is l (min_z y h), min_is y h)

  as_it_is : l ≤ℤ y → y ≤ℤ h → clamp_to l h y ≡ y
  as_it_is g k = omega (ints, max_is l (min_z y h), min_is y h)

-- ---- by where x lies

by_comparison : (l h x y : ℤ) (q : ℕ) → l ≤ℤ h → 0 < q → Close x q y → ByComparison l h x (pos q) y
by_comparison l h x y q room positive near = record {
  low = λ g. down l h y room (close_most positive near l g);
  high = λ g. top l h y room (close_least positive near h g);
  between = λ g k. as_it_is l h y room (close_least positive near l (omega ints)) (close_most positive near h (omega ints));
}

pub clamped_by_comparison : ClampedByComparison
clamped_by_comparison l h x (negsuc b) room one = absurd one.le
clamped_by_comparison l h x (pos b) room one =
    let positive : 0 < b = omega ints in
    (by_comparison l h x (floor_div x b) b room positive (floor_close x b positive), by_comparison l h x (ceil_div x b) b room positive (ceil_close x b positive))

-- ---- computed, by 20 with the cap 5: at −100 and 100, and one beside them

both : ℤ → ℤ × ℤ
both x = (clamp (pos 5) (floor_div x 20), clamp (pos 5) (ceil_div x 20))

beyond : (both (negsuc 100) ≡ (negsuc 4, negsuc 4)) × (both (pos 101) ≡ (pos 5, pos 5))
unfolding everything both
beyond = (refl, refl)

reached : (both (negsuc 99) ≡ (negsuc 4, negsuc 4)) × (both (pos 100) ≡ (pos 5, pos 5))
unfolding everything both
reached = (refl, refl)

inside : (both (negsuc 98) ≡ (negsuc 4, negsuc 3)) × (both (pos 99) ≡ (pos 4, pos 5))
unfolding everything both
inside = (refl, refl)

-- to a range that is not that of a cap, by 4 to −2..7: at −8 and 28, and one beside them
ranged : ℤ → ℤ × ℤ
ranged x = (clamp_to (negsuc 1) (pos 7) (floor_div x 4), clamp_to (negsuc 1) (pos 7) (ceil_div x 4))

range_reached : (ranged (negsuc 7) ≡ (negsuc 1, negsuc 1)) × (ranged (pos 28) ≡ (pos 7, pos 7))
unfolding everything ranged
range_reached = (refl, refl)

range_inside : (ranged (negsuc 6) ≡ (negsuc 1, negsuc 0)) × (ranged (pos 27) ≡ (pos 6, pos 7))
unfolding everything ranged
range_inside = (refl, refl)
