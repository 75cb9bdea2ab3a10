-- What an accepted sheet says of its machine, in the form in which the laws use it; and a loop over its variables. Assumes nothing.
use mathlib.Core.Path.{◌≡◌}
use mathlib.Core.Bool.{false}
use mathlib.Core.List.{List}
use Prim.Native.Nat.{ℕ, suc, ◌≤◌, ◌<◌}
use native.Mathlib.Omega.{arith}
use borrow.Author.Tests.{le-leb}
use lib.Dec.{leb}
use lib.IntN.{ℤ, pos, negsuc, nat_abs}
use lib.Signed.{◌≤ℤ◌}
use Rattle.integers.specs.Bound.{Bound}
use Rattle.integers.proofs.Z.{ints, bound_in}
use Rattle.sheet_spec.specs.Limits.{max_cap}
use Rattle.sheet_spec.specs.Slots.{N, vars, bands, cap, band_kind, feedback, row}
use Rattle.sheet_spec.specs.Valid.{ValidNumbers}
use Rattle.sheet_spec.specs.declared.BandKind.TheVariants.{Feedback}
use Rattle.sheet_spec.proofs.Box.{differ}

positive : (q : ℤ) → pos 1 ≤ℤ q → 0 < nat_abs q
positive (pos n) h = omega ints
positive (negsuc n) h = absurd h.le

module _ {v : List ℤ} (wf : ValidNumbers v) where
  -- there is room for the variables
  pub room : vars v ≤ N
  room = omega (arith, wf.vars_high)

  pub cap_low : (i : ℕ) → i < vars v → pos 0 ≤ℤ cap v i
  cap_low i h = omega (ints, (wf.caps i h).low)

  pub cap_near : (i : ℕ) → i < vars v → Bound (cap v i) max_cap
  cap_near i h = bound_in (omega (ints, (wf.caps i h).low)) (wf.caps i h).high

  pub divisor : (k i : ℕ) → k < bands v → i < vars v → 0 < nat_abs (row v k i).q
  divisor k i h g = positive (row v k i).q (wf.rows k i h g).q.low

  pub law_divisor : band_kind v ≡ Feedback → (k : ℕ) → k < bands v → 0 < nat_abs (feedback v k).q
  law_divisor e k h = positive (feedback v k).q (wf.laws e k h).q.low

-- a variable that is left, where a loop has taken as many turns as there is room for: there is none
pub none_past_room : {n i : ℕ} → n ≤ N → i < n → leb (suc i) N ≡ false → ⊥
none_past_room {i} room more past = differ (le-leb (suc i) N (omega (arith, room, more))) past
