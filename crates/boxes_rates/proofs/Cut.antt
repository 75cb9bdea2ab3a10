-- The side that a face's neighborhood cuts can be put back. Assumes nothing.
use mathlib.Core.Path.{◌≡◌, refl, sym, ap, ◌∙◌}
use mathlib.Core.Bool.{Bool, true, false}
use mathlib.Core.List.{List, [], ◌∷◌}
use Prim.Native.Nat.{ℕ, zero, suc, ◌+◌, ◌<◌}
use native.Mathlib.Omega.{arith}
use lib.IntN.{ℤ}
use lib.ListN.{set}
use lib.Seq.{set-set}
use Rattle.sheet_spec.specs.Slots.{◌!◌, N, box_size}
use Rattle.machine_spec.specs.Rate.{neighborhood}
use Rattle.boxes_rates.specs.Plant.{cut_at}

pub cut_below : (up : Bool) (i : ℕ) → i < N → cut_at up i < box_size
unfolding cut_at
cut_below false i h = omega arith
cut_below true i h = omega arith

pub put_back : (l : List ℤ) (j : ℕ) (v : ℤ) → set (set l j v) j (l ! j) ≡ l
put_back [] j v = refl
put_back (x ∷ l) zero v = refl
put_back (x ∷ l) (suc j) v = ap (λ (k : List ℤ). x ∷ k) (put_back l j v)

-- what stands at a place is put there
pub set_own : (l : List ℤ) (j : ℕ) → set l j (l ! j) ≡ l
set_own l j = sym (set-set l j (l ! j) (l ! j)) ∙ put_back l j (l ! j)

cut_own : (up : Bool) (S : List ℤ) (reach : ℤ) (E : List ℤ) (i : ℕ) → set (neighborhood up S reach E i) (cut_at up i) (E ! cut_at up i) ≡ E
unfolding neighborhood cut_at
cut_own false S reach E i = put_back E (i + N) _
cut_own true S reach E i = put_back E i _

-- as the code does it: B is the neighborhood, j the place and v what was there
pub cut_back : (up : Bool) (S : List ℤ) (reach : ℤ) (E : List ℤ) (i : ℕ) {B : List ℤ} {j : ℕ} {v : ℤ} → B ≡ neighborhood up S reach E i → j ≡ cut_at up i → v ≡ E ! j → set B j v ≡ E
cut_back up S reach E i b e x = rw (b, x, e) (cut_own up S reach E i)

-- and if the side is where it was, nothing was cut
pub cut_none : (up : Bool) (S : List ℤ) (reach : ℤ) (E : List ℤ) (i : ℕ) {B : List ℤ} {j : ℕ} {v : ℤ} → B ≡ neighborhood up S reach E i → j ≡ cut_at up i → v ≡ E ! j → B ! j ≡ v → B ≡ E
cut_none up S reach E i {B} {j} b e x q = sym (set_own B j) ∙ (ap (λ (z : ℤ). set B j z) q ∙ cut_back up S reach E i b e x)
