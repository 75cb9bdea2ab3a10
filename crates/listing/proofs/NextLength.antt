-- How many bytes the next question takes on any file as sheet, where g are the bytes still to come. Assumes nothing.
use mathlib.Core.Path.{◌≡◌, refl}
use mathlib.Core.Bool.{Bool, true, false}
use mathlib.Core.List.{List, ◌∷◌}
use Prim.Native.Nat.{ℕ, ◌≤◌, ◌<◌}
use native.Mathlib.Omega.{arith}
use lib.ListN.{take, length-take}
use Rattle.sheet_spec.specs.Slots.{vars}
use Rattle.sheet_spec.specs.Sheet.{values}
use Rattle.decision_spec.specs.Question.{kind_of, known, next_length}
use Rattle.decision_spec.proofs.Marks.{greatest_to, kind_part, next_own, next_all}
use Rattle.listing.specs.Limits.{longest_question}
use Rattle.listing.proofs.Vars.{vars_in_range}

-- at least one, if there are any
pub next_some : (n x : ℕ) (g : List ℕ) → 0 < next_length n (x ∷ g)
next_some n x g = by (known (kind_of (x ∷ g))) refl
  where
    by : (t : Bool) → known (kind_of (x ∷ g)) ≡ t → 0 < next_length n (x ∷ g)
    by true e = omega (arith, next_own n (x ∷ g) e)
    by false e = omega (arith, next_all n (x ∷ g) e)

-- a question
module _ (f g : List ℕ) (e : known (kind_of g) ≡ true) where
  pub next_most : next_length (vars (values f)) g ≤ longest_question
  next_most = omega (arith, next_own (vars (values f)) g e, greatest_to (kind_of g), (vars_in_range f).high)

  -- as many on a part that has room for the longest one
  pub next_part : (held : ℕ) → longest_question ≤ held → next_length (vars (values f)) (take held g) ≡ next_length (vars (values f)) g
  unfolding next_length
  next_part held l = rw (kind_part g held (omega arith), e, length-take) (omega (arith, greatest_to (kind_of g), (vars_in_range f).high))
