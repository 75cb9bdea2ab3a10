-- The order of no-go boxes (document 02, paper 2). All of it computes.
use Rattle.std.specs.Prelude.{Bool, cond, List, ℕ, zero, suc, ℤ}
use Rattle.std.specs.Int.Signed.{lt_z}
use Rattle.std.specs.Ordering.{ordering_then, is_lt}
use Rattle.std.specs.declared.cmp.Ordering.{Ordering}
use Rattle.std.specs.declared.cmp.Ordering.TheVariants.{Less, Equal, Greater}
use Rattle.sheet_spec.specs.Slots.{unsafe_box}
use Rattle.sheet_spec.specs.Box.{lo, hi}

-- two numbers, as `cmp` compares them
unfoldable pub compare : ℤ → ℤ → Ordering
compare a b = cond (lt_z a b) Less (cond (lt_z b a) Greater Equal)

-- two boxes of n variables: by first lower side, first upper side, second lower side and so on
unfoldable pub compare_boxes : ℕ → List ℤ → List ℤ → Ordering
compare_boxes zero A B = Equal
compare_boxes (suc n) A B = ordering_then (compare_boxes n A B) (ordering_then (compare (lo A n) (lo B n)) (compare (hi A n) (hi B n)))

-- A comes before B, and is not equal to it
unfoldable pub precedes : ℕ → List ℤ → List ℤ → Bool
precedes n A B = is_lt (compare_boxes n A B)

-- no-go box j of the sheet v comes before the next one
unfoldable pub ascends_at : ℕ → List ℤ → ℕ → Bool
ascends_at n v j = precedes n (unsafe_box v j) (unsafe_box v (suc j))
