-- The order of the no-go boxes makes no difference (document 02, paper 2). By the definitions, and without the test of their order, the same
-- boxes in any order give the same recovery check and the same decisions. proofs/AnyOrder proves it.
use Rattle.std.specs.Prelude.{◌≡◌, List, ℕ, ℤ}
use Rattle.sheet_spec.specs.Valid.{ValidNumbers}
use Rattle.machine_spec.specs.declared.Law.{Law}
use Rattle.decision_spec.specs.Decision.{recovery_of, decision_of}
use Rattle.any_order.specs.Reordered.{Reordered}

-- the replies are equal: verdict, width and rounds
pub record SameReplies (v w : List ℤ) : Type 0 where
  pub recovery : recovery_of v ≡ recovery_of w
  -- for every measured box B, law and allowance
  pub decision : (B : List ℤ) (l : Law) (allowance : ℕ) → decision_of v B l allowance ≡ decision_of w B l allowance

-- this holds for any two values that are valid but for the order of their no-go boxes, and for every permutation of these
abbrev pub AnyOrder : Type 0
AnyOrder = (σ : ℕ → ℕ) (v w : List ℤ) → ValidNumbers v → ValidNumbers w → Reordered σ v w → SameReplies v w
