-- "If a round is due and the count equals the allowance, the answer is spent" (document 01, "The decision"): what that says of the answers alone.
-- proofs/Spent.antt proves both claims.
use Rattle.std.specs.Prelude.{◌≡◌, Bool, true, false, List, ℕ, ◌<◌, ltb, ℤ, length, take, drop}
use Rattle.sheet_spec.specs.Sizes.{letters}
use Rattle.machine_spec.specs.declared.Law.{Law}
use Rattle.decision_spec.specs.Question.{command_at, allowance_refusal, allowance_of}
use Rattle.decision_spec.specs.Decision.{keep, finest, spent, Reply, refused, answered, rounds_of, decision_within, decision_of, decide}

unfoldable pub is_spent : Reply → Bool
is_spent (answered spent w c) = true
is_spent (answered keep w c) = false
is_spent (answered finest w c) = false
is_spent (refused r) = false

-- one question's reply with the allowance A, and its reply with a greater allowance or with none
pub record CutAt (A : ℕ) (reply more : Reply) : Type 0 where
  -- the first is spent exactly if the second counts more than A rounds
  pub exactly : is_spent reply ≡ ltb A (rounds_of more)
  -- if it is spent, its rounds are A
  pub rounds : is_spent reply ≡ true → rounds_of reply ≡ A
  -- if not, the second has the same verdict, width and rounds
  pub same : is_spent reply ≡ false → reply ≡ more

-- the decision on any values under any law, beside the same with no allowance and with every greater one
abbrev pub SpentOnValues : Type 0
SpentOnValues =
    (v B : List ℤ) (l : Law) (A : ℕ)
    → CutAt A (decision_of v B l A) (decision_within false 0 v B l)
    × ((A' : ℕ) → A < A' → CutAt A (decision_of v B l A) (decision_of v B l A'))

-- two questions that differ in nothing but the allowance, which stands between the mark and the command
pub record SameButAllowance (g g' : List ℕ) : Type 0 where
  pub size : length g ≡ length g'
  pub mark : take letters g ≡ take letters g'
  pub rest : drop command_at g ≡ drop command_at g'

-- the decision on any bytes, beside the same with every greater allowance that is not refused. If anything else is refused, both replies are that refusal
abbrev pub SpentOnBytes : Type 0
SpentOnBytes =
    (f g g' : List ℕ) → SameButAllowance g g' → allowance_of g < allowance_of g' → allowance_refusal g' ≡ 0
    → CutAt (allowance_of g) (decide f g) (decide f g')
