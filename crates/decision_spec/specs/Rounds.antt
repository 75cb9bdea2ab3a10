-- How many rounds an answer takes at most, for all bytes f as sheet and g as question. proofs/Rounds proves these statements.
use Rattle.std.specs.Prelude.{◌≡◌, List, ℕ, ◌≤◌}
use Rattle.decision_spec.specs.Question.{allowance_of}
use Rattle.decision_spec.specs.Decision.{spent, answered, check_recovery, decide, rounds_of}

-- 730,000 rounds are always enough: with this allowance or a greater one no decision is spent
abbrev pub EnoughRounds : Type 0
EnoughRounds = (f g : List ℕ) → 730000 ≤ allowance_of g → (w c : ℕ) → decide f g ≡ answered spent w c → ⊥

-- a decision takes no more rounds than its question allows, and never more than 370,000
abbrev pub FewRounds : Type 0
FewRounds = (f g : List ℕ) → (rounds_of (decide f g) ≤ allowance_of g) × (rounds_of (decide f g) ≤ 370000)

-- a recovery check, which has no allowance, is never spent, and never takes more than 370,000
abbrev pub FewRecoveryRounds : Type 0
FewRecoveryRounds = (f : List ℕ) → ((w c : ℕ) → check_recovery f ≡ answered spent w c → ⊥) × (rounds_of (check_recovery f) ≤ 370000)
