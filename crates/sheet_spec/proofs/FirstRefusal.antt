-- A refusal or going on, and the first refusal of a list of tests, as the code comes to them: `found` is the code's refusal, r the
-- definition's. Assumes nothing.
use mathlib.Core.Path.{◌≡◌, refl, sym, ap, ◌∙◌}
use mathlib.Core.List.{List, [], ◌∷◌, ◌++◌}
use Prim.Native.Nat.{ℕ, ◌≤◌}
use native.Mathlib.Omega.{arith}
use Rattle.sheet_spec.specs.Refusals.{greatest_number, unless_refused, first_of}
use Rattle.sheet_spec.proofs.Laws.{goes_on, stops, either_none, none_either, either_most}

-- ---- a refusal, or going on

module _ {A : Type 0} (refuse : ℕ → A) (go : A) {r found : ℕ} (is : found ≡ r) where
  pub found_stops : (found ≡ 0 → ⊥) → refuse found ≡ unless_refused r refuse go
  found_stops some = ap refuse is ∙ sym (stops refuse go (λ none. some (is ∙ none)))

  pub found_none : found ≡ 0 → go ≡ unless_refused r refuse go
  found_none none = sym (goes_on refuse go (sym is ∙ none))

-- ---- a list of tests

-- all of them passed
abbrev pub AllPass : List ℕ → Type 0
AllPass [] = Unit {0}
AllPass (r ∷ rs) = (r ≡ 0) × AllPass rs

pub all_pass : (rs : List ℕ) → first_of rs ≡ 0 → AllPass rs
unfolding first_of
all_pass [] none = tt
all_pass (r ∷ rs) none = let both = none_either r (first_of rs) none in (both.0, all_pass rs both.1)

-- where the tests before passed, those after decide
pub after_passed : (before after : List ℕ) → AllPass before → first_of after ≡ first_of (before ++ after)
unfolding first_of
after_passed [] after passed = refl
after_passed (b ∷ before) after passed = after_passed before after passed.1 ∙ found_none (λ c. c) _ refl passed.0

module _ {r found : ℕ} (is : found ≡ r) where
  -- the first that fails is the refusal
  pub first_fails : (before after : List ℕ) → AllPass before → (found ≡ 0 → ⊥) → found ≡ first_of (before ++ (r ∷ after))
  unfolding first_of
  first_fails before after passed some = found_stops (λ c. c) (first_of after) is some ∙ after_passed before (r ∷ after) passed

  -- and so is what is found of the last
  pub last_found : (before : List ℕ) → AllPass before → found ≡ first_of (before ++ (r ∷ []))
  unfolding first_of
  last_found before passed = is ∙ sym (either_none r) ∙ after_passed before (r ∷ []) passed

-- ---- the greatest number

-- every number of the list is at most that
abbrev pub AllMost : List ℕ → Type 0
AllMost [] = Unit {0}
AllMost (r ∷ rs) = (r ≤ greatest_number) × AllMost rs

pub first_of_most : (rs : List ℕ) → AllMost rs → first_of rs ≤ greatest_number
unfolding first_of
first_of_most [] most = omega arith
first_of_most (r ∷ rs) most = either_most r (first_of rs) most.0 (first_of_most rs most.1)
