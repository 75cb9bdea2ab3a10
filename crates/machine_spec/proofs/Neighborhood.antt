-- The neighborhood of a face: it holds the working box's states near the face, it is a part of that box, wider in a wider one, and
-- never empty; and the working box is had back from it by one side. Assumes nothing.
use mathlib.Core.Path.{◌≡◌, refl, sym, ◌∙◌}
use mathlib.Core.Bool.{Bool, true, false, not}
use mathlib.Core.List.{List}
use Prim.Native.Nat.{ℕ, ◌+◌, ◌≤◌, ◌<◌}
use native.Mathlib.Omega.{arith}
use lib.IntN.{ℤ, pos, ◌+ℤ◌, ◌-ℤ◌}
use lib.ListN.{length, length-set}
use lib.Signed.{◌≤ℤ◌}
use Rattle.integers.proofs.Z.{ints, flat}
use Rattle.sheet_spec.specs.Slots.{◌!◌, N}
use Rattle.machine_spec.specs.Box.{side, Ordered, In}
use Rattle.machine_spec.specs.Rate.{outer, neighborhood}
use Rattle.sheet_spec.proofs.Box.{differ}
use Rattle.machine_spec.proofs.Box.{set_both}
use Rattle.machine_spec.proofs.Face.{Beyond, beyond_refl, beyond_trans, beyond_flip, beyond_back, outer_left, outer_in, outer_mono}
use Rattle.machine_spec.proofs.Inside.{in_side, in_by, Inside, ordered_side, ordered_by}

-- what lies as far as `reach` in from s
abbrev pub inward : Bool → ℤ → ℤ → ℤ
inward false s reach = s +ℤ reach
inward true s reach = s -ℤ reach

-- the side that is cut
abbrev pub cut : Bool → List ℤ → ℤ → List ℤ → ℕ → ℤ
cut up S reach E i = outer up (side (not up) E i) (inward up (side up S i) reach)

inward_in : (up : Bool) (s reach : ℤ) → pos 0 ≤ℤ reach → Beyond up s (inward up s reach)
inward_in false s reach z = record { order = simp flat (omega ints) }
inward_in true s reach z = record { order = simp flat (omega ints) }

not_self : (up : Bool) → up ≡ not up → ⊥
not_self false e = differ e refl
not_self true e = differ refl e

pub neighborhood_length : (up : Bool) (S : List ℤ) (reach : ℤ) (E F : List ℤ) → length E ≡ length F → (i : ℕ) → length (neighborhood up S reach E i) ≡ length (neighborhood up S reach F i)
unfolding neighborhood
neighborhood_length false S reach E F l i = length-set E (i + N) _ ∙ (l ∙ sym (length-set F (i + N) _))
neighborhood_length true S reach E F l i = length-set E i _ ∙ (l ∙ sym (length-set F i _))

-- ---- its states and its sides

module _ {n : ℕ} (room : n ≤ N) (S : List ℤ) (reach : ℤ) (i : ℕ) (h : i < n) where
  -- what relates a side of two working boxes, and the two cut sides if it is that one, relates it in their neighborhoods
  sides_both : (up face : Bool) (R : ℤ → ℤ → Type 0) (E F : List ℤ) (j : ℕ) → length E ≡ length F → j < n → R (side face E j) (side face F j)
      → (face ≡ not up → j ≡ i → R (cut up S reach E i) (cut up S reach F i)) → R (side face (neighborhood up S reach E i) j) (side face (neighborhood up S reach F i) j)
  unfolding neighborhood outer
  sides_both false false R E F j e g r f = set_both R E F (i + N) j _ _ e r (λ q. absurd (omega arith))
  sides_both false true R E F j e g r f = set_both R E F (i + N) (j + N) _ _ e r (λ q. f refl (omega arith))
  sides_both true false R E F j e g r f = set_both R E F i j _ _ e r (λ q. f refl q)
  sides_both true true R E F j e g r f = set_both R E F i (j + N) _ _ e r (λ q. absurd (omega arith))

  -- the same of one
  pub sides_one : (up face : Bool) (P : ℤ → Type 0) (E : List ℤ) (j : ℕ) → j < n → P (side face E j) → (face ≡ not up → j ≡ i → P (cut up S reach E i)) → P (side face (neighborhood up S reach E i) j)
  sides_one up face P E j g p f = sides_both up face (λ a b. P a) E E j refl g p f

  -- a state of the working box that is near the face
  pub near_in : (up : Bool) {E x : List ℤ} → In n E x → Beyond up (x ! i) (inward up (side up S i) reach) → In n (neighborhood up S reach E i) x
  near_in up {E} {x} b near =
      in_by (λ face j g. sides_one up face (λ a. Beyond face a (x ! j)) E j g (in_side b face j g)
      (λ e q. rw (e, q) (beyond_flip (outer_in up _ _ (x ! i) (beyond_back (in_side b (not up) i h)) near))))

  pub neighborhood_part : (up : Bool) (E : List ℤ) → Inside n (neighborhood up S reach E i) E
  neighborhood_part up E = record {
    at = λ face j g. sides_one up face (λ a. Beyond face (side face E j) a) E j g (beyond_refl face (side face E j)) (λ e q. rw (e, q) (beyond_flip (outer_left up _ _)));
  }

  pub neighborhood_inside : (up : Bool) {E F : List ℤ} → length E ≡ length F → Inside n E F → Inside n (neighborhood up S reach E i) (neighborhood up S reach F i)
  neighborhood_inside up {E} {F} l s = record {
    at = λ face j g. sides_both up face (λ a b. Beyond face b a) E F j l g (s.at face j g)
        (λ e q. rw e (beyond_flip (outer_mono (beyond_back (s.at (not up) i h)) (beyond_refl up (inward up (side up S i) reach)))));
  }

  -- NEVER EMPTY: that of a box which is not empty and holds S
  pub neighborhood_ordered : pos 0 ≤ℤ reach → (up : Bool) {E : List ℤ} → Inside n S E → Ordered n E → Ordered n (neighborhood up S reach E i)
  neighborhood_ordered z up {E} s o =
      ordered_by up (λ j g. sides_one up up (λ a. Beyond up a (side (not up) (neighborhood up S reach E i) j)) E j g
      (sides_one up (not up) (λ b. Beyond up (side up E j) b) E j g (ordered_side o up j g)
      (λ e q. rw q (outer_in up _ _ _ (ordered_side o up i h) (beyond_trans (s.at up i h) (inward_in up (side up S i) reach z)))))
      (λ e q. absurd (not_self up e)))

  -- where the neighborhoods of both faces come to meet, that of one comes as far as the other's does
  pub neighborhoods_touch : pos 0 ≤ℤ reach → (up : Bool) {E : List ℤ} → Inside n S E → Beyond (not up) (inward up (side up S i) reach) (inward (not up) (side (not up) S i) reach)
      → Beyond (not up) (side (not up) (neighborhood up S reach E i) i) (inward (not up) (side (not up) S i) reach)
  neighborhoods_touch z up {E} s t =
      let e = beyond_trans (s.at (not up) i h) (inward_in (not up) (side (not up) S i) reach z) in
      sides_one up (not up) (λ a. Beyond (not up) a (inward (not up) (side (not up) S i) reach)) E i h e (λ _ _. beyond_flip (outer_in up _ _ _ (beyond_back e) (beyond_back t)))
