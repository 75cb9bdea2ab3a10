-- Σ aj·xj over a box: it bounds the sum at every state of the box, and is wider over a wider box. Assumes nothing.
use mathlib.Core.Bool.{Bool, true, false}
use mathlib.Core.List.{List}
use Prim.Native.Nat.{ℕ}
use lib.IntN.{ℤ, ◌*ℤ◌}
use lib.Signed.{◌≤ℤ◌}
use Rattle.integers.proofs.Z.{ints}
use Rattle.sheet_spec.specs.Slots.{◌!◌, FeedbackLaw}
use Rattle.machine_spec.specs.Box.{Ordered, In}
use Rattle.machine_spec.specs.Machine.{combination, law_sum}
use Rattle.machine_spec.specs.Rate.{outer, weighted, law_over}
use Rattle.machine_spec.proofs.Face.{Beyond, beyond_refl, beyond_sum, sum_beyond, outer_in, span}
use Rattle.machine_spec.proofs.Inside.{Inside}

pub weighted_holds : (up : Bool) (n : ℕ) (a : ℕ → ℤ) (B x : List ℤ) → In n B x → Beyond up (weighted up n a B) (combination n a x)
unfolding weighted
weighted_holds up n a B x b = sum_beyond n _ _ (λ j l. span up (a j) _ _ (x ! j) (b.low j l) (b.high j l))

pub wider_span : (up : Bool) (a : ℤ) {l h l' h' : ℤ} → l ≤ℤ h → l' ≤ℤ l → h ≤ℤ h' → Beyond up (outer up (a *ℤ l') (a *ℤ h')) (outer up (a *ℤ l) (a *ℤ h))
wider_span up a {l} {h} {l'} {h'} g i j = outer_in up _ _ _ (span up a l' h' l i (omega ints)) (span up a l' h' h (omega ints) j)

pub weighted_wider : (up : Bool) (n : ℕ) (a : ℕ → ℤ) (A B : List ℤ) → Ordered n A → Inside n A B → Beyond up (weighted up n a B) (weighted up n a A)
unfolding weighted
weighted_wider up n a A B o s = sum_beyond n _ _ (λ j h. wider_span up (a j) (o.at j h) (s.at false j h).order (s.at true j h).order)

-- the sum of a law that follows the state
pub law_holds : (up : Bool) (n : ℕ) (l : FeedbackLaw) (B x : List ℤ) → In n B x → Beyond up (law_over up n l B) (law_sum n l x)
unfolding law_over law_sum
law_holds up n l B x b = beyond_sum (weighted_holds up n l.a B x b) (beyond_refl up l.c)

pub law_wider : (up : Bool) (n : ℕ) (l : FeedbackLaw) (A B : List ℤ) → Ordered n A → Inside n A B → Beyond up (law_over up n l B) (law_over up n l A)
unfolding law_over
law_wider up n l A B o s = beyond_sum (weighted_wider up n l.a A B o s) (beyond_refl up l.c)
