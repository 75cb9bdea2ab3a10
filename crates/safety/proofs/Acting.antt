-- The law that acts at each tick of a run: by period, and for one list of periods after another. Assumes nothing.
use mathlib.Core.Path.{◌≡◌, refl, sym, ◌∙◌}
use mathlib.Core.List.{List, [], ◌∷◌, ◌++◌, append_assoc}
use mathlib.Core.Option.{none}
use Prim.Native.Nat.{ℕ, zero, suc, ◌+◌, ◌*◌, ◌<◌}
use native.Mathlib.Omega.{arith}
use lib.ListN.{length, get_or, replicate, length-append, length-replicate, get_or-replicate, get_or-append}
use lib.Seq.{get_or-append-add}
use Rattle.sheet_spec.specs.Slots.{δ}
use Rattle.sheet_spec.specs.Sheet.{values}
use Rattle.machine_spec.specs.declared.Law.TheVariants.{Baseline}
use Rattle.safety.specs.Run.{Period, period_law, acting, law_at}

pub acting_length : (f : List ℕ) (qs : List Period) → length (acting f qs) ≡ length qs * δ (values f)
unfolding acting
acting_length f [] = omega arith
acting_length f (q ∷ qs) =
    let ls = replicate (δ (values f)) (period_law f q) in
    omega (arith, length-append ls (acting f qs), length-replicate (δ (values f)) (period_law f q), acting_length f qs)

acting_append : (f : List ℕ) (qs rs : List Period) → acting f (qs ++ rs) ≡ acting f qs ++ acting f rs
unfolding acting
acting_append f [] rs = refl
acting_append f (q ∷ qs) rs = rw (acting_append f qs rs) (sym (append_assoc (replicate (δ (values f)) (period_law f q)) (acting f qs) (acting f rs)))

module _ (f : List ℕ) (qs rs : List Period) where
  pub law_before : (t : ℕ) → t < length qs * δ (values f) → law_at f (qs ++ rs) t ≡ law_at f qs t
  law_before t h = rw (acting_append f qs rs) (get_or-append (acting f qs) (acting f rs) Baseline t (rw (acting_length f qs) h))

  pub law_later : (i : ℕ) → law_at f (qs ++ rs) (length qs * δ (values f) + i) ≡ law_at f rs i
  law_later i = rw (acting_append f qs rs, ← acting_length f qs) (get_or-append-add (acting f qs) (acting f rs) i Baseline)

law_of_one : (f : List ℕ) (q : Period) (i : ℕ) → i < δ (values f) → law_at f (q ∷ []) i ≡ period_law f q
unfolding acting
law_of_one f q i h =
    let n = δ (values f) in
    get_or-append (replicate n (period_law f q)) [] Baseline i (rw (length-replicate n (period_law f q)) h) ∙ get_or-replicate n i (period_law f q) Baseline h

-- tick i of period p
pub law_at_lem : (f : List ℕ) (qs : List Period) (p i : ℕ) → p < length qs → i < δ (values f) → law_at f qs (p * δ (values f) + i) ≡ period_law f (get_or qs p none)
law_at_lem f [] p i h k = absurd (omega arith)
law_at_lem f (q ∷ qs) zero i h k = let e : 0 * δ (values f) + i ≡ i = omega arith in rw e (law_before f (q ∷ []) qs i (omega arith) ∙ law_of_one f q i k)
law_at_lem f (q ∷ qs) (suc p) i h k =
    let n = δ (values f) in
    let e : suc p * n + i ≡ 1 * n + (p * n + i) = omega arith in
    rw e (law_later f (q ∷ []) qs (p * n + i) ∙ law_at_lem f qs p i (omega arith) k)
