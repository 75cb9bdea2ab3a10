-- The attempts at ever smaller widths, one turn at a time: the reply that their list comes to, and its failures. Assumes nothing.
use mathlib.Core.Path.{◌≡◌, refl, sym, ap, ◌∙◌, subst}
use mathlib.Core.Bool.{Bool, true, false}
use mathlib.Core.List.{List, [], ◌∷◌}
use Prim.Native.Nat.{ℕ, zero, suc, ◌/◌, ◌≤◌, ◌<◌}
use native.Mathlib.Omega.{arith}
use lib.Dec.{leb}
use lib.IntN.{ℤ}
use borrow.Author.Tests.{leb-true, leb-false}
use Rattle.boxes_spec.specs.Step.{Result, ok, failed, exhausted}
use Rattle.boxes_spec.proofs.Stages.{Failed}
use Rattle.decision_spec.specs.Decision.{Attempt, tried, with_next, attempts, FailedWidth, with_failure, failures, keep, finest, spent, Reply, answered, conclusion, last_reply}

-- ---- the reply

-- what an attempt at width w comes to, where `next` answers at the next width
unfoldable pub outcome : Result (List ℤ) → ℕ → (ℕ → Reply) → Reply
outcome (ok E c) w next = answered keep w c
outcome (failed why c) w next = elim (leb w 1) [ true ↦ answered finest w c | false ↦ next c ]
outcome (exhausted c) w next = answered spent w c

-- an attempt before others does not change the reply
last_more : (a : Attempt) (w : ℕ) (g : Result (List ℤ)) (next : ℕ → List Attempt) → last_reply (a ∷ with_next w g next) ≡ last_reply (with_next w g next)
unfolding with_next last_reply
last_more a w (ok E c) next = refl
last_more a w (failed why c) next = refl
last_more a w (exhausted c) next = refl

with_next_lem : (w : ℕ) (g : Result (List ℤ)) (next : ℕ → List Attempt) → ((a : Attempt) (c : ℕ) → last_reply (a ∷ next c) ≡ last_reply (next c))
    → last_reply (with_next w g next) ≡ outcome g w (λ c. last_reply (next c))
unfolding with_next last_reply conclusion outcome
with_next_lem w (ok E c) next more = refl
with_next_lem w (failed why c) next more = by (leb w 1)
  where
    by : (t : Bool) → last_reply (tried w (failed why c) ∷ elim t [ true ↦ [] | false ↦ next c ]) ≡ elim t [ true ↦ answered finest w c | false ↦ last_reply (next c) ]
    by true = refl
    by false = more (tried w (failed why c)) c
with_next_lem w (exhausted c) next more = refl

-- the reply finest at width 1
pub record AnsweredFinest (r : Reply) : Type 0 where
  pub rounds : ℕ
  pub same : r ≡ answered finest 1 rounds

module _ (attemptAt : ℕ → ℕ → Result (List ℤ)) where
  -- the reply of the attempts at width w and below, after c rounds
  abbrev pub reply_from : ℕ → ℕ → ℕ → Reply
  reply_from fuel w c = last_reply (attempts attemptAt fuel w c)

  -- the fuel is used up
  pub reply_none : (w c : ℕ) → reply_from zero w c ≡ answered finest w c
  unfolding attempts last_reply conclusion
  reply_none w c = refl

  -- one turn
  pub reply_turn : (fuel w c : ℕ) → reply_from (suc fuel) w c ≡ outcome (attemptAt w c) w (λ c'. reply_from fuel (w / 2) c')
  unfolding attempts last_reply
  reply_turn fuel w c = with_next_lem w (attemptAt w c) (λ c'. attempts attemptAt fuel (w / 2) c') (more fuel)
    where
      more : (fuel : ℕ) (a : Attempt) (c' : ℕ) → last_reply (a ∷ attempts attemptAt fuel (w / 2) c') ≡ last_reply (attempts attemptAt fuel (w / 2) c')
      more zero a c' = refl
      more (suc fuel) a c' = last_more a (w / 2) (attemptAt (w / 2) c') (λ c''. attempts attemptAt fuel (w / 2 / 2) c'')

-- where every attempt fails, the last one is that at width 1
pub all_fail : (attemptAt : ℕ → ℕ → Result (List ℤ)) → ((w c : ℕ) → 0 < w → Failed (λ why. Unit {0}) (attemptAt w c)) → (fuel w c : ℕ) → 0 < w → w ≤ fuel → AnsweredFinest (reply_from attemptAt fuel w c)
unfolding outcome
all_fail attemptAt fails zero w c z h = absurd (omega arith)
all_fail attemptAt fails (suc fuel) w c z h =
    let f = fails w c z in
    subst AnsweredFinest (sym (reply_turn attemptAt fuel w c ∙ ap (λ (g : Result (List ℤ)). outcome g w (λ c'. reply_from attemptAt fuel (w / 2) c')) f.same))
    (by (leb w 1) refl f.count (λ more. all_fail attemptAt fails fuel (w / 2) f.count (omega arith) (omega arith)))
  where
    by : (t : Bool) → leb w 1 ≡ t → (c' : ℕ) → (1 < w → AnsweredFinest (reply_from attemptAt fuel (w / 2) c'))
        → AnsweredFinest (elim t [ true ↦ answered finest w c' | false ↦ reply_from attemptAt fuel (w / 2) c' ])
    by true e c' later = let one : w ≡ 1 = omega (arith, leb-true w 1 e) in record { rounds = c'; same = ap (λ (w : ℕ). answered finest w c') one }
    by false e c' later = later (leb-false w 1 e)

-- ---- the failures

-- the attempt at that width, after some rounds, failed for that reason
pub record FailedAt (attemptAt : ℕ → ℕ → Result (List ℤ)) (f : FailedWidth) : Type 0 where
  pub before : ℕ
  pub count : ℕ
  pub fails : attemptAt f.width before ≡ failed f.why count

unfoldable pub EachFailed : (ℕ → ℕ → Result (List ℤ)) → List FailedWidth → Type 0
EachFailed attemptAt [] = Unit {0}
EachFailed attemptAt (f ∷ fs) = FailedAt attemptAt f × EachFailed attemptAt fs

module _ (attemptAt : ℕ → ℕ → Result (List ℤ)) where
  failed_with : (w c : ℕ) (g : Result (List ℤ)) (next : ℕ → List Attempt) → attemptAt w c ≡ g
      → ((c' : ℕ) → 1 < w → EachFailed attemptAt (failures (next c'))) → EachFailed attemptAt (failures (with_next w g next))
  unfolding EachFailed failures with_failure with_next
  failed_with w c (ok E d) next e later = tt
  failed_with w c (failed why d) next e later = (record { before = c; count = d; fails = e }, by (leb w 1) refl)
    where
      by : (t : Bool) → leb w 1 ≡ t → EachFailed attemptAt (failures (elim t [ true ↦ [] | false ↦ next d ]))
      by true q = tt
      by false q = later d (leb-false w 1 q)
  failed_with w c (exhausted d) next e later = tt

  -- each failure of the list is that of an attempt at its width
  pub failures_made : (fuel w c : ℕ) → 0 < w → w ≤ fuel → EachFailed attemptAt (failures (attempts attemptAt fuel w c))
  unfolding attempts
  failures_made zero w c z h = absurd (omega arith)
  failures_made (suc fuel) w c z h = failed_with w c (attemptAt w c) _ refl (λ c' i. failures_made fuel (w / 2) c' (omega arith) (omega arith))
