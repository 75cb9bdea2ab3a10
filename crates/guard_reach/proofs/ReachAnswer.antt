-- What a reach answers, as bytes. Assumes nothing.
use mathlib.Core.Path.{◌≡◌, refl, ap, ap₂, ◌∙◌}
use mathlib.Core.List.{List, [], ◌++◌}
use Prim.Native.Nat.{ℕ, zero, suc, ◌+◌, ◌*◌, ◌≤◌, ◌<◌}
use native.Mathlib.Omega.{arith}
use lib.IntN.{ℤ, pos}
use lib.ListN.{length, length-append, get_or-append}
use lib.Seq.{sets, sets-eq}
use Rattle.integers.proofs.Lists.{sets_append}
use Rattle.sheet_spec.specs.Slots.{◌!◌, vars}
use Rattle.sheet_spec.specs.Sheet.{refusal, values}
use Rattle.std.specs.declared.result.Result.TheVariants.{Err}
use Rattle.sheet_spec.specs.declared.refusals.Refusal.{Refusal}
use Rattle.sheet_spec.specs.Refusals.{refusal_number}
use Rattle.sheet_spec.proofs.Laws as laws
use Rattle.sheet_spec.proofs.FirstRefusal.{found_stops, found_none, first_fails}
use Rattle.machine_spec.specs.declared.Law.{Law}
use Rattle.boxes_spec.specs.Reach.{Answer, refused, reach_of, reach_file}
use Rattle.decision_spec.specs.Numbers.{number_bytes, sides_of}
use Rattle.decision_spec.specs.Call.{refused_call}
use Rattle.decision_spec.specs.ReachCall.{start_box, law_of, reach_answer, reached_refusal, reached_call, reached_out}
use Rattle.decision_spec.proofs.Numbers.{sides_length}
use Rattle.guard_reach.specs.Answered.{number_of}

-- ---- bytes

bytes_same : (xs ys : List ℤ) (k : ℕ) → ((i : ℕ) → i < k → xs ! i ≡ ys ! i) → number_bytes xs k ≡ number_bytes ys k
unfolding number_bytes
bytes_same xs ys zero h = refl
bytes_same xs ys (suc k) h = rw (bytes_same xs ys k (λ i l. h i (omega arith)), h k (omega arith)) refl

-- the sides of two boxes, put one after the other at the front of l
pub boxes_bytes : (l : List ℤ) (n : ℕ) (E W : List ℤ) → 4 * n ≤ length l
    → number_bytes (sets (sets l 0 (sides_of n E)) (2 * n) (sides_of n W)) (4 * n) ≡ number_bytes (sides_of n E ++ sides_of n W) (4 * n)
boxes_bytes l n E W h = bytes_same _ _ (4 * n) at
  where
    both : List ℤ
    both = sides_of n E ++ sides_of n W

    size : length both ≡ 4 * n
    size = omega (arith, length-append (sides_of n E) (sides_of n W), sides_length n E, sides_length n W)

    at : (i : ℕ) → i < 4 * n → sets (sets l 0 (sides_of n E)) (2 * n) (sides_of n W) ! i ≡ both ! i
    at i k =
        let e : 2 * n ≡ 0 + length (sides_of n E) = omega (arith, sides_length n E) in
        rw e (rw (sets_append l 0 (sides_of n E) (sides_of n W), sets-eq both l 0 (omega (arith, size))) (get_or-append both _ (pos 0) i (omega (arith, size))))

-- ---- an answer of the code

-- the refusal r, as the code comes to it, is answered, and nothing is written
module _ (n : ℕ) (a : Answer) (out : List ℕ) (r : Refusal) where
  pub refused_value : refusal_number r ≡ reached_refusal n a out → number_of (Err r) ≡ reached_call n a out
  unfolding reached_call
  refused_value is = found_stops refused_call _ is (laws.refused r)

  pub refused_after : refusal_number r ≡ reached_refusal n a out → out ≡ reached_out n a out
  unfolding reached_out
  refused_after is = found_stops (λ r. out) _ is (laws.refused r)

  -- the reach itself is refused
  pub reach_stops : refusal_number r ≡ a.refusal → refusal_number r ≡ reached_refusal n a out
  unfolding reached_refusal
  reach_stops is = first_fails is [] _ tt (laws.refused r)

-- ---- of a file

module _ (f : List ℕ) (ticks w law : ℕ) (u : ℤ) (s : List ℕ) where
  -- the code's refusal of it is that of the reach
  pub file_refused : (r : Refusal) → refusal_number r ≡ refusal f → refusal_number r ≡ (reach_answer f ticks w law u s).refusal
  unfolding reach_answer reach_file
  file_refused r is = ap (λ (a : Answer). a.refusal) (found_stops refused _ is (laws.refused r))

  -- of a file that is accepted v, n, l and B are the code's value, its variables, the law and the start box, and the code answers a
  pub file_reached : {v B : List ℤ} {n : ℕ} {l : Law} {a : Answer} → 0 ≡ refusal f → v ≡ values f → n ≡ vars v → l ≡ law_of law u → B ≡ start_box n s
      → a ≡ reach_of v ticks w l B → a ≡ reach_answer f ticks w law u s
  unfolding reach_answer reach_file
  file_reached {v} {B} accepted value count same start answers =
      answers
      ∙ ap (λ (l : Law). reach_of v ticks w l B) same
      ∙ ap₂ (λ (v B : List ℤ). reach_of v ticks w (law_of law u) B) value (start ∙ ap (λ (n : ℕ). start_box n s) (count ∙ ap vars value))
      ∙ found_none refused _ accepted refl
