-- A refused call leaves the lent array or buffer as it was; and the room in a buffer, as the code tests it. Assumes nothing.
use mathlib.Core.Path.{◌≡◌, refl}
use mathlib.Core.List.{List}
use Prim.Native.Nat.{ℕ, ◌≤◌, ◌<◌}
use borrow.Author.Tests.{le-leb, lt-leb}
use lib.IntN.{ℤ}
use lib.ListN.{length}
use Rattle.sheet_spec.specs.Refusals.{Cause, number}
use Rattle.sheet_spec.specs.Sheet.{refusal}
use Rattle.sheet_spec.proofs.Laws.{stops}
use Rattle.boxes_spec.specs.Reach.{Answer}
use Rattle.decision_spec.specs.Call.{room_refusal}
use Rattle.decision_spec.specs.Calls.{read_out}
use Rattle.decision_spec.specs.ReachCall.{reached_refusal, reached_out}

pub read_refused : (f : List ℕ) (numbers : List ℤ) → (refusal f ≡ 0 → ⊥) → read_out f numbers ≡ numbers
unfolding read_out
read_refused f numbers some = stops (λ r. numbers) _ some

pub reach_refused : (n : ℕ) (a : Answer) (out : List ℕ) → (reached_refusal n a out ≡ 0 → ⊥) → reached_out n a out ≡ out
unfolding reached_out
reach_refused n a out some = stops (λ r. out) _ some

module _ (size : ℕ) (buffer : List ℕ) where
  pub room_short : length buffer < size → number Cause.room ≡ room_refusal size buffer
  room_short short = rw (lt-leb size (length buffer) short) refl

  pub room_enough : size ≤ length buffer → 0 ≡ room_refusal size buffer
  room_enough enough = rw (le-leb size (length buffer) enough) refl
