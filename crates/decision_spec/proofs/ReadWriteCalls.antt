-- A file that is read and written by the C calls is the same file, and a sheet that is written and read by them is the same sheet
-- (specs/ReadWriteCalls). Assumes nothing.
use mathlib.Core.Path.{◌≡◌, refl, sym, ap, ◌∙◌, subst}
use mathlib.Core.Bool.{false}
use mathlib.Core.List.{List}
use Prim.Native.Nat.{ℕ, zero, suc, ◌/◌, ◌^◌, ◌≤◌}
use native.Mathlib.Omega.{arith}
use borrow.Author.Tests.{eqb-false}
use lib.IntN.{ℤ}
use lib.ListN.{length, drop, length-drop}
use lib.Seq.{length-take-le}
use Rattle.sheet_spec.specs.Refusals.{greatest_number, unless_refused}
use Rattle.sheet_spec.specs.Sheet.{refusal, values, length_of, write_refusal, written, Same}
use Rattle.sheet_spec.proofs.Laws.{goes_on}
use Rattle.sheet_spec.proofs.GreatestNumber.{refusal_most, write_most}
use Rattle.sheet_spec.proofs.RoundTrip.{passed}
use Rattle.sheet_spec.proofs.ReadWrite.{length_read, read_then_write, answers_length, write_then_read}
use Rattle.decision_spec.specs.Decision.{refused, packed, code_of, width_of, rounds_of}
use Rattle.decision_spec.specs.Call.{refused_call}
use Rattle.decision_spec.specs.Calls.{read_call, read_out, write_call, write_out}
use Rattle.decision_spec.specs.ReadWriteCalls.{is_refused, call_bytes, CallsReadThenWrite, CallsWriteThenRead}

-- an answer whose code is not 3 is that of no refusal
accepted : (d a : ℕ) → d ≤ greatest_number → is_refused (unless_refused d refused_call a) ≡ false → d ≡ 0
unfolding unless_refused packed code_of width_of rounds_of
accepted zero a l e = refl
accepted (suc d) a l e = let q : packed (refused (suc d)) / 2 ^ 48 ≡ 3 = omega arith in absurd (eqb-false (packed (refused (suc d)) / 2 ^ 48) 3 e q)

module _ (f : List ℕ) (e : refusal f ≡ 0) where
  read_length : read_call f ≡ length f
  unfolding read_call
  read_length = goes_on refused_call (length f) e

  read_values : (numbers : List ℤ) → read_out f numbers ≡ values f
  unfolding read_out
  read_values numbers = goes_on (λ r. numbers) (values f) e

write_length : (v : List ℤ) (buffer : List ℕ) (place : ℕ) → write_refusal v buffer place ≡ 0 → write_call v buffer place ≡ length_of v
unfolding write_call
write_length v buffer place e = goes_on refused_call (length_of v) e

pub calls_read_then_write : CallsReadThenWrite
unfolding read_call write_out
calls_read_then_write f b n numbers buffer place room =
    let e = accepted (refusal f) (length f) (refusal_most f) n in
    let w = read_then_write f b e buffer place room in
    let r = read_values f e numbers in
    record {
      read = read_length f e;
      answer = ap (λ (v : List ℤ). write_call v buffer place) r ∙ write_length (values f) buffer place w.accepted ∙ length_read f b e;
      left = ap (λ (v : List ℤ). written v buffer place) r ∙ w.left;
    }

pub calls_write_then_read : CallsWriteThenRead
unfolding write_call write_out
calls_write_then_read v buffer place n numbers =
    let e = accepted (write_refusal v buffer place) (length_of v) (write_most v buffer place) n in
    let w = write_length v buffer place e in
    let m = answers_length v buffer place e ∙ sym w in
    let r = write_then_read v buffer place e in
    let a : refusal (call_bytes v buffer place) ≡ 0 = rw (← m) r.accepted in
    record {
      answer =
          read_length (call_bytes v buffer place) a
          ∙ length-take-le (write_call v buffer place) (drop place (written v buffer place)) (omega (arith, w, (passed v buffer place e).1, r.outside.size, length-drop place (written v buffer place)));
      same = subst (Same v) (sym (read_values (call_bytes v buffer place) a numbers)) (rw (← m) r.same);
      outside = rw (← m) r.outside;
    }
