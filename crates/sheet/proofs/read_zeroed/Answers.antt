-- `read_zeroed`: the numbers, or zeros if the file is refused. Assumes nothing.
use Rattle.std.proofs.Common.{◌≡◌, true, false, is_err, OnOk, Ok, Err, List, ℕ, ℤ, ◌∙◌, sym}
use Rattle.std.specs.declared.result.Result.{Result}
use Rattle.sheet_spec.specs.declared.refusals.Refusal.{Refusal}
use Rattle.sheet_spec.specs.Refusals.{refusal_of}
use Rattle.sheet_spec.specs.Sheet.{contents, refusal, values, zeros}
use Rattle.sheet_spec.proofs.Accepted.{accepted}
use Rattle.sheet_spec.proofs.Laws.{refused}
use Rattle.sheet_spec.proofs.Valid.{values_zero, zeros_are}
use Rattle.sheet.proofs.read_zeroed.Goals as goal

left_zeros : {A : Type 0} (r : Result A Refusal) (f : List ℕ) → refusal_of r ≡ refusal f → is_err r ≡ true → zeros ≡ values f
left_zeros (Ok a) f e t = absurd (cc)
left_zeros (Err c) f e t = sym (values_zero f (λ z. refused c (e ∙ z)))

left_numbers : {A : Type 0} (r : Result A Refusal) (f : List ℕ) {w : List ℤ} → refusal_of r ≡ refusal f → is_err r ≡ false → OnOk r (w ≡ contents f) → w ≡ values f
left_numbers (Ok a) f e t read = read ∙ sym (accepted f (sym e)).values
left_numbers (Err c) f e t read = absurd (cc)

pub returns-then-is_err : goal.returns-then-is_err
returns-then-is_err c =
    let e = c.read_values-answer.ensures in
    (e.0, zeros_are ∙ left_zeros _ _ e.0 (sym c.is_err.ensures.value ∙ c.if-is_err.true))

pub returns-else-is_err : goal.returns-else-is_err
returns-else-is_err c =
    let e = c.read_values-answer.ensures in
    (e.0, left_numbers _ _ e.0 (sym c.is_err.ensures.value ∙ c.if-is_err.false) e.1)
