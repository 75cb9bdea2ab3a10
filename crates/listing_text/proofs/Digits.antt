-- The digits of a number are what the library writes of it. Assumes nothing.
use Rattle.std.proofs.Common.{◌≡◌, ◌∙◌, ℕ, suc, ◌^◌, ◌<◌, [], append-nil, arith}
use Rattle.std.specs.Fmt.{decimal}
use Rattle.std.proofs.lemmas.Fmt.{PrependsLastDigit, decimal_from_prepends, length-decimal-le_succ}
use borrow.Author.Tests.{lt-ltb, le-ltb}
use Rattle.integers.proofs.Tests.{pick_yes, pick_no}
use Rattle.decision_spec.specs.Listing.{digits, digits_to}

prepends : PrependsLastDigit digits_to
unfolding digits_to
prepends = record {
  one = λ k n acc h. pick_yes _ _ _ (lt-ltb n 10 h);
  more = λ k n acc h. pick_no _ _ _ (le-ltb n 10 h);
}

pub digits_decimal : (x : ℕ) → x < 2 ^ 64 → digits x ≡ decimal x
unfolding digits
digits_decimal x h =
    decimal_from_prepends digits_to prepends (suc x) x [] h (omega (arith, length-decimal-le_succ x h)) ∙ append-nil (decimal x)
