-- What `write` answers and leaves, for all inputs.
use Rattle.std.specs.Prelude.{◌≡◌, List, ℕ, ℤ}
use Rattle.std.specs.declared.result.Result.{Result}
use Rattle.std.specs.declared.result.Result.TheVariants.{Ok, Err}
use Rattle.sheet_spec.specs.declared.refusals.Refusal.{Refusal}
use Rattle.sheet_spec.specs.Refusals.{unless_refused}
use Rattle.sheet_spec.specs.Sheet.{length_of, write_refusal, written}

-- the sheet's length, 0 where writing is refused
unfoldable pub written_length : List ℤ → List ℕ → ℕ → ℕ
written_length v buffer place = unless_refused (write_refusal v buffer place) (λ c. 0) (length_of v)

-- the length that is answered, 0 where the call is refused
abbrev pub length_in : Result ℕ Refusal → ℕ
length_in (Ok l) = l
length_in (Err r) = 0

-- the refusal c and the length l that are answered, and the buffer after it
pub record Wrote (v : List ℤ) (buffer : List ℕ) (place c l : ℕ) (after : List ℕ) : Type 0 where
  pub refusal : c ≡ write_refusal v buffer place
  pub length : l ≡ written_length v buffer place
  pub left : after ≡ written v buffer place
