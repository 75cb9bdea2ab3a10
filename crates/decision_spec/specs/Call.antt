-- What a call answers where it refuses, and the test of the room in a lent buffer.
use Rattle.std.specs.Prelude.{List, ℕ, leb, length}
use Rattle.sheet_spec.specs.Refusals.{Cause, refuse_unless}
use Rattle.decision_spec.specs.Decision.{refused, packed}

abbrev pub refused_call : ℕ → ℕ
refused_call r = packed (refused r)

-- the buffer has fewer bytes than `size`
abbrev pub room_refusal : ℕ → List ℕ → ℕ
room_refusal size buffer = refuse_unless (leb size (length buffer)) Cause.room
