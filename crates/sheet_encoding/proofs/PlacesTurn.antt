-- No sheet is longer than this. Assumes nothing.
use Rattle.std.proofs.Common.{◌≡◌, subst, ℕ, ◌+◌, ◌*◌, ◌≤◌, arith}
use native.Mathlib.Nat.{mul-le-mul}
use Rattle.sheet_spec.specs.Limits.{max_bands, max_boxes}
use Rattle.sheet_spec.specs.Slots.{N}
use Rattle.sheet_spec.specs.Sizes.{letters, caps_at, cap_bytes, law_bytes, row_bytes, band_head, box_bytes}
use Rattle.sheet_spec.specs.declared.BandKind.TheVariants.{Feedback}
use Rattle.sheet_spec.specs.declared.Shape.{Shape}
use Rattle.sheet_spec.specs.File.{Small, records, record_start}
use Rattle.sheet_spec.proofs.Length.{file_length}
use Rattle.sheet_spec.specs.declared.Record.{Record}
use Rattle.sheet_encoding.specs.Places.{IsPlaced}
use Rattle.sheet_encoding.proofs.RecordTurn.{law_most, rows_most}

abbrev most : ℕ
most = caps_at + cap_bytes N + max_bands * (band_head + law_bytes Feedback N + N * row_bytes N) + (letters + box_bytes N) * (max_boxes + 1)

pub most_bytes : (s : Shape) → Small s → record_start s (records s) ≤ most
most_bytes s m =
    let band : band_head + law_bytes s.kind s.vars + s.vars * row_bytes s.vars ≤ band_head + law_bytes Feedback N + N * row_bytes N = omega (arith, law_most s.kind s.vars m.vars, rows_most s.vars m.vars) in
    let boxes : letters + box_bytes s.vars ≤ letters + box_bytes N = omega (arith, m.vars) in
    let count : s.boxes + 1 ≤ max_boxes + 1 = omega (arith, m.boxes) in
    omega (arith, file_length s, mul-le-mul m.bands band, mul-le-mul boxes count, m.vars)

-- what a step says of the shape s, it says of t, which is equal
pub placed : {s t : Shape} {r : ℕ} {x : Record} {at : ℕ} → s ≡ t → IsPlaced s r x at → IsPlaced t r x at
placed {s} {t} {r} {x} {at} e p = subst (λ (s : Shape). IsPlaced s r x at) e p
