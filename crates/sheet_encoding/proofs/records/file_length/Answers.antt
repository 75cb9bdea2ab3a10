-- `file_length`: document 01's formula, to which a law adds its bytes in each band. Assumes nothing.
use Rattle.std.proofs.Common.{◌*◌, ◌+◌, ℕ, sym, ap, ◌∙◌}
use Rattle.sheet_spec.specs.Sizes.{letters, caps_at, cap_bytes, box_bytes}
use Rattle.sheet_spec.proofs.Length.{file_length}
use Rattle.sheet_encoding.proofs.records.file_length.Goals as goal

pub returns : goal.returns
returns c =
    let s = c.args.shape in
    ap (λ (b : ℕ). caps_at + cap_bytes s.vars + s.bands * b + (letters + box_bytes s.vars) * (s.boxes + 1)) c.band_length.ensures ∙ sym (file_length s)
