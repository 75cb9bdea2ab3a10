-- `put_u8` writes a number's last byte. Assumes nothing.
use Rattle.std.proofs.Common.{◌∙◌, List, ℕ, get_or, set, ap, rules, w32, FitsSigned}
use Rattle.std.proofs.lemmas.List.Edits.{sets}
use Rattle.sheet_spec.specs.Fields.{encoded}
use Rattle.sheet_spec.specs.Slots.{◌!◌}
use Rattle.sheet_encoding.proofs.ByteNumbers.{number_bytes}
use Rattle.sheet_encoding.proofs.bytes.put_u8.Goals as goal

pub returns : goal.returns
unfolding encoded
returns c =
    let fits : FitsSigned w32 (c.args.v.now ! c.args.slot) = search rules in
    ap (λ (bs : List ℕ). set c.args.s.now c.args.at (get_or bs 3 0)) c.to_be_bytes.ensures
    ∙ ap (sets c.args.s.now c.args.at) (number_bytes 1 fits)
