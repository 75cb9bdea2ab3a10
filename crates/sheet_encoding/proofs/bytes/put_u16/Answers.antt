-- `put_u16` writes a number's last two bytes. Assumes nothing.
use Rattle.std.proofs.Common.{◌∙◌, List, ℕ, take, drop, ap, rules, w32, FitsSigned}
use Rattle.integers.proofs.Bytes.{length_be_bytes}
use Rattle.sheet_spec.specs.Fields.{u16, encoded}
use Rattle.sheet_spec.specs.Slots.{◌!◌}
use Rattle.sheet_encoding.proofs.ByteNumbers.{number_bytes, placed}
use Rattle.sheet_encoding.proofs.bytes.put_u16.Goals as goal

pub returns : goal.returns
unfolding encoded
returns c =
    let fits : FitsSigned w32 (c.args.v.now ! c.args.slot) = search rules in
    placed c.args.s.now _ (encoded u16 (c.args.v.now ! c.args.slot)) c.args.at 2 (length_be_bytes 2 _) c.requires.0 (c.copy_from_slice.ensures.after ∙ ap (λ (bs : List ℕ). take 2 (drop 2 bs)) c.to_be_bytes-bytes.ensures ∙ number_bytes 2 fits)
