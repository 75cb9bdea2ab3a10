-- `put_i32` writes a number's four bytes. Assumes nothing.
use Rattle.std.proofs.Common.{◌∙◌, rules, w32, FitsSigned}
use Rattle.integers.proofs.Bytes.{length_be_bytes}
use Rattle.sheet_spec.specs.Fields.{i32, encoded}
use Rattle.sheet_spec.specs.Slots.{◌!◌}
use Rattle.sheet_encoding.proofs.ByteNumbers.{number_bytes, placed}
use Rattle.sheet_encoding.proofs.bytes.put_i32.Goals as goal

pub returns : goal.returns
unfolding encoded
returns c =
    let fits : FitsSigned w32 (c.args.v.now ! c.args.slot) = search rules in
    placed c.args.s.now _ (encoded i32 (c.args.v.now ! c.args.slot)) c.args.at 4 (length_be_bytes 4 _) c.requires.0 (c.copy_from_slice.ensures.after ∙ c.to_be_bytes.ensures ∙ number_bytes 4 fits)
