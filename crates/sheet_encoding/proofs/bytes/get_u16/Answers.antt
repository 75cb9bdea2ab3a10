-- `get_u16` reads two bytes. Assumes nothing.
use Rattle.std.proofs.Common.{pos, sym, ap, ◌∙◌, rules, w32, FitsSigned}
use mir.Facts.{to_z-of_z}
use Rattle.integers.proofs.Bytes.{be_two}
use Rattle.sheet_spec.specs.Fields.{decoded}
use Rattle.sheet_encoding.proofs.bytes.get_u16.Goals as goal

pub returns : goal.returns
unfolding decoded
returns c =
    let fits : FitsSigned w32 c.from.result = search rules in
    to_z-of_z fits ∙ c.from.ensures ∙ ap pos (c.from_be_bytes.ensures ∙ sym (be_two c.args.f.now c.args.at c.requires))
