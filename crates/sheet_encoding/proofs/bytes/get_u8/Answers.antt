-- `get_u8` reads a byte. Assumes nothing.
use Rattle.std.proofs.Common.{pos, sym, ap, ◌∙◌, rules, w32, FitsSigned}
use mir.Facts.{to_z-of_z}
use Rattle.sheet_spec.specs.Fields.{decoded}
use Rattle.sheet_encoding.proofs.ByteNumbers.{be_one}
use Rattle.sheet_encoding.proofs.bytes.get_u8.Goals as goal

pub returns : goal.returns
unfolding decoded
returns c =
    let fits : FitsSigned w32 c.from.result = search rules in
    to_z-of_z fits ∙ c.from.ensures ∙ ap pos (sym (be_one c.args.f.now c.args.at c.requires))
