-- `get_i32` reads four bytes in two's complement. Assumes nothing.
use Rattle.std.proofs.Common.{sym, ap, ◌∙◌, rules, to_z, w32, FitsSigned}
use mir.Facts.{to_z-of_z}
use Rattle.integers.specs.Bytes.{decode}
use Rattle.integers.proofs.Bytes.{be_four}
use Rattle.sheet_spec.specs.Fields.{decoded}
use Rattle.sheet_encoding.proofs.bytes.get_i32.Goals as goal

pub returns : goal.returns
unfolding decoded decode
returns c =
    let fits : FitsSigned w32 c.from_be_bytes.result = search rules in
    to_z-of_z fits ∙ c.from_be_bytes.ensures ∙ ap (to_z w32) (sym (be_four c.args.f.now c.args.at c.requires))
