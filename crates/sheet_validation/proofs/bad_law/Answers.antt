-- `bad_law`: the law of a band, by its kind. Assumes nothing.
use Rattle.std.proofs.Common.{ap, sym}
use Rattle.sheet_spec.specs.declared.BandKind.{BandKind}
use Rattle.sheet_spec.specs.Fields.{bad}
use Rattle.sheet_spec.specs.Layout.{law_fields, law_count}
use Rattle.sheet_spec.specs.Refusals.{first_refusal}
use Rattle.sheet_validation.proofs.bad_law.Goals as goal

pub returns-in-Fixed : goal.returns-in-Fixed
unfolding bad first_refusal
returns-in-Fixed c = ap (λ (b : BandKind). bad (law_fields c.args.n c.args.slot) c.args.v.now (law_count b c.args.n)) (sym c.in-Fixed.is)
