-- `shape_with`: the counts of a sheet, and a kind of bands. Assumes nothing.
use Rattle.std.proofs.Common.{arith}
use Rattle.sheet_encoding.proofs.ReaderAnswer.{counts}
use Rattle.sheet_encoding.proofs.records.shape_with.Goals as goal

pub count-requires : goal.count-requires
count-requires c = (omega arith, (counts _ c.requires).vars)

pub count-requires-2 : goal.count-requires-2
count-requires-2 c = (omega arith, (counts _ c.requires).bands)

pub count-requires-3 : goal.count-requires-3
count-requires-3 c = (omega arith, (counts _ c.requires).boxes)

pub returns : goal.returns
returns c =
    let m = (counts _ c.requires).small in (
      λ i. record { vars = c.count.ensures i; bands = c.count-2.ensures i; boxes = c.count-3.ensures i; kind = c.args.kind },
      record {
        vars = omega (arith, c.count.ensures, m.vars);
        bands = omega (arith, c.count-2.ensures, m.bands);
        boxes = omega (arith, c.count-3.ensures, m.boxes);
      },
    )
