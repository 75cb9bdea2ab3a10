-- `write_valid`: the room, and then the records. Assumes nothing.
use Rattle.std.proofs.Common.{arith}
use Rattle.sheet_writer.proofs.FileTurn.{some_length, value_headed, wrote, wrote_short}
use Rattle.sheet_writer.proofs.write_valid.Goals as goal

pub shape_of-shape-requires : goal.shape_of-shape-requires
shape_of-shape-requires c = value_headed _ c.requires

pub returns-then-saturating_sub-length : goal.returns-then-saturating_sub-length
returns-then-saturating_sub-length c =
    wrote_short _ _ c.shape_of-shape.ensures.0 _ _ c.requires c.file_length-length.ensures (omega (arith, some_length c.shape_of-shape.result))

pub slice_bounds-write_records-count : goal.slice_bounds-write_records-count
slice_bounds-write_records-count c = omega (arith, some_length c.shape_of-shape.result)

pub slice_bounds-write_records-start : goal.slice_bounds-write_records-start
slice_bounds-write_records-start c = omega (arith, some_length c.shape_of-shape.result)

pub returns : goal.returns
returns c = wrote _ _ c.shape_of-shape.ensures.0 _ _ c.requires c.file_length-length.ensures (omega (arith, some_length c.shape_of-shape.result)) c.write_records.ensures
