-- `next`: the record after this one starts at its end. Assumes nothing.
use Rattle.std.proofs.Common.{◌<◌, refl, arith}
use Rattle.sheet_spec.specs.File.{records}
use Rattle.sheet_encoding.proofs.RecordTurn.{record_room, start_more}
use Rattle.sheet_encoding.proofs.PlacesTurn.{most_bytes}
use Rattle.sheet_encoding.proofs.places.PlacesIterator.next.Goals as goal

pub overflow_add-self-2 : goal.overflow_add-self-2
overflow_add-self-2 c =
    let p = c.args.self.now in
    let below : p.r < records p.shape = omega (arith, p.within, c.record_count.ensures) in
    omega (arith, c.record_length.ensures, record_room _ _ _ _ c.record_at-record.ensures p.start below (most_bytes _ p.small))

pub invariant_of-self : goal.invariant_of-self
invariant_of-self c =
    let p = c.args.self.now in
    record { small = p.small; within = omega (arith, p.within, c.record_count.ensures); start = start_more _ _ c.record_at-record.ensures c.record_length.ensures p.start refl }
