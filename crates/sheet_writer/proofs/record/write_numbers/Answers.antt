-- `write_numbers`: the numbers of a record of each kind. Assumes nothing.
use Rattle.std.proofs.Common.{arith}
use Rattle.sheet_spec.specs.Limits.{max_unsafe_side, max_recovery_side}
use Rattle.sheet_spec.specs.Layout.{fields}
use Rattle.sheet_spec.proofs.Length.{record_size_lem}
use Rattle.sheet_writer.proofs.record.write_numbers.Goals as goal

pub write_caps-requires : goal.write_caps-requires
write_caps-requires c =
    let ends = rw c.in-Head.is at c.requires.record_in_bounds in
    let size = rw c.in-Head.is at (record_size_lem c.args.shape.vars c.args.«record») in
    omega (arith, ends, size)

pub write_band-requires : goal.write_band-requires
write_band-requires c =
    let ends = rw c.in-Band.is at c.requires.record_in_bounds in
    let size = rw c.in-Band.is at (record_size_lem c.args.shape.vars c.args.«record») in
    let room = rw c.in-Band.is at c.requires.small.1 in
    (room, omega (arith, ends, size))

pub write_box-requires : goal.write_box-requires
write_box-requires c =
    let ends = rw c.in-Unsafe.is at c.requires.record_in_bounds in
    let size = rw c.in-Unsafe.is at (record_size_lem c.args.shape.vars c.args.«record») in
    let room = rw c.in-Unsafe.is at c.requires.small.1 in
    (omega (arith, room), omega (arith, ends, size))

pub write_box-requires-in-Recovery : goal.write_box-requires-in-Recovery
write_box-requires-in-Recovery c =
    let ends = rw c.in-Recovery.is at c.requires.record_in_bounds in
    let size = rw c.in-Recovery.is at (record_size_lem c.args.shape.vars c.args.«record») in
    (omega arith, omega (arith, ends, size))

pub returns-in-Head : goal.returns-in-Head
unfolding fields
returns-in-Head c = rw c.in-Head.is c.write_caps.ensures

pub returns-in-Band : goal.returns-in-Band
unfolding fields
returns-in-Band c = rw c.in-Band.is c.write_band.ensures

pub returns-in-Unsafe : goal.returns-in-Unsafe
unfolding fields
returns-in-Unsafe c = rw c.in-Unsafe.is (c.write_box.ensures max_unsafe_side)

pub returns-in-Recovery : goal.returns-in-Recovery
unfolding fields
returns-in-Recovery c = rw c.in-Recovery.is (c.write_box-in-Recovery.ensures max_recovery_side)
