-- `read_head`: the head's numbers, each to its slot. Assumes nothing.
use native.Mathlib.Nat.{add_assoc}
use Rattle.sheet_spec.specs.Fields.{filled, offset}
use Rattle.sheet_spec.specs.Layout.{◌▸◌, head_fields}
use Rattle.sheet_encoding.proofs.SlotNumber.{stored}
use Rattle.sheet_reader.proofs.read_head.Goals as goal

pub returns : goal.returns
unfolding head_fields ◌▸◌ filled offset
returns c =
    rw (stored c.get_u8.ensures c.get_u8.type_inv, stored c.get_u8-2.ensures c.get_u8-2.type_inv, stored c.get_u8-3.ensures c.get_u8-3.type_inv, stored c.get_u8-4.ensures c.get_u8-4.type_inv, stored c.get_u16.ensures c.get_u16.type_inv, stored c.get_u16-2.ensures c.get_u16-2.type_inv, stored c.get_u16-3.ensures c.get_u16-3.type_inv, stored c.get_i32.ensures c.get_i32.type_inv, stored c.get_i32-2.ensures c.get_i32-2.type_inv)
    (simp add_assoc)
