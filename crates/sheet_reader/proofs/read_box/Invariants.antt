-- `read_box`: a box's sides, in pairs. The invariant: those of the first i variables were read. Assumes nothing.
use Rattle.std.proofs.Common.{◌≡◌, ℕ, ◌*◌}
use Rattle.sheet_spec.specs.Slots.{pair_size}
use Rattle.sheet_spec.specs.Fields.{filled}
use Rattle.sheet_spec.specs.Layout.{box_fields}
use Rattle.sheet_reader.proofs.read_box.Given as goal

abbrev pub invariant-loop-i : goal.invariant-loop-i
invariant-loop-i l = (h : ℕ) → l.v ≡ filled (box_fields h l.slot) l.f l.at (l.i * pair_size) l.initial.v
