-- `write_box`: the first i pairs of sides are written. Assumes nothing.
use Rattle.std.proofs.Common.{ℕ, ◌*◌, ◌≡◌}
use Rattle.std.proofs.lemmas.List.Edits.{sets}
use Rattle.sheet_spec.specs.Slots.{pair_size}
use Rattle.sheet_spec.specs.Fields.{coded}
use Rattle.sheet_spec.specs.Sizes.{letters}
use Rattle.sheet_spec.specs.Layout.{box_fields}
use Rattle.sheet_writer.proofs.record.write_box.Given as goal

abbrev pub invariant-loop-i : goal.invariant-loop-i
invariant-loop-i l = (h : ℕ) → l.s ≡ sets l.initial.s letters (coded (box_fields h l.slot) l.v (l.i * pair_size))
