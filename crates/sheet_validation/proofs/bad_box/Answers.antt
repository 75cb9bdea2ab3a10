-- `bad_box`: a box's sides, in pairs. Assumes nothing.
use Rattle.std.proofs.Common.{◌≡◌, ◌∙◌, ◌+◌, ◌*◌, ℕ, List, ℤ, ap, arith, rules}
use Rattle.sheet_spec.specs.Slots.{pair_size}
use Rattle.sheet_spec.proofs.FieldRuns.{bad_none, bad_next, bad_stop}
use Rattle.sheet_spec.proofs.FieldPlaces.{side_run}
use Rattle.sheet_encoding.proofs.SlotNumber.{held, minus, most}
use Rattle.sheet_spec.specs.Fields.{test, bad}
use Rattle.sheet_spec.specs.Layout.{◌▸◌, box_fields, side_fields}
use Rattle.sheet_validation.proofs.bad_box.Goals as goal

-- one side more
module _ (h s : ℕ) (v : List ℤ) (i : ℕ) where
  lower : {y : ℕ} → 0 ≡ bad (box_fields h s) v (i * pair_size) → y ≡ test v (side_fields h (s + i) 0) → y ≡ bad (box_fields h s) v (i * pair_size + 1)
  lower pass = bad_next (box_fields h s) (i * pair_size + 0) (i * pair_size + 1) (omega arith) _ ((side_run h s i).at 0 (omega arith)) v (pass ∙ ap (bad (box_fields h s) v) (omega arith))

  upper : {y : ℕ} → 0 ≡ bad (box_fields h s) v (i * pair_size + 1) → y ≡ test v (side_fields h (s + i) 1) → y ≡ bad (box_fields h s) v ((i + 1) * pair_size)
  upper = bad_next (box_fields h s) (i * pair_size + 1) ((i + 1) * pair_size) (omega arith) _ ((side_run h s i).at 1 (omega arith)) v

pub loop-i-init : goal.loop-i-init
loop-i-init c = search (rules, bad_none)

pub returns-in_err-in_range : goal.returns-in_err-in_range
unfolding side_fields ◌▸◌
returns-in_err-in_range c =
    let f = c.ranges.most in
    search (rules, bad_stop (box_fields c.args.most c.args.slot) c.args.v.now (c.loop-i.i * pair_size + 1), lower, minus, most)

pub returns-in_err-in_range-2 : goal.returns-in_err-in_range-2
unfolding side_fields ◌▸◌
returns-in_err-in_range-2 c = search (rules, bad_stop (box_fields c.args.most c.args.slot) c.args.v.now ((c.loop-i.i + 1) * pair_size), lower, upper, held, minus, most)

pub loop-i-preserved : goal.loop-i-preserved
unfolding side_fields ◌▸◌
loop-i-preserved c = search (rules, lower, upper, held, minus, most)
