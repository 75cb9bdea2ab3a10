-- `read_record`: a record's numbers, by its kind. Assumes nothing.
use Rattle.std.proofs.Common.{◌≡◌, ℕ, ◌+◌, ◌≤◌, List, ℤ, subst, sym, ap, ◌∙◌, arith}
use Rattle.sheet_spec.specs.Limits.{max_recovery_side, max_unsafe_side}
use Rattle.sheet_spec.specs.declared.Record.{Record}
use Rattle.sheet_spec.specs.Fields.{filled}
use Rattle.sheet_spec.specs.Layout.{field_count, fields}
use Rattle.sheet_spec.specs.File.{HasRoom, record_length}
use Rattle.sheet_spec.proofs.Length.{record_size, record_size_lem}
use Rattle.sheet_reader.proofs.read_record.Goals as goal

-- the record y is x
module _ {y x : Record} (is : y ≡ x) where
  -- there is room for it, and it ends within the file
  room : HasRoom y → HasRoom x
  room h = subst HasRoom is h

  ends : (n at l : ℕ) → at + record_length n y ≤ l → at + record_size n x ≤ l
  ends n at l h = omega (arith, record_size_lem n y ∙ ap (record_size n) is)

  those : (n : ℕ) (f : List ℕ) (at : ℕ) (v : List ℤ) {w : List ℤ} → w ≡ filled (fields n x) f at (field_count n x) v → w ≡ filled (fields n y) f at (field_count n y) v
  those n f at v h = h ∙ ap (λ (z : Record). filled (fields n z) f at (field_count n z) v) (sym is)

pub read_caps-requires : goal.read_caps-requires
read_caps-requires c = ends c.in-Head.is _ _ _ c.requires.record_in_bounds

pub read_band-requires : goal.read_band-requires
read_band-requires c =
    let h = ends c.in-Band.is _ _ _ c.requires.record_in_bounds in
    (room c.in-Band.is c.requires.small.1, omega (arith, h))

pub read_box-requires : goal.read_box-requires
read_box-requires c =
    let h = ends c.in-Unsafe.is _ _ _ c.requires.record_in_bounds in
    (omega (arith, room c.in-Unsafe.is c.requires.small.1), omega (arith, h))

pub read_box-requires-in-Recovery : goal.read_box-requires-in-Recovery
read_box-requires-in-Recovery c =
    let h = ends c.in-Recovery.is _ _ _ c.requires.record_in_bounds in
    (omega arith, omega (arith, h))

pub returns-in-Head : goal.returns-in-Head
unfolding fields
returns-in-Head c = those c.in-Head.is _ _ _ _ c.read_caps.ensures

pub returns-in-Band : goal.returns-in-Band
unfolding fields
returns-in-Band c = those c.in-Band.is _ _ _ _ c.read_band.ensures

pub returns-in-Unsafe : goal.returns-in-Unsafe
unfolding fields
returns-in-Unsafe c = those c.in-Unsafe.is _ _ _ _ (c.read_box.ensures max_unsafe_side)

pub returns-in-Recovery : goal.returns-in-Recovery
unfolding fields
returns-in-Recovery c = those c.in-Recovery.is _ _ _ _ (c.read_box-in-Recovery.ensures max_recovery_side)
