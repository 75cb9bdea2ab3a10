-- `record_length`: the letters and what follows them. Assumes nothing.
use Rattle.std.proofs.Common.{◌≡◌, ℕ, sym, ap, ◌∙◌}
use mathlib.Core.Logic.{⊎_elim}
use Rattle.sheet_spec.specs.declared.Record.{Record}
use Rattle.sheet_spec.specs.declared.Record.TheVariants.{Unsafe, Recovery}
use Rattle.sheet_spec.specs.File.{record_length}
use Rattle.sheet_spec.proofs.Length.{record_size, record_size_lem}
use Rattle.sheet_encoding.proofs.records.record_length.Goals as goal

-- the length of the record, which is x
length_is : (n : ℕ) {y x : Record} → y ≡ x → record_size n x ≡ record_length n y
length_is n {y} e = ap (record_size n) (sym e) ∙ sym (record_size_lem n y)

pub returns-in-Head : goal.returns-in-Head
returns-in-Head c = length_is _ c.in-Head.is

pub returns-in-Band : goal.returns-in-Band
returns-in-Band c = c.band_length.ensures ∙ length_is _ c.in-Band.is

pub returns-in-Unsafe : goal.returns-in-Unsafe
returns-in-Unsafe c = ⊎_elim (λ (box : (j : ℕ) × (c.args.record ≡ Unsafe j)). length_is _ box.1) (λ (recovery : c.args.record ≡ Recovery). length_is _ recovery) c.in-Unsafe.is
