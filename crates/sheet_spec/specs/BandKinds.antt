-- The kind of a sheet's bands (document 02, paper 9) is told by the first band's mark in a file, and by the divisor of the first band's law in a value.
-- `KindsAgree` says that both tell the same of every accepted file; proofs/BandKinds proves it.
use Rattle.std.specs.Prelude.{◌≡◌, List, ℕ, ◌+◌, ◌<◌, pos}
use Rattle.sheet_spec.specs.Limits.{max_bands}
use Rattle.sheet_spec.specs.Slots.{◌!◌, law_size, law_slot, vars, band_kind}
use Rattle.sheet_spec.specs.declared.BandKind.TheVariants.{Fixed}
use Rattle.sheet_spec.specs.Sheet.{kind_of, refusal, values}

pub record OneKind (f : List ℕ) : Type 0 where
  -- the file's mark and the value's divisor tell one kind
  pub same : kind_of f (vars (values f)) ≡ band_kind (values f)
  -- and bands without a law are read with zeros for its numbers
  pub zero : band_kind (values f) ≡ Fixed → (k j : ℕ) → k < max_bands → j < law_size → values f ! (law_slot k + j) ≡ pos 0

abbrev pub KindsAgree : Type 0
KindsAgree = (f : List ℕ) → refusal f ≡ 0 → OneKind f
