-- Sheet A's recovery box contracts under the plain law. Rates over the whole box, or near the working box's faces, would be others (document 01, "Shortcuts that
-- let the sledge through"). Assumes nothing.
use mathlib.Core.Path.{◌≡◌, refl}
use mathlib.Core.List.{List, ◌∷◌, ◌++◌}
use Prim.Native.Nat.{◌-◌}
use lib.IntN.{ℤ, pos, negsuc}
use lib.ListN.{replicate}
use Rattle.sheet_spec.specs.Slots.{N}
use Rattle.sheet_spec.specs.Sheet.{values}
use Rattle.sheet_spec.specs.SheetA.{file_a}
use Rattle.sheet_spec.proofs.Everything as sheet
use Rattle.machine_spec.specs.declared.Law.TheVariants.{Baseline}
use Rattle.machine_spec.specs.Machine.{machine}
use Rattle.machine_spec.specs.Rate.{rates}
use Rattle.machine_spec.proofs.Everything.{everything}

abbrev interval : ℤ → ℤ → List ℤ
interval l h = (l ∷ replicate (N - 1) (pos 0)) ++ (h ∷ replicate (N - 1) (pos 0))

-- a step of length 4 from −100..100: the neighborhoods end at −75 and 75
contracts : rates (machine (values file_a) Baseline) (interval (negsuc 99) (pos 100)) 4 (interval (negsuc 99) (pos 100)) ≡ interval (pos 3) (negsuc 2)
unfolding sheet.everything everything
contracts = refl

-- and still do where the working box is wider
contracts_wider : rates (machine (values file_a) Baseline) (interval (negsuc 99) (pos 100)) 4 (interval (negsuc 109) (pos 110)) ≡ interval (pos 3) (negsuc 2)
unfolding sheet.everything everything
contracts_wider = refl
