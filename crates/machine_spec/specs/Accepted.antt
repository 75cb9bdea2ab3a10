-- What holds of a machine: the numbers of its sheet are in their ranges, and its law is one that the sheet allows. The laws take what they need of a
-- machine from here, or from its sheet alone where the law does not matter.
use Rattle.std.specs.Prelude.{List, ℤ, ◌≤ℤ◌}
use Rattle.sheet_spec.specs.Slots.{least_command, greatest_command}
use Rattle.sheet_spec.specs.Valid.{ValidNumbers}
use Rattle.machine_spec.specs.declared.Law.{Law}
use Rattle.machine_spec.specs.declared.Law.TheVariants.{Baseline, Span}
use Rattle.machine_spec.specs.Machine.{Machine}

-- the sheet v allows the commands from l to h: they are in order, and are the head's
pub record LawfulSpan (v : List ℤ) (l h : ℤ) : Type 0 where
  pub low : least_command v ≤ℤ l
  pub order : l ≤ℤ h
  pub high : h ≤ℤ greatest_command v

-- the sheet v allows the law
abbrev pub Lawful : List ℤ → Law → Type 0
Lawful v Baseline = Unit
Lawful v (Span l h) = LawfulSpan v l h

pub record Accepted (m : Machine) : Type 0 where
  pub sheet : ValidNumbers m.sheet
  pub law : Lawful m.sheet m.law
