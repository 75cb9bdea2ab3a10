-- The measured box of a question has nothing beyond its sides. Assumes nothing.
use mathlib.Core.Path.{◌≡◌}
use mathlib.Core.List.{List}
use Prim.Native.Nat.{ℕ, ◌≤◌}
use Rattle.sheet_spec.specs.Slots.{N}
use Rattle.machine_spec.specs.Box.{trim}
use Rattle.machine_spec.proofs.InPlace.{trim_sides}
use Rattle.decision_spec.specs.Question.{pairs, measured}

pub measured_trimmed : (n : ℕ) (g : List ℕ) → n ≤ N → trim n (measured n g) ≡ measured n g
unfolding measured pairs
measured_trimmed n g room = trim_sides n room _ _
