-- The starred checks hold: the two columns of the table are equal. Each row is computed by itself; both columns at once take much longer. Assumes nothing.
use mathlib.Core.Path.{◌≡◌, refl}
use mathlib.Core.List.{List, [], ◌∷◌, map}
use Rattle.sheet_spec.specs.SheetA.{file_a}
use Rattle.decision_spec.specs.Starred.{Check, asks_a, lines, others, table}
use Rattle.decision_spec.proofs.Everything.{everything}

abbrev Rows : List Check → Type 0
Rows [] = Unit {0}
Rows (c ∷ cs) = (c.computed ≡ c.expected) × Rows cs

columns : (cs : List Check) → Rows cs → map (λ (c : Check). c.computed) cs ≡ map (λ (c : Check). c.expected) cs
columns [] r = refl
columns (c ∷ cs) r = λ i. r.0 i ∷ columns cs r.1 i

pub starred : map (λ (c : Check). c.computed) table ≡ map (λ (c : Check). c.expected) table
unfolding table lines others asks_a file_a everything
starred = columns table (refl, (refl, (refl, (refl, (refl, (refl, (refl, (refl, (refl, (refl, (refl, (refl, (refl, (refl, (refl, tt)))))))))))))))
