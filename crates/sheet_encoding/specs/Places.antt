-- A step of a walk over a file's records.
use Rattle.std.specs.Prelude.{◌≡◌, ℕ, ◌<◌}
use Rattle.sheet_spec.specs.declared.Record.{Record}
use Rattle.sheet_spec.specs.declared.Shape.{Shape}
use Rattle.sheet_spec.specs.File.{records, record_at, record_start}

-- x is the r-th record, and it starts at `at`
pub record IsPlaced (s : Shape) (r : ℕ) (x : Record) (at : ℕ) : Type 0 where
  pub below : r < records s
  pub is : x ≡ record_at s r
  pub start : at ≡ record_start s r
