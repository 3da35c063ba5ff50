-- What contracts see of a sink over a writer or a file: its counts alone.
use Rattle.std.specs.Prelude.{ℕ}

-- how many pushes took nothing, and how many pushes were made
pub record SinkCounts : Type 0 where
  pub faults : ℕ
  pub pushes : ℕ
