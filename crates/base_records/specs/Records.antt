-- The records of a CSV text with no header row and of any length.
use Rattle.std.specs.Prelude.{ℕ, List}
use Rattle.csv.specs.Reading.{records, default_config, strip_bom}

-- the records of these bytes in order, each a list of fields; a byte order mark is taken off first
unfoldable pub records_of : List ℕ → List (List (List ℕ))
records_of bytes = records default_config (strip_bom bytes)
