use Rattle.std.proofs.Common.{◌≡◌, map}
use Rattle.csv.specs.Records.{fields_of}
use Rattle.call_columns.specs.Columns.{columns_below}
use Rattle.call_columns.proofs.column.columns_of.Given as goal

abbrev pub invariant-loop-place : goal.invariant-loop-place
invariant-loop-place l =
    l.columns.items ≡ columns_below (fields_of l.header) (map fields_of l.rows) l.place
