use Rattle.std.proofs.Common.{◌≡◌, map, drop}
use Rattle.csv.specs.Records.{fields_of}
use Rattle.call_columns.specs.Columns.{stands}
use Rattle.call_columns.proofs.column.stands.Given as goal

-- what is said of the records that are left is said of all
abbrev pub invariant-loop-row : goal.invariant-loop-row
invariant-loop-row l = stands (map fields_of (drop l.row-index l.rows)) l.place
    ≡ stands (map fields_of l.rows) l.place
