use Rattle.std.proofs.Common.{◌≡◌, map, drop}
use Rattle.std.specs.Prelude.{max}
use Rattle.csv.specs.Records.{fields_of}
use Rattle.call_columns.specs.Columns.{width_of}
use Rattle.call_columns.proofs.column.width_of.Given as goal

-- the greatest so far and that of the records that are left is the greatest
abbrev pub invariant-loop-row : goal.invariant-loop-row
invariant-loop-row l = max l.width (width_of (map fields_of (drop l.row-index l.rows)) l.place)
    ≡ width_of (map fields_of l.rows) l.place
