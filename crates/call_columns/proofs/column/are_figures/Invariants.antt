use Rattle.std.proofs.Common.{◌≡◌, map, drop}
use Rattle.csv.specs.Records.{fields_of}
use Rattle.call_columns.specs.Columns.{are_figures}
use Rattle.call_columns.proofs.column.are_figures.Given as goal

-- what is said of the records that are left is said of all
abbrev pub invariant-loop-row : goal.invariant-loop-row
invariant-loop-row l = are_figures (map fields_of (drop l.row-index l.rows)) l.place
    ≡ are_figures (map fields_of l.rows) l.place
