use Rattle.std.proofs.Common.{◌≡◌, ◌++◌, map, drop}
use Rattle.std.specs.List.{flat_map}
use Rattle.csv.specs.Records.{fields_of}
use Rattle.call_columns.specs.Lines.{line_of}
use Rattle.call_columns.proofs.table.push_lines.Given as goal

-- the text so far and the lines of the records that are left are the whole
abbrev pub invariant-loop-row : goal.invariant-loop-row
invariant-loop-row l =
    l.text.items ++ flat_map (line_of l.is_colored l.columns)
    (map fields_of (drop l.row-index l.rows))
    ≡ l.fn.text.items ++ flat_map (line_of l.is_colored l.columns) (map fields_of l.rows)
