use Rattle.std.proofs.Common.{◌≡◌, ◌++◌, map, drop}
use Rattle.std.specs.List.{flat_map}
use Rattle.csv.specs.Records.{fields_of}
use Rattle.call_columns.specs.Answers.{stretch_in, summary}
use Rattle.call_columns.proofs.answers.push_summary.Given as goal

-- the text so far and the stretches of the records that are left are the whole
abbrev pub invariant-loop-row : goal.invariant-loop-row
invariant-loop-row l =
    l.text.items ++ flat_map (stretch_in (fields_of l.header))
    (map fields_of (drop l.row-index l.rows))
    ≡ l.fn.text.items ++ summary (fields_of l.header) (map fields_of l.rows)
