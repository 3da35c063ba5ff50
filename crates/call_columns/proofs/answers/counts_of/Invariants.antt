use Rattle.std.proofs.Common.{◌≡◌, map, drop}
use Rattle.std.specs.Prelude.{fold}
use Rattle.csv.specs.Records.{fields_of}
use Rattle.call_columns.specs.Answers.{counts_of, with_row}
use Rattle.call_columns.proofs.answers.counts_of.Given as goal

-- counted on over the records that are left, it is what all come to
abbrev pub invariant-loop-row : goal.invariant-loop-row
invariant-loop-row l =
    fold (with_row l.source) l.counts (map fields_of (drop l.row-index l.rows))
    ≡ counts_of l.source (map fields_of l.rows)
