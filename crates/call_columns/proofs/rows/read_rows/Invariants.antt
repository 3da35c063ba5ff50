use Rattle.std.proofs.Common.{◌≡◌, ◌++◌, length, map}
use Rattle.csv.specs.Records.{fields_of}
use Rattle.base_records.specs.Left.{IsReading, left_of}
use Rattle.call_columns.proofs.rows.read_rows.Given as goal

-- the records so far and those that are left are all of them
abbrev pub invariant-rows : goal.invariant-rows
invariant-rows l = record {
  reading : IsReading l.reader;
  all : map fields_of l.rows.items ++ left_of l.reader ≡ left_of l.fn.reader;
}

abbrev pub decreases-rows : goal.decreases-rows
decreases-rows l = length (left_of l.reader)
