use Rattle.std.proofs.Common.{◌≡◌, ◌+◌, ◌≤◌, length}
use Rattle.base_records.specs.{Left.IsReading, Left.left_of, RecordFile.after_records}
use Rattle.base_records.proofs.read.read_rows.Given as goal

abbrev pub invariant-rows : goal.invariant-rows
invariant-rows g l =
    let file = g.R.RecordReader.file l.reader in
    let said = g.R.RecordReader.said l.reading in
    record {
      reading : IsReading l.rows;
      later : 2 ≤ l.n;
      number : l.n + length (left_of l.rows) ≡ 2 + length (left_of l.fn.rows);
      before : g.R.RecordReader.Before l.reader l.n said;
      rest : after_records file said l.n (left_of l.rows)
          ≡ after_records file file.start 2 (left_of l.fn.rows);
    }

abbrev pub decreases-rows : goal.decreases-rows
decreases-rows g l = length (left_of l.rows)
