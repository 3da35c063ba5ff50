use Rattle.std.proofs.Common.{◌<◌, ◌∙◌, length, sym, ap, arith}
use Rattle.std.proofs.lemmas.Result.{err_from_is_err_and}
use Rattle.csv.specs.Records.{fields_of}
use Rattle.base_records.specs.{Left.left_of, RecordFile.after_header}
use Rattle.base_records.proofs.Folds.{no_more_records, record_fails, record_passes, some_records}
use Rattle.base_records.proofs.read.read_rows.Goals as goal

pub returns-in_err-reading-clause-said : goal.returns-in_err-reading-clause-said
returns-in_err-reading-clause-said g c =
    let file = g.R.RecordReader.file c.args.reader.now in
    let all = left_of c.args.rows in
    let inv = c.rows.invariant in
    let told = err_from_is_err_and c.from_residual-in_err-reading.result
    c.from_residual-in_err-reading.ensures.1 in
    let row = rw c.if-branch.true at c.in_ok-next_row.ensures in
    let some : 0 < length all = omega (arith, inv.later, inv.number, ap length row.0) in
    rw (told.1, told.2) (record_fails file (g.R.RecordReader.said c.rows.reading) c.rows.n
    (left_of c.rows.rows) (fields_of c.next_row.new.row) (left_of c.next_row.new.rows)
    (after_header file all) c.in_err-reading.field-0.0 row.0
    c.in_err-reading.ensures (inv.rest ∙ sym (some_records file all some)))

pub rows-preserved : goal.rows-preserved
rows-preserved g c =
    let file = g.R.RecordReader.file c.args.reader.now in
    let said = g.R.RecordReader.said in
    let inv = c.rows.invariant in
    let row = rw c.if-branch.true at c.in_ok-next_row.ensures in
    record {
      reading = row.1;
      later = omega (arith, inv.later);
      number = omega (arith, inv.number, ap length row.0);
      before = c.requires.goes_on c.rows.n (said c.rows.reading) (said c.in_ok-reading.reading)
          (fields_of c.next_row.new.row) inv.before c.in_ok-reading.ensures;
      rest = record_passes file (said c.rows.reading) c.rows.n (left_of c.rows.rows)
          (fields_of c.next_row.new.row) (left_of c.next_row.new.rows) _ (said c.in_ok-reading.reading)
          row.0 c.in_ok-reading.ensures inv.rest;
    }

pub returns-clause-said : goal.returns-clause-said
returns-clause-said g c =
    let file = g.R.RecordReader.file c.args.reader.now in
    let all = left_of c.args.rows in
    let inv = c.rows.invariant in
    let none = rw c.if-branch.false at c.in_ok-next_row.ensures in
    let more = c.if-n-eq2.false in
    let some : 0 < length all = omega (arith, inv.later, inv.number, ap length none) in
    some_records file all some ∙ sym inv.rest
    ∙ no_more_records file (g.R.RecordReader.said c.rows.reading) c.rows.n (left_of c.rows.rows) none
