use Rattle.std.proofs.Common.{◌≡◌, ◌∷◌, ◌∙◌, length, sym, ap, arith}
use Rattle.csv.specs.Records.{fields_of}
use Rattle.base_records.specs.{Left.left_of, Records.records_of}
use Rattle.base_records.proofs.AllRecords.{few_records}
use Rattle.base_records.proofs.read.read_file.Goals as goal

pub read_rows-requires-clause-numbers : goal.read_rows-requires-clause-numbers
read_rows-requires-clause-numbers g c = λ n s small before.
    let header = rw c.if-branch.true at c.in_ok-next_row.ensures in
    let all : records_of c.args.bytes.now
    ≡ fields_of c.next_row.new.row ∷ left_of c.next_row.new.rows =
    sym c.rows_of-rows.ensures.left ∙ header.0 in
    c.requires.numbers n s (omega (arith, few_records c.args.bytes.now, ap length all)) before
