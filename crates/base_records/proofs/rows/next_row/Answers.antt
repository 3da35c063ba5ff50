use Rattle.csv.specs.Records.{fields_of}
use Rattle.base_records.proofs.LeftRecords.{next_of}
use Rattle.base_records.proofs.rows.next_row.Goals as goal

pub returns-in-Ok : goal.returns-in-Ok
returns-in-Ok c =
    let read = c.in-Ok.ensures in
    let reading = c.requires in
    next_of c.args.rows.now c.read_byte_record.new.self c.in-Ok.found
    (fields_of c.read_byte_record.new.row) reading (read.reads reading.trim reading.ready)
    (read.ready reading.trim) read.flexible
