use Rattle.std.proofs.Common.{◌≡◌, length, arith}
use Rattle.csv.specs.Records.{fields_of}
use Rattle.base_records.proofs.FieldLists.{five_fields_are}
use Rattle.base_records.proofs.fields.five_fields.Goals as goal

pub returns : goal.returns
returns c =
    let count : length (fields_of c.args.row.now) ≡ 5 =
    let e = c.len.ensures in let f = c.if-len-ne5.false in omega arith in
    five_fields_are (fields_of c.args.row.now) _ _ _ _ _ count
    c.field.ensures c.field-2.ensures c.field-3.ensures c.field-4.ensures c.field-5.ensures
