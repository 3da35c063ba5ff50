use Rattle.std.proofs.Common.{◌≡◌, length, arith}
use Rattle.csv.specs.Records.{fields_of}
use Rattle.base_records.proofs.FieldLists.{three_fields_are}
use Rattle.base_records.proofs.fields.three_fields.Goals as goal

pub returns : goal.returns
returns c =
    let count : length (fields_of c.args.row.now) ≡ 3 =
    let e = c.len.ensures in let f = c.if-len-ne3.false in omega arith in
    three_fields_are (fields_of c.args.row.now) _ _ _ count
    c.field.ensures c.field-2.ensures c.field-3.ensures
