use Rattle.std.proofs.Common.{◌∙◌, sym}
use Rattle.csv.specs.Records.{fields_of}
use Rattle.call_columns.proofs.Places.{first_place}
use Rattle.call_columns.proofs.answers.place_named.Goals as goal

pub returns-then-is : goal.returns-then-is
returns-then-is c =
    let here = rw c.field_of.ensures at (sym c.is.ensures ∙ c.if-is.true) in
    sym (first_place c.args.name.now (fields_of c.args.header.now) c.loop-place.place
    (rw c.len-place-end.ensures at c.loop-place-test.true) c.loop-place.invariant here)
