use Rattle.std.proofs.Common.{[], List, Result, map, subst, sym}
use Rattle.std.proofs.lemmas.Result.{err_from_is_err_and}
use Rattle.file_records.specs.map.Maps.{map_values}
use Rattle.call_records.specs.Answers.{over_records}
use Rattle.call_records.specs.Parts.{RecordParts, SectionRefusal, parts_from}
use Rattle.call_records.specs.Read.{Gives, files_values, record_values}
use Rattle.call_records.specs.Request.{asked_values}
use Rattle.call_records.proofs.Answering.{over_refused}
use Rattle.call_records.proofs.answer.answer.Goals as goal

pub returns-in_err-records : goal.returns-in_err-records
returns-in_err-records c =
    let p = err_from_is_err_and c.from_residual.result c.from_residual.ensures.1 in
    rw (p.1, p.2) (over_refused (asked_values c.args.asked) c.args.line.now (map_values c.args.map.now)
    (parts_from (map files_values c.args.files.now) []) c.in_err-records.field-0.0
    c.in_err-records.ensures.reads)

pub returns : goal.returns
returns c =
    let records = map record_values c.in_ok-records.records.items in
    let given = rw c.as_slice.ensures.value at c.over_records.ensures in
    subst (λ (s : Result (List RecordParts) SectionRefusal).
    Gives (over_records (asked_values c.args.asked) c.args.line.now (map_values c.args.map.now) s) c.over_records.result)
    (sym c.in_ok-records.ensures.reads) given
