use Rattle.std.proofs.Common.{List, [], Err, map, subst}
use Rattle.std.proofs.lemmas.Result.{err_from_is_err_and}
use Rattle.file_records.specs.{map.Maps.map_values, map.Recorders.recorder_values}
use Rattle.file_records.specs.declared.map.recorder.Recorder.{Recorder}
use Rattle.call_records.specs.Course.{over, recorders_course}
use Rattle.call_records.specs.{Files.Runs, Request.asked_values}
use Rattle.call_records.specs.Read.{files_values, text_seen}
use Rattle.call_records.proofs.Running.{runs_over}
use Rattle.call_records.proofs.top.text_for_map.Goals as goal

pub returns : goal.returns
returns g c =
    let held = g.S.Store.held c.args.store.now in
    let counts = g.S.Store.faults c.fetch_recorders.new.store in
    let asked = asked_values c.args.asked in
    let line = c.args.line.now in
    let m = map_values c.args.map.now in
    (rw c.as_slice.ensures.value at (c.in_ok-files.ensures.course (over asked line m))) counts
    (text_seen c.answer.result)
    (runs_over held asked line m (map files_values c.in_ok-files.files.items) c.answer.result counts
    (rw c.as_slice-2.ensures.value at c.answer.ensures))

pub returns-in_err-files : goal.returns-in_err-files
returns-in_err-files g c =
    let p = err_from_is_err_and c.from_residual.result c.from_residual.ensures.1 in
    let held = g.S.Store.held c.args.store.now in
    let c1 = g.S.Store.faults c.args.store.now in
    let c2 = g.S.Store.faults c.fetch_recorders.new.store in
    let next = over (asked_values c.args.asked) c.args.line.now (map_values c.args.map.now) in
    rw (p.1, p.2) (subst (λ (rs : List Recorder).
    Runs held c1 c2 (recorders_course c.args.asked.name.now (map recorder_values rs) [] next)
    (Err c.in_err-files.field-0.0)) c.as_slice.ensures.value (c.in_err-files.ensures.course next))
