use Rattle.std.proofs.Common.{ℕ, List}
use Rattle.std.proofs.lemmas.Result.{err_from_is_err_and}
use Rattle.file_records.specs.map.Maps.{map_of}
use Rattle.call_records.specs.{Course.after_map, Course.map_file, Read.text_seen, Request.asked_with}
use Rattle.call_records.proofs.Running.{runs_next, runs_stops}
use Rattle.call_records.proofs.top.text_for_line.Goals as goal

pub returns-in_err-bytes : goal.returns-in_err-bytes
returns-in_err-bytes g c =
    let p = err_from_is_err_and c.from_residual.result c.from_residual.ensures.1 in
    let held = g.S.Store.held c.args.store.now in
    let faults = g.S.Store.faults in
    let ask = c.args.ask.now in
    let line = c.args.line.now in
    rw (p.1, p.2) (runs_stops held (map_file ask.map.now)
    (λ b. after_map (asked_with ask.work ask.map.now b) line (map_of line b))
    c.in_err-bytes.field-0.0 (faults c.args.store.now) (faults c.fetch_file.new.store)
    c.in_err-bytes.ensures.file)

pub returns : goal.returns
returns g c =
    let held = g.S.Store.held c.args.store.now in
    let faults = g.S.Store.faults in
    let c1 = faults c.args.store.now in
    let c2 = faults c.fetch_file.new.store in
    let c3 = faults c.text_by_map.new.store in
    let ask = c.args.ask.now in
    let line = c.args.line.now in
    let bytes : List ℕ = c.in_ok-bytes.bytes.items in
    let f = c.in_ok-bytes.ensures.file in
    let run = rw (c.as_slice.ensures.value, c.in_ok-bytes.ensures.held) at c.text_by_map.ensures in
    runs_next held (map_file ask.map.now)
    (λ b. after_map (asked_with ask.work ask.map.now b) line (map_of line b)) bytes f.1 f.2
    (text_seen c.text_by_map.result) c1 c2 c3 f.0 run
