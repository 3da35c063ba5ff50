use Rattle.std.proofs.Common.{◌≡◌, ◌∙◌, [], Option, None, Some, Result, Err, refl, subst, sym}
use Rattle.std.proofs.lemmas.Result.{err_from_is_err_and}
use Rattle.file_records.specs.map.Maps.{MapValues, map_of, map_values}
use Rattle.file_document.specs.declared.fault.DocumentFault.{DocumentFault}
use Rattle.file_records.specs.declared.map.source.Signal.{Signal}
use Rattle.call_records.specs.Course.{after_map, over, recorders_course, unless_untold, untold_by}
use Rattle.call_records.specs.Faults.{map_refusal, untold_refusal}
use Rattle.call_records.specs.{Files.Runs, Read.text_seen, Request.asked_values}
use Rattle.call_records.proofs.Running.{reader_stops, runs_refused}
use Rattle.call_records.proofs.top.text_by_map.Goals as goal

pub returns-in_err-map : goal.returns-in_err-map
returns-in_err-map g c =
    let p = err_from_is_err_and c.from_residual.result c.from_residual.ensures.1 in
    let held = g.S.Store.held c.args.store.now in
    let asked = asked_values c.args.asked in
    let line = c.args.line.now in
    rw (p.1, p.2) (reader_stops held (map_refusal asked.name asked.bytes) (map_of line asked.bytes)
    (after_map asked line) (λ e. refl) c.in_err-map.field-0.0 (g.S.Store.faults c.args.store.now)
    c.in_err-map.ensures.reads)

pub returns-in-Some : goal.returns-in-Some
returns-in-Some g c =
    let held = g.S.Store.held c.args.store.now in
    let counts = g.S.Store.faults c.args.store.now in
    let asked = asked_values c.args.asked in
    let line = c.args.line.now in
    let m = map_values c.in_ok-map.map in
    let why = c.untold_halt.result in
    let untold : untold_by asked.work line m ≡ Some c.in-Some.signal =
    sym c.untold.ensures ∙ c.in-Some.is in
    subst (λ (s : Result MapValues DocumentFault).
    Runs held counts counts (after_map asked line s) (Err why)) (sym c.in_ok-map.ensures.reads)
    (subst (λ (o : Option Signal).
    Runs held counts counts
    (unless_untold asked o line (recorders_course asked.name m.recorders [] (over asked line m)))
    (Err why)) (sym untold)
    (runs_refused held (untold_refusal asked.name asked.bytes line c.in-Some.signal) why counts
    c.untold_halt.ensures))

pub returns : goal.returns
returns g c =
    let held = g.S.Store.held c.args.store.now in
    let c1 = g.S.Store.faults c.args.store.now in
    let c2 = g.S.Store.faults c.text_for_map.new.store in
    let asked = asked_values c.args.asked in
    let line = c.args.line.now in
    let m = map_values c.in_ok-map.map in
    let r = text_seen c.text_for_map.result in
    let untold : untold_by asked.work line m ≡ None = sym c.untold.ensures ∙ c.in-None.is in
    subst (λ (s : Result MapValues DocumentFault). Runs held c1 c2 (after_map asked line s) r)
    (sym c.in_ok-map.ensures.reads)
    (subst (λ (o : Option Signal).
    Runs held c1 c2
    (unless_untold asked o line (recorders_course asked.name m.recorders [] (over asked line m))) r)
    (sym untold) c.text_for_map.ensures)
