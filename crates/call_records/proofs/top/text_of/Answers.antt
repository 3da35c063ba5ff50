use Rattle.std.proofs.Common.{ℕ, List, Result, Err, refl, subst, sym}
use Rattle.std.proofs.lemmas.Result.{err_from_is_err_and}
use Rattle.file_line.specs.{LineFiles.line_of, Lines.LineValues, Lines.line_values}
use Rattle.file_document.specs.declared.fault.DocumentFault.{DocumentFault}
use Rattle.call_records.specs.Course.{after_line, line_file, with_line}
use Rattle.call_records.specs.Faults.{line_refusal}
use Rattle.call_records.specs.{Files.Runs, Read.text_seen, Request.request_of}
use Rattle.call_records.proofs.Running.{reader_stops, runs_made, runs_next, runs_stops}
use Rattle.call_records.proofs.top.text_of.Goals as goal

pub returns-in_err-bytes : goal.returns-in_err-bytes
returns-in_err-bytes g c =
    let p = err_from_is_err_and c.from_residual.result c.from_residual.ensures.1 in
    let held = g.S.Store.held c.args.store.now in
    let faults = g.S.Store.faults in
    let ask = c.args.ask.now in
    rw (p.1, p.2) (runs_stops held (line_file ask.line.now)
    (λ b. after_line (request_of ask) b (line_of b)) c.in_err-bytes.field-0.0
    (faults c.args.store.now) (faults c.fetch_file.new.store) c.in_err-bytes.ensures.file)

pub returns-in_err-line : goal.returns-in_err-line
returns-in_err-line g c =
    let p = err_from_is_err_and c.from_residual-in_err-line.result
    c.from_residual-in_err-line.ensures.1 in
    let held = g.S.Store.held c.args.store.now in
    let faults = g.S.Store.faults in
    let c1 = faults c.args.store.now in
    let c2 = faults c.fetch_file.new.store in
    let ask = c.args.ask.now in
    let bytes : List ℕ = c.in_ok-bytes.bytes.items in
    let f = c.in_ok-bytes.ensures.file in
    let why = c.in_err-line.field-0.0 in
    let stops = rw c.as_slice.ensures.value at c.in_err-line.ensures in
    rw (p.1, p.2) (runs_next held (line_file ask.line.now)
    (λ b. after_line (request_of ask) b (line_of b)) bytes f.1 f.2 (Err why) c1 c2 c2 f.0
    (reader_stops held (line_refusal ask.line.now bytes) (line_of bytes)
    (after_line (request_of ask) bytes) (λ e. refl) why c2 stops))

pub returns : goal.returns
returns g c =
    let held = g.S.Store.held c.args.store.now in
    let faults = g.S.Store.faults in
    let c1 = faults c.args.store.now in
    let c2 = faults c.fetch_file.new.store in
    let c3 = faults c.text_for_line.new.store in
    let ask = c.args.ask.now in
    let bytes : List ℕ = c.in_ok-bytes.bytes.items in
    let line = c.in_ok-line.line in
    let f = c.in_ok-bytes.ensures.file in
    let r = text_seen c.text_for_line.result in
    let said = rw c.as_slice.ensures.value at c.in_ok-line.ensures in
    let run = rw c.in_ok-bytes.ensures.held at c.text_for_line.ensures in
    runs_next held (line_file ask.line.now) (λ b. after_line (request_of ask) b (line_of b)) bytes
    f.1 f.2 r c1 c2 c3 f.0
    (subst (λ (s : Result LineValues DocumentFault).
    Runs held c2 c3 (after_line (request_of ask) bytes s) r) (sym said)
    (runs_made held (line_values line) (with_line ask.work ask.map.now) line refl r c2 c3 run))
