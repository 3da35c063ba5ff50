use Rattle.std.proofs.lemmas.Result.{err_from_is_err_and}
use Rattle.call_engine.specs.Calls.{Calls}
use Rattle.model_line.specs.declared.line.Line.{Line}
use Rattle.file_line.specs.LineFiles.{line_of}
use Rattle.call_answer.specs.Sinks.{sink_view}
use Rattle.call_pilot.specs.top.CallAnswers.{done_with}
use Rattle.call_pilot.specs.{top.Commands.answer, top.Commands.asks, top.Reading.work_of_one}
use Rattle.call_pilot.proofs.top_lemmas.Reading.{asks_of_one, line_read, line_stops, no_memory, works_of_line}
use Rattle.call_pilot.proofs.{top_lemmas.Results.if_ok, top_lemmas.Written.works_of_said}
use Rattle.call_pilot.proofs.top.dispatch.one_file.Goals as goal

pub returns-in_err-line-clause-works : goal.returns-in_err-line-clause-works
returns-in_err-line-clause-works g c =
    let p = err_from_is_err_and c.from_residual.result c.from_residual.ensures.1 in
    rw (p.1, p.2) (line_stops (sink_view g.O.Sink.written g.O.Sink.faults)
    (line_of c.args.line.now)
    (λ (l : Line). done_with (answer (work_of_one c.args.work l))) c.args.out.now
    c.in_err-line.field-0.0 c.in_err-line.ensures)

pub returns-in_err-said-clause-works : goal.returns-in_err-said-clause-works
returns-in_err-said-clause-works g c =
    let p = err_from_is_err_and c.from_residual-in_err-said.result
    c.from_residual-in_err-said.ensures.1 in
    rw (p.1, p.2) (no_memory (sink_view g.O.Sink.written g.O.Sink.faults) _ c.args.out.now)

pub returns-clause-asked : goal.returns-clause-asked
returns-clause-asked g c =
    let l = c.in_ok-line.line in
    if_ok c.ended.result
    (λ (calls : Calls). line_read (line_of c.args.line.now) l _
    (λ (l : Line). asks (work_of_one c.args.work l) calls calls) c.in_ok-line.ensures
    (asks_of_one c.args.work l calls))

pub returns-clause-works : goal.returns-clause-works
returns-clause-works g c =
    let view = sink_view g.O.Sink.written g.O.Sink.faults in
    let l = c.in_ok-line.line in
    let allowed = answer (work_of_one c.args.work l) in
    works_of_line view (line_of c.args.line.now)
    (λ (l : Line). done_with (answer (work_of_one c.args.work l))) l
    c.args.out.now c.put_said.new.out c.ended.result c.in_ok-line.ensures
    (rw c.ended.ensures (works_of_said view allowed c.args.out.now c.put_said.new.out
    c.in_ok-said.said c.put_said.result c.in_ok-said.ensures c.put_said.ensures.status
    c.put_said.ensures.text))
