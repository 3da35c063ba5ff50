use Rattle.std.proofs.Common.{sym}
use Rattle.std.proofs.lemmas.Result.{err_from_is_err_and}
use Rattle.model_names.specs.NumbersByName.{param_named}
use Rattle.call_pilot.specs.commands.Margin.{margin_answer}
use Rattle.call_answer.specs.Sinks.{sink_view}
use Rattle.call_pilot.specs.top.CallAnswers.{done_with}
use Rattle.call_pilot.proofs.top_lemmas.Reading.{no_memory, parameter_stops, works_of_parameter}
use Rattle.call_pilot.proofs.top_lemmas.Written.{works_of_said}
use Rattle.call_pilot.proofs.top.dispatch.margin_of.Goals as goal

pub returns-in_default : goal.returns-in_default
returns-in_default g c =
    let view = sink_view g.O.Sink.written g.O.Sink.faults in
    let study = c.args.study.now in
    let none = rw c.as_bytes.ensures.value at c.in_default.ensures.number in
    parameter_stops view (param_named study.line c.args.parameter.now)
    (λ param. done_with (margin_answer study.line study.scripts.items param)) c.args.out.now
    (sym none)

pub returns-in_err-said : goal.returns-in_err-said
returns-in_err-said g c =
    let p = err_from_is_err_and c.from_residual.result c.from_residual.ensures.1 in
    rw (p.1, p.2) (no_memory (sink_view g.O.Sink.written g.O.Sink.faults) _ c.args.out.now)

pub returns : goal.returns
returns g c =
    let view = sink_view g.O.Sink.written g.O.Sink.faults in
    let study = c.args.study.now in
    let some = rw c.as_bytes.ensures.value at c.in-Some.ensures.number in
    let allowed = margin_answer study.line study.scripts.items c.in-Some.param in
    works_of_parameter view (param_named study.line c.args.parameter.now)
    (λ param. done_with (margin_answer study.line study.scripts.items param)) c.in-Some.param
    c.args.out.now c.put_said.new.out c.ended.result (sym some)
    (rw c.ended.ensures (works_of_said view allowed c.args.out.now c.put_said.new.out
    c.in_ok-said.said c.put_said.result c.in_ok-said.ensures
    c.put_said.ensures.status c.put_said.ensures.text))
