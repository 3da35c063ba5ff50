use Rattle.std.proofs.lemmas.Result.{err_from_is_err_and}
use Rattle.std.proofs.Common.{List}
use Rattle.std.specs.Prelude.{⊤}
use Rattle.model_line.specs.{declared.line.Line.Line, declared.script.Script.Script}
use Rattle.model_names.specs.NumbersByName.{param_named}
use Rattle.call_pilot.specs.{commands.Certify.certify_answer, commands.Report.report_answer}
use Rattle.call_answer.specs.Sinks.{sink_view}
use Rattle.call_pilot.specs.commands.Split.{split_answer}
use Rattle.call_pilot.specs.top.Words as words
use Rattle.call_pilot.specs.top.Work as work
use Rattle.call_pilot.specs.{top.CallAnswers.CallAnswers, top.CommandView.two_files_view}
use Rattle.call_pilot.specs.{top.Call.answer_by, top.Commands.asks, top.Reading.no_other_file}
use Rattle.call_pilot.proofs.top_lemmas.Reading.{asks_of_parameter, no_memory, study_read, study_stops}
use Rattle.call_pilot.proofs.top_lemmas.Reading.{works_of_study}
use Rattle.call_pilot.proofs.top_lemmas.Results.{if_ok, on_done}
use Rattle.call_pilot.proofs.top_lemmas.Written.{works_of_said, works_of_written}
use Rattle.call_pilot.proofs.top.dispatch.two_files.Goals as goal

-- the answers over a line and scripts
abbrev over_study : words.TwoFiles → Line → List Script → CallAnswers
over_study command l scripts = answer_by (no_other_file command l scripts)

pub returns-in_err-study-clause-works : goal.returns-in_err-study-clause-works
returns-in_err-study-clause-works g c =
    let p = err_from_is_err_and c.from_residual.result c.from_residual.ensures.1 in
    rw (p.1, p.2) (study_stops (sink_view g.O.Sink.written g.O.Sink.faults) c.args.line.now
    c.args.scripts.now (over_study (two_files_view c.args.work))
    c.args.out.now c.in_err-study.field-0.0 c.in_err-study.ensures)

pub returns-in-Certify-clause-asked : goal.returns-in-Certify-clause-asked
returns-in-Certify-clause-asked g c =
    let study = c.in_ok-study.study in
    rw (c.in-Certify.is, c.ended.ensures) (on_done c.certify.result
    (λ a. study_read c.args.line.now c.args.scripts.now study _
    (λ l scripts. asks (work.certify l scripts) (g.G.Engine.calls c.args.engine.now)
    (g.G.Engine.calls c.certify.new.engine))
    c.in_ok-study.ensures.0 c.in_ok-study.ensures.1 a)
    c.certify.ensures.asked)

pub returns-in-Certify-clause-works : goal.returns-in-Certify-clause-works
returns-in-Certify-clause-works g c =
    let view = sink_view g.O.Sink.written g.O.Sink.faults in
    let study = c.in_ok-study.study in
    rw c.in-Certify.is (works_of_study view c.args.line.now c.args.scripts.now
    (over_study words.certify) study c.args.out.now c.certify.new.out c.ended.result
    c.in_ok-study.ensures.0 c.in_ok-study.ensures.1
    (rw c.ended.ensures (works_of_written view (certify_answer study.line study.scripts.items)
    c.args.out.now c.certify.new.out c.certify.result c.certify.ensures.writes)))

pub returns-in_err-said-in-Report-clause-works : goal.returns-in_err-said-in-Report-clause-works
returns-in_err-said-in-Report-clause-works g c =
    let p = err_from_is_err_and c.from_residual-in_err-said-in-Report.result
    c.from_residual-in_err-said-in-Report.ensures.1 in
    rw (p.1, p.2) (no_memory (sink_view g.O.Sink.written g.O.Sink.faults) _ c.args.out.now)

pub returns-in-Report-clause-asked : goal.returns-in-Report-clause-asked
returns-in-Report-clause-asked g c =
    let study = c.in_ok-study.study in
    rw c.in-Report.is (if_ok c.ended-in-Report.result
    (study_read c.args.line.now c.args.scripts.now study _
    (λ l scripts. asks (work.report l scripts) (g.G.Engine.calls c.args.engine.now)
    (g.G.Engine.calls c.args.engine.now))
    c.in_ok-study.ensures.0 c.in_ok-study.ensures.1 tt))

pub returns-in-Report-clause-works : goal.returns-in-Report-clause-works
returns-in-Report-clause-works g c =
    let view = sink_view g.O.Sink.written g.O.Sink.faults in
    let study = c.in_ok-study.study in
    let allowed = report_answer study.line study.scripts.items in
    rw c.in-Report.is (works_of_study view c.args.line.now c.args.scripts.now
    (over_study words.report) study c.args.out.now c.put_said.new.out c.ended-in-Report.result
    c.in_ok-study.ensures.0 c.in_ok-study.ensures.1
    (rw c.ended-in-Report.ensures (works_of_said view allowed c.args.out.now
    c.put_said.new.out c.in_ok-said-in-Report.said c.put_said.result
    c.in_ok-said-in-Report.ensures c.put_said.ensures.status c.put_said.ensures.text)))

pub returns-in-Margin-clause-asked : goal.returns-in-Margin-clause-asked
returns-in-Margin-clause-asked g c =
    let study = c.in_ok-study.study in
    let name = c.in-Margin.parameter.now in
    rw c.in-Margin.is (if_ok c.margin_of.result
    (study_read c.args.line.now c.args.scripts.now study _
    (λ l scripts. no_other_file (words.margin name) l scripts (λ why. ⊤) (λ w. ⊤))
    c.in_ok-study.ensures.0 c.in_ok-study.ensures.1
    (asks_of_parameter (param_named study.line name))))

pub returns-in-Margin-clause-works : goal.returns-in-Margin-clause-works
returns-in-Margin-clause-works g c =
    let view = sink_view g.O.Sink.written g.O.Sink.faults in
    let study = c.in_ok-study.study in
    rw c.in-Margin.is (works_of_study view c.args.line.now c.args.scripts.now
    (over_study (words.margin c.in-Margin.parameter.now)) study c.args.out.now
    c.margin_of.new.out c.margin_of.result c.in_ok-study.ensures.0 c.in_ok-study.ensures.1
    c.margin_of.ensures)

pub returns-in_err-said-in-Split-clause-works : goal.returns-in_err-said-in-Split-clause-works
returns-in_err-said-in-Split-clause-works g c =
    let p = err_from_is_err_and c.from_residual-in_err-said-in-Split.result
    c.from_residual-in_err-said-in-Split.ensures.1 in
    rw (p.1, p.2) (no_memory (sink_view g.O.Sink.written g.O.Sink.faults) _ c.args.out.now)

pub returns-clause-asked : goal.returns-clause-asked
returns-clause-asked g c =
    let study = c.in_ok-study.study in
    rw c.in-Split.is (if_ok c.ended-in-Split.result
    (study_read c.args.line.now c.args.scripts.now study _
    (λ l scripts. asks (work.split l scripts c.in-Split.depth.splits)
    (g.G.Engine.calls c.args.engine.now) (g.G.Engine.calls c.args.engine.now))
    c.in_ok-study.ensures.0 c.in_ok-study.ensures.1 tt))

pub returns-clause-works : goal.returns-clause-works
returns-clause-works g c =
    let view = sink_view g.O.Sink.written g.O.Sink.faults in
    let study = c.in_ok-study.study in
    let n = c.in-Split.depth.splits in
    let allowed = split_answer study.line study.scripts.items n in
    rw c.in-Split.is (works_of_study view c.args.line.now c.args.scripts.now
    (over_study (words.split n)) study c.args.out.now c.put_said-in-Split.new.out
    c.ended-in-Split.result c.in_ok-study.ensures.0 c.in_ok-study.ensures.1
    (rw c.ended-in-Split.ensures (works_of_said view allowed c.args.out.now
    c.put_said-in-Split.new.out c.in_ok-said-in-Split.said c.put_said-in-Split.result
    c.in_ok-said-in-Split.ensures c.put_said-in-Split.ensures.status
    c.put_said-in-Split.ensures.text)))
