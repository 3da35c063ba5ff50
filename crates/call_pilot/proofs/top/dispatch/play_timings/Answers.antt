use Rattle.std.proofs.Common.{map}
use Rattle.std.proofs.lemmas.List.Elements.{All-map}
use Rattle.std.proofs.lemmas.Result.{err_from_is_err_and}
use Rattle.model_timing.specs.Inside.{IsTimingInside}
use Rattle.model_timing.specs.NamedValues.{NamedValues, values_of}
use Rattle.file_tables.specs.timing.Timings.{timings_of}
use Rattle.call_files.specs.FileLaws.{timings_read}
use Rattle.call_pilot.specs.{commands.Play.play_answer, commands.Play.play_asks}
use Rattle.call_answer.specs.Sinks.{sink_view}
use Rattle.call_pilot.specs.top.CallAnswers.{done_with}
use Rattle.call_pilot.proofs.top_lemmas.Reading.{timings_stop, works_of_timings}
use Rattle.call_pilot.proofs.{top_lemmas.Results.on_done, top_lemmas.Written.works_of_written}
use Rattle.call_pilot.proofs.top.dispatch.play_timings.Goals as goal

pub returns-in_err-timings-clause-works : goal.returns-in_err-timings-clause-works
returns-in_err-timings-clause-works g c =
    let p = err_from_is_err_and c.from_residual.result c.from_residual.ensures.1 in
    let line = c.args.study.now.line in
    rw (p.1, p.2) (timings_stop (sink_view g.O.Sink.written g.O.Sink.faults) line
    (timings_of line c.args.bytes.now)
    (λ timings. done_with (play_answer line c.args.study.now.scripts.items timings))
    c.args.out.now c.in_err-timings.field-0.0 c.in_err-timings.ensures.said)

pub returns-clause-asked : goal.returns-clause-asked
returns-clause-asked g c =
    let line = c.args.study.now.line in
    let timings = c.in_ok-timings.timings.items in
    let asked = rw c.as_slice.ensures.value at c.play.ensures.asked in
    rw c.ended.ensures (on_done c.play.result
    (λ a. timings_read line (timings_of line c.args.bytes.now) (map values_of timings) _
    (λ all. play_asks line c.args.study.now.scripts.items all
    (g.G.Engine.calls c.args.engine.now) (g.G.Engine.calls c.play.new.engine))
    c.in_ok-timings.ensures.said
    (All-map (λ (timing : NamedValues). IsTimingInside line timing.timing) values_of timings
    c.in_ok-timings.ensures.inside)
    a)
    asked)

pub returns-clause-works : goal.returns-clause-works
returns-clause-works g c =
    let view = sink_view g.O.Sink.written g.O.Sink.faults in
    let line = c.args.study.now.line in
    let scripts = c.args.study.now.scripts.items in
    let timings = c.in_ok-timings.timings.items in
    works_of_timings view line (timings_of line c.args.bytes.now)
    (λ all. done_with (play_answer line scripts all)) (map values_of timings)
    c.args.out.now c.play.new.out c.ended.result
    c.in_ok-timings.ensures.said
    (All-map (λ (timing : NamedValues). IsTimingInside line timing.timing) values_of timings
    c.in_ok-timings.ensures.inside)
    (rw c.ended.ensures (works_of_written view (play_answer line scripts (map values_of timings))
    c.args.out.now c.play.new.out c.play.result
    (rw c.as_slice.ensures.value at c.play.ensures.writes)))
