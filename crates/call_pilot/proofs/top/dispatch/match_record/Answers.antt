use Rattle.std.proofs.Common.{map}
use Rattle.std.proofs.lemmas.Result.{err_from_is_err_and}
use Rattle.judge_match.specs.matching.Waves.{records_said, seen_values}
use Rattle.call_pilot.specs.commands.Match.{match_answer}
use Rattle.call_answer.specs.Sinks.{sink_view}
use Rattle.call_pilot.specs.top.CallAnswers.{done_with}
use Rattle.call_pilot.proofs.top_lemmas.Reading.{no_memory, record_stops, works_of_record}
use Rattle.call_pilot.proofs.top_lemmas.Written.{works_of_said}
use Rattle.call_pilot.proofs.top.dispatch.match_record.Goals as goal

pub returns-in_err-records : goal.returns-in_err-records
returns-in_err-records g c =
    let p = err_from_is_err_and c.from_residual.result c.from_residual.ensures.1 in
    let line = c.args.study.now.line in
    let scripts = c.args.study.now.scripts.items in
    rw (p.1, p.2) (record_stops (sink_view g.O.Sink.written g.O.Sink.faults)
    (records_said line scripts c.args.bytes.now)
    (λ records. done_with (match_answer line scripts records))
    c.args.out.now c.in_err-records.field-0.0
    (rw c.as_slice.ensures.value at c.in_err-records.ensures.said))

pub returns-in_err-said : goal.returns-in_err-said
returns-in_err-said g c =
    let p = err_from_is_err_and c.from_residual-in_err-said.result
    c.from_residual-in_err-said.ensures.1 in
    rw (p.1, p.2) (no_memory (sink_view g.O.Sink.written g.O.Sink.faults) _ c.args.out.now)

pub returns : goal.returns
returns g c =
    let view = sink_view g.O.Sink.written g.O.Sink.faults in
    let line = c.args.study.now.line in
    let scripts = c.args.study.now.scripts.items in
    let allowed = match_answer line scripts (map seen_values c.in_ok-records.records.items) in
    works_of_record view (records_said line scripts c.args.bytes.now)
    (λ records. done_with (match_answer line scripts records))
    (map seen_values c.in_ok-records.records.items) c.args.out.now c.put_said.new.out
    c.ended.result (rw c.as_slice.ensures.value at c.in_ok-records.ensures.said)
    (rw c.ended.ensures (works_of_said view allowed c.args.out.now c.put_said.new.out
    c.in_ok-said.said c.put_said.result (rw c.as_slice-2.ensures.value at c.in_ok-said.ensures)
    c.put_said.ensures.status c.put_said.ensures.text))
