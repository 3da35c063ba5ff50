use Rattle.std.proofs.lemmas.Result.{err_from_is_err_and}
use Rattle.call_pilot.specs.commands.Bench.{bench_answer}
use Rattle.call_answer.specs.Sinks.{sink_view}
use Rattle.call_pilot.proofs.{top_lemmas.Reading.no_memory, top_lemmas.Results.if_ok, top_lemmas.Written.works_of_said}
use Rattle.call_pilot.proofs.top.dispatch.no_file.Goals as goal

pub returns-in_err-said-clause-works : goal.returns-in_err-said-clause-works
returns-in_err-said-clause-works g c =
    let p = err_from_is_err_and c.from_residual.result c.from_residual.ensures.1 in
    rw (p.1, p.2) (no_memory (sink_view g.O.Sink.written g.O.Sink.faults) _ c.args.out.now)

pub returns-clause-asked : goal.returns-clause-asked
returns-clause-asked g c = if_ok c.ended.result c.in_ok-said.ensures.asked

pub returns-clause-works : goal.returns-clause-works
returns-clause-works g c = rw c.ended.ensures (
    works_of_said (sink_view g.O.Sink.written g.O.Sink.faults)
    (bench_answer c.args.size.scripts) c.args.out.now c.put_said.new.out c.in_ok-said.said
    c.put_said.result c.in_ok-said.ensures.said c.put_said.ensures.status
    c.put_said.ensures.text)
