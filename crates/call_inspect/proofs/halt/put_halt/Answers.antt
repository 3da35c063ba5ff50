use Rattle.call_answer.specs.{SinkLaws.grew_none, Sinks.sink_view}
use Rattle.call_inspect.proofs.halt.put_halt.Goals as goal

pub returns-in-Sink : goal.returns-in-Sink
returns-in-Sink g c =
    rw c.in-Sink.is (grew_none (sink_view g.K.Sink.written g.K.Sink.faults c.args.sink.now))
