use Rattle.call_answer.specs.{SinkLaws.grew_none, Sinks.sink_view}
use Rattle.call_records.proofs.halt.put_halt.Goals as goal

pub returns-in-Store : goal.returns-in-Store
returns-in-Store g c = rw (c.in-Store.is, ← c.name.ensures) c.put_unread.ensures

pub returns-in-Sink : goal.returns-in-Sink
returns-in-Sink g c =
    rw c.in-Sink.is (grew_none (sink_view g.K.Sink.written g.K.Sink.faults c.args.sink.now))

pub returns-in-Memory : goal.returns-in-Memory
returns-in-Memory g c = rw c.in-Memory.is c.put_pieces-in-Memory.ensures
