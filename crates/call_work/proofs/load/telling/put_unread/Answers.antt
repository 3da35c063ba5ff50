use Rattle.call_answer.specs.{SinkLaws.put_or_part, Sinks.sink_view}
use Rattle.call_refused.specs.told.Unread.{unread_line}
use Rattle.call_work.proofs.load.telling.put_unread.Goals as goal

pub returns : goal.returns
returns g c =
    put_or_part (sink_view g.E.Sink.written g.E.Sink.faults c.args.err.now)
    (sink_view g.E.Sink.written g.E.Sink.faults c.put_pieces.new.sink)
    (unread_line c.args.name.now c.args.reason) c.put_pieces.result
    (rw (c.as_bytes-name.ensures.value, c.as_bytes-why.ensures.value, c.words.ensures)
    at c.put_pieces.ensures)
