use Rattle.std.proofs.Common.{Ok, Err, inl}
use Rattle.call_answer.specs.{SinkLaws.grew_none, SinkLaws.put_or_part, Sinks.sink_view}
use Rattle.call_records.specs.{Halts.halt_line, Request.request_of}
use Rattle.call_records.proofs.Closing.{closed, unwritten}
use Rattle.call_records.proofs.top.records.Goals as goal

pub returns-in-Ok-clause-clauses : goal.returns-in-Ok-clause-clauses
returns-in-Ok-clause-clauses g c =
    let err = sink_view g.E.Sink.written g.E.Sink.faults c.args.err.now in
    closed (sink_view g.O.Sink.written g.O.Sink.faults) c.args.out.now c.written.new.out
    (g.S.Store.held c.args.store.now) (g.S.Store.faults c.args.store.now)
    (g.S.Store.faults c.written.new.store) (request_of c.args.ask.now)
    (g.S.Reasoned.why c.written.new.store) err err (Ok tt) c.in-Ok.ensures (inl (grew_none err))

pub returns-in-Err-clause-clauses : goal.returns-in-Err-clause-clauses
returns-in-Err-clause-clauses g c =
    let old = sink_view g.E.Sink.written g.E.Sink.faults c.args.err.now in
    let new = sink_view g.E.Sink.written g.E.Sink.faults c.put_halt.new.sink in
    let request = request_of c.args.ask.now in
    let why = g.S.Reasoned.why c.written.new.store in
    closed (sink_view g.O.Sink.written g.O.Sink.faults) c.args.out.now c.written.new.out
    (g.S.Store.held c.args.store.now) (g.S.Store.faults c.args.store.now)
    (g.S.Store.faults c.written.new.store) request why old new (Err c.in-Err.halt) c.in-Err.ensures
    (put_or_part old new (halt_line request why c.in-Err.halt) c.put_halt.result
    (rw c.reason.ensures at c.put_halt.ensures))

pub returns-in-Err-clause-unwritten : goal.returns-in-Err-clause-unwritten
returns-in-Err-clause-unwritten g c =
    unwritten (sink_view g.O.Sink.written g.O.Sink.faults) c.args.out.now c.written.new.out
    (g.S.Store.held c.args.store.now) (g.S.Store.faults c.args.store.now)
    (g.S.Store.faults c.written.new.store) (request_of c.args.ask.now)
    (Err c.in-Err.halt) c.in-Err.ensures
