use Rattle.std.proofs.Common.{Ok, Err, inl, map}
use Rattle.call_answer.specs.{SinkLaws.grew_none, SinkLaws.put_or_part, Sinks.sink_view}
use Rattle.call_inspect.specs.Halts.{halt_line}
use Rattle.call_inspect.proofs.Closing.{closed, unwritten}
use Rattle.call_inspect.proofs.top.inspect.Goals as goal

pub returns-in-Ok-clause-clauses : goal.returns-in-Ok-clause-clauses
returns-in-Ok-clause-clauses g c =
    let err = sink_view g.E.Sink.written g.E.Sink.faults c.args.err.now in
    closed (sink_view g.O.Sink.written g.O.Sink.faults) c.args.out.now c.written.new.out
    (g.S.Store.held c.args.store.now) (g.S.Store.faults c.args.store.now)
    (g.S.Store.faults c.written.new.store) (map (λ name. name.now) c.args.names.now)
    (g.S.Reasoned.why c.written.new.store) err err (Ok c.in-Ok.status) c.in-Ok.ensures
    (inl (grew_none err))

pub returns-in-Err-clause-clauses : goal.returns-in-Err-clause-clauses
returns-in-Err-clause-clauses g c =
    let old = sink_view g.E.Sink.written g.E.Sink.faults c.args.err.now in
    let new = sink_view g.E.Sink.written g.E.Sink.faults c.put_halt.new.sink in
    let names = map (λ name. name.now) c.args.names.now in
    let why = g.S.Reasoned.why c.written.new.store in
    closed (sink_view g.O.Sink.written g.O.Sink.faults) c.args.out.now c.written.new.out
    (g.S.Store.held c.args.store.now) (g.S.Store.faults c.args.store.now)
    (g.S.Store.faults c.written.new.store) names why old new (Err c.in-Err.halt) c.in-Err.ensures
    (put_or_part old new (halt_line names why c.in-Err.halt) c.put_halt.result
    (rw c.reason.ensures at c.put_halt.ensures))

pub returns-in-Err-clause-unwritten : goal.returns-in-Err-clause-unwritten
returns-in-Err-clause-unwritten g c =
    unwritten (sink_view g.O.Sink.written g.O.Sink.faults) c.args.out.now c.written.new.out
    (g.S.Store.held c.args.store.now) (g.S.Store.faults c.args.store.now)
    (g.S.Store.faults c.written.new.store) (map (λ name. name.now) c.args.names.now)
    (Err c.in-Err.halt) c.in-Err.ensures
