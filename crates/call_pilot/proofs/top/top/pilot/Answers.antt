use Rattle.std.proofs.Common.{Ok, Err, map, string_bytes}
use Rattle.call_answer.specs.{Sinks.sink_view, SinkLaws.grew_none}
use Rattle.call_pilot.specs.top.Words.{command_of}
use Rattle.call_pilot.proofs.top_lemmas.Closing.{closed_done, closed_stopped, unwritten}
use Rattle.call_pilot.proofs.top_lemmas.Headlines.{headline}
use Rattle.call_pilot.proofs.top.top.pilot.Goals as goal

pub returns-in-Ok-clause-clauses : goal.returns-in-Ok-clause-clauses
returns-in-Ok-clause-clauses g c =
    let err = sink_view g.E.Sink.written g.E.Sink.faults c.args.err.now in
    closed_done (sink_view g.O.Sink.written g.O.Sink.faults) c.args.out.now c.answer.new.out
    (g.S.Store.held c.args.store.now) (g.S.Store.faults c.args.store.now)
    (g.S.Store.faults c.answer.new.store) err err (g.G.Engine.calls c.args.engine.now)
    (g.G.Engine.calls c.answer.new.engine) (command_of (map string_bytes c.args.words.now))
    c.in-Ok.status c.in-Ok.ensures.ends c.in-Ok.ensures.asked (grew_none err)
    (headline (sink_view g.O.Sink.written g.O.Sink.faults) c.args.out.now c.answer.new.out
    (g.S.Store.held c.args.store.now) (g.S.Store.faults c.args.store.now)
    (g.S.Store.faults c.answer.new.store) c.what_is_answered_is_true.ensures
    (command_of (map string_bytes c.args.words.now)) (Ok c.in-Ok.status) c.in-Ok.ensures.ends)

pub returns-in-Err-clause-clauses : goal.returns-in-Err-clause-clauses
returns-in-Err-clause-clauses g c = rw c.status.ensures (
    closed_stopped (sink_view g.O.Sink.written g.O.Sink.faults) c.args.out.now c.answer.new.out
    (g.S.Store.held c.args.store.now) (g.S.Store.faults c.args.store.now)
    (g.S.Store.faults c.answer.new.store)
    (sink_view g.E.Sink.written g.E.Sink.faults c.args.err.now)
    (sink_view g.E.Sink.written g.E.Sink.faults c.put_message.new.sink)
    (g.G.Engine.calls c.args.engine.now) (g.G.Engine.calls c.answer.new.engine)
    (command_of (map string_bytes c.args.words.now)) c.in-Err.stop c.put_message.result
    c.in-Err.ensures.ends c.put_message.ensures
    (headline (sink_view g.O.Sink.written g.O.Sink.faults) c.args.out.now c.answer.new.out
    (g.S.Store.held c.args.store.now) (g.S.Store.faults c.args.store.now)
    (g.S.Store.faults c.answer.new.store) c.what_is_answered_is_true.ensures
    (command_of (map string_bytes c.args.words.now)) (Err c.in-Err.stop) c.in-Err.ensures.ends))

pub returns-in-Ok-clause-unwritten : goal.returns-in-Ok-clause-unwritten
returns-in-Ok-clause-unwritten g c =
    unwritten (sink_view g.O.Sink.written g.O.Sink.faults) c.args.out.now c.answer.new.out
    (g.S.Store.held c.args.store.now) (g.S.Store.faults c.args.store.now)
    (g.S.Store.faults c.answer.new.store)
    (command_of (map string_bytes c.args.words.now)) (Ok c.in-Ok.status) c.in-Ok.ensures.ends

pub returns-in-Err-clause-unwritten : goal.returns-in-Err-clause-unwritten
returns-in-Err-clause-unwritten g c = rw c.status.ensures (
    unwritten (sink_view g.O.Sink.written g.O.Sink.faults) c.args.out.now c.answer.new.out
    (g.S.Store.held c.args.store.now) (g.S.Store.faults c.args.store.now)
    (g.S.Store.faults c.answer.new.store)
    (command_of (map string_bytes c.args.words.now)) (Err c.in-Err.stop) c.in-Err.ensures.ends)
