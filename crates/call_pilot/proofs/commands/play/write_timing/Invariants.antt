use Rattle.std.proofs.Common.{ℕ, List}
use Rattle.call_engine.specs.Calls.{AskedPlays}
use Rattle.model_timing.specs.NamedValues.{values_of}
use Rattle.call_pilot.specs.{commands.Play.IsRunText, commands.Play.IsTimingText}
use Rattle.call_answer.specs.Sinks.{sink_view}
use Rattle.call_pilot.proofs.commands_lemmas.Pieces.{Written}
use Rattle.call_pilot.proofs.commands.play.write_timing.Given as goal

abbrev pub invariant-loop-script : goal.invariant-loop-script
invariant-loop-script g l =
    AskedPlays l.compiled.line.now l.script-index (g.G.Engine.calls l.fn.engine)
    (g.G.Engine.calls l.engine)
    × ((text : List ℕ) → IsTimingText l.compiled.line.now l.scripts (values_of l.timing) text
    → Written (IsRunText l.compiled.line.now (values_of l.timing)) l.scripts
    (sink_view g.O.Sink.written g.O.Sink.faults l.fn.out)
    (sink_view g.O.Sink.written g.O.Sink.faults l.out) text l.script-index)
