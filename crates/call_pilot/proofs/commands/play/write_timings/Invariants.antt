use Rattle.std.proofs.Common.{ℕ, ◌*◌, List, length, map}
use Rattle.call_engine.specs.Calls.{AskedPlays}
use Rattle.model_timing.specs.NamedValues.{values_of}
use Rattle.call_pilot.specs.{commands.Play.IsTimingText, commands.Play.Pieces}
use Rattle.call_answer.specs.Sinks.{sink_view}
use Rattle.call_pilot.proofs.commands_lemmas.Pieces.{Written}
use Rattle.call_pilot.proofs.commands.play.write_timings.Given as goal

abbrev pub invariant-loop-timing : goal.invariant-loop-timing
invariant-loop-timing g l =
    AskedPlays l.compiled.line.now (l.timing-index * length l.scripts)
    (g.G.Engine.calls l.fn.engine)
    (g.G.Engine.calls l.engine)
    × ((text : List ℕ)
    → Pieces (IsTimingText l.compiled.line.now l.scripts) (map values_of l.timings) text
    → Written (IsTimingText l.compiled.line.now l.scripts) (map values_of l.timings)
    (sink_view g.O.Sink.written g.O.Sink.faults l.fn.out)
    (sink_view g.O.Sink.written g.O.Sink.faults l.out) text l.timing-index)
