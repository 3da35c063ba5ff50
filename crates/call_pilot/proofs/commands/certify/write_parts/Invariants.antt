use Rattle.std.proofs.Common.{Ok, take}
use Rattle.call_engine.specs.Calls.{AskedVerdicts, NoneFell}
use Rattle.call_pilot.specs.commands.PartWrites.{WritesParts}
use Rattle.call_answer.specs.Sinks.{sink_view}
use Rattle.call_pilot.proofs.commands.certify.write_parts.Given as goal

abbrev pub invariant-loop-script : goal.invariant-loop-script
invariant-loop-script g l =
    AskedVerdicts l.compiled.line.now l.script-index (g.G.Engine.calls l.fn.engine)
    (g.G.Engine.calls l.engine)
    × WritesParts l.compiled.line.now (take l.script-index l.scripts)
    (sink_view g.O.Sink.written g.O.Sink.faults l.fn.out)
    (sink_view g.O.Sink.written g.O.Sink.faults l.out) (Ok l.found)
    × NoneFell (g.G.Engine.calls l.fn.engine) (g.G.Engine.calls l.engine)
