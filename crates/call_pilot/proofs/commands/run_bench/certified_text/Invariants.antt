use Rattle.std.proofs.Common.{take}
use Rattle.call_engine.specs.Calls.{AskedVerdicts, NoneFell}
use Rattle.call_pilot.proofs.commands_lemmas.Benched.{IsBegun}
use Rattle.call_pilot.proofs.commands.run_bench.certified_text.Given as goal

abbrev pub invariant-loop-script : goal.invariant-loop-script
invariant-loop-script g l =
    AskedVerdicts l.compiled.line.now l.script-index (g.G.Engine.calls l.fn.engine)
    (g.G.Engine.calls l.engine)
    × NoneFell (g.G.Engine.calls l.fn.engine) (g.G.Engine.calls l.engine)
    × IsBegun l.compiled.line.now (take l.script-index l.scripts) l.text.items
