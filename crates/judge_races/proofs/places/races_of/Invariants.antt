use Rattle.std.proofs.Common.{List}
use Rattle.model_line.specs.declared.script.Script.{Script}
use Rattle.net_gates.specs.Formulas.{trees_of}
use Rattle.judge_races.specs.Lasting.{AreAllWaves, AreRacesOver}
use Rattle.judge_races.proofs.places.races_of.Given as goal

abbrev pub invariant-loop-p : goal.invariant-loop-p
invariant-loop-p l = (scripts : List Script)
    → AreAllWaves l.compiled.line.now scripts l.compiled.net.now.gates l.all
    → AreRacesOver l.compiled.line.now scripts l.trips (trees_of l.compiled.net.now.gates l.ids) l.p
    l.races.items
