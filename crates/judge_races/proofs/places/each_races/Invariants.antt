use Rattle.std.proofs.Common.{List, false, length}
use Rattle.std.specs.Prelude.{get_or}
use Rattle.model_line.specs.declared.script.Script.{Script}
use Rattle.model_logic.specs.Tree.{Const}
use Rattle.model_logic.specs.Logic.{set_tree}
use Rattle.judge_verdict.specs.verdict.OneEach.{OneEach}
use Rattle.judge_races.specs.Operands.{alternatives, operands}
use Rattle.judge_races.specs.Lasting.{AreAllWaves, AreRacesOver}
use Rattle.judge_races.proofs.places.each_races.Given as goal

abbrev pub invariant-loop-i : goal.invariant-loop-i
invariant-loop-i l = (scripts : List Script)
    → AreAllWaves l.compiled.line.now scripts l.compiled.net.now.gates l.all
    → OneEach (λ i races. AreRacesOver l.compiled.line.now scripts l.trips
    (operands (get_or (alternatives (set_tree l.compiled.line.now l.k)) i (Const false)))
    (length scripts) races.items) l.i l.races.items
