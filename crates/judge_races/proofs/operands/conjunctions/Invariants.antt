use Rattle.std.proofs.Common.{false}
use Rattle.std.specs.Prelude.{get_or}
use Rattle.model_logic.specs.Tree.{Const}
use Rattle.model_logic.specs.Logic.{set_tree}
use Rattle.judge_verdict.specs.verdict.OneEach.{OneEach}
use Rattle.judge_races.specs.Gates.{StandFor}
use Rattle.judge_races.specs.Operands.{alternatives, operands}
use Rattle.judge_races.proofs.operands.conjunctions.Given as goal

abbrev pub invariant-loop-i : goal.invariant-loop-i
invariant-loop-i l =
    OneEach (λ i ids. StandFor l.compiled.net.now.gates ids.items
    (operands (get_or (alternatives (set_tree l.compiled.line.now l.k)) i (Const false)))) l.i l.all.items
