use Rattle.judge_slacks.specs.Lacks.{AreNeeds}
use Rattle.judge_slacks.proofs.ends.needs_of.Given as goal

abbrev pub invariant-loop-i : goal.invariant-loop-i
invariant-loop-i l =
    AreNeeds l.compiled.line.now l.scripts l.others l.param l.side l.i l.needs.items
