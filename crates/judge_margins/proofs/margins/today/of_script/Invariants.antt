use Rattle.judge_margins.specs.margins.Today.{AreToday}
use Rattle.judge_margins.proofs.margins.today.of_script.Given as goal

abbrev pub invariant-loop-k : goal.invariant-loop-k
invariant-loop-k l = AreToday l.compiled.line.now l.scripts l.s l.k l.held.items l.others.items
