use Rattle.judge_margins.specs.margins.Today.{AreToday}
use Rattle.judge_margins.proofs.margins.today.held_today.Given as goal

abbrev pub invariant-loop-s : goal.invariant-loop-s
invariant-loop-s l = AreToday l.compiled.line.now l.scripts l.s 0 l.held.items l.others.items
