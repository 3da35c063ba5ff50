use Rattle.judge_split.specs.Widths.{IsChoiceOf}
use Rattle.judge_split.proofs.widest.widest.Given as goal

abbrev pub invariant-loop-i : goal.invariant-loop-i
invariant-loop-i l = IsChoiceOf l.line l.i l.best
