use Rattle.judge_slacks.specs.Lacks.{AreLacksOf}
use Rattle.judge_slacks.proofs.ends.lacks.Given as goal

abbrev pub invariant-loop-place : goal.invariant-loop-place
invariant-loop-place l =
    AreLacksOf l.compiled.line.now l.scripts l.others l.place l.lacks.items
