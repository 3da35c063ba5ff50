use Rattle.std.proofs.Common.{◌≡◌, ◌++◌, true, drop}
use Rattle.judge_match.specs.explain.Answers.{paired}
use Rattle.judge_match.proofs.explain.changes.push_paired.Given as goal

abbrev pub invariant-loop-i : goal.invariant-loop-i
invariant-loop-i l =
    l.rows.items ++ paired l.terminal l.trip l.level (drop l.i l.recorded) (drop l.i l.played)
    ≡ l.initial.rows.items ++ paired l.terminal l.trip true l.recorded l.played
