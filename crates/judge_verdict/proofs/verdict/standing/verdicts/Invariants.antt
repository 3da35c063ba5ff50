use Rattle.std.proofs.Common.{◌≡◌, map, take}
use Rattle.judge_verdict.specs.verdict.Standings.{verdict_as}
use Rattle.judge_verdict.proofs.verdict.standing.verdicts.Given as goal

abbrev pub invariant-loop-standing : goal.invariant-loop-standing
invariant-loop-standing l =
    l.verdicts.items ≡ map (verdict_as l.line) (take l.standing-index l.standings)
