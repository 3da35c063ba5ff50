use Rattle.std.proofs.Common.{◌-◌}
use Rattle.judge_report.specs.Margin.{IsBracket}
use Rattle.judge_report.proofs.searching.between.Given as goal

abbrev pub invariant-halving : goal.invariant-halving
invariant-halving l = IsBracket l.compiled.line.now l.scripts l.param l.low l.high l.lost

abbrev pub decreases-halving : goal.decreases-halving
decreases-halving l = l.high - l.low
