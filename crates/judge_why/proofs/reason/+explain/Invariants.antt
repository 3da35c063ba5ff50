use Rattle.std.proofs.Common.{◌-◌, length}
use Rattle.judge_why.specs.Reasons.{most}
use Rattle.judge_why.proofs.reason.+explain.Given as goal

abbrev pub decreases-explain : goal.decreases-explain
decreases-explain l = most - length l.facts.now.items
