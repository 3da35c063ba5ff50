use Rattle.std.proofs.Common.{◌≤◌, ◌-◌, get_or}
use Rattle.model_line.specs.Parameters.{delay_param}
use Rattle.judge_verdict.specs.verdict.PairWavesOf.{pair_history}
use Rattle.judge_settle.specs.corner.Named.{rail_named}
use Rattle.judge_settle.specs.{corner.Corner.corner, corner.Steps.AreStepsUpTo, corner.Steps.IsNumberFrom}
use Rattle.judge_settle.proofs.corner.steps.push_steps.Given as goal

abbrev pub invariant-changes : goal.invariant-changes
invariant-changes l = record {
  late : 1 ≤ l.t;
  within : l.t ≤ l.line.horizon;
  steps : AreStepsUpTo l.line (corner l.line (rail_named l.rail) (pair_history l.waves)).delay
      l.numbers l.channel l.t l.steps.items;
  last : IsNumberFrom l.steps.items (delay_param l.line l.channel)
      (get_or l.numbers (delay_param l.line l.channel) 0) l.t l.last;
}

abbrev pub decreases-changes : goal.decreases-changes
decreases-changes l = l.line.horizon - l.t
