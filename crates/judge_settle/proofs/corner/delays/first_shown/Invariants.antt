use Rattle.std.proofs.Common.{◌≤◌, ◌-◌}
use Rattle.run_waves.specs.waves.Waves.{IsWaveOf}
use Rattle.judge_verdict.specs.verdict.PairWavesOf.{pair_history}
use Rattle.judge_settle.specs.corner.Named.{rail_named}
use Rattle.judge_settle.specs.corner.Delays.{NoneIsShown}
use Rattle.judge_settle.proofs.corner.delays.first_shown.Given as goal

abbrev pub invariant-stretches : goal.invariant-stretches
invariant-stretches l = record {
  wave : IsWaveOf l.keys l.waves.horizon ((pair_history l.waves).key l.sender);
  later : l.from ≤ l.s;
  inside : l.s ≤ l.waves.horizon;
  none : NoneIsShown (rail_named l.rail) ((pair_history l.waves).key l.sender) l.from l.s;
}

abbrev pub decreases-stretches : goal.decreases-stretches
decreases-stretches l = l.waves.horizon - l.s
