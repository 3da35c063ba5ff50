use Rattle.std.proofs.Common.{sym, ◌∙◌}
use Rattle.judge_verdict.proofs.verdict.pair_waves.PairWaves.trip.Goals as goal

pub returns : goal.returns
returns c = sym c.at.ensures.rails ∙ c.trip_runs.ensures.values c.args.t c.requires.tick
