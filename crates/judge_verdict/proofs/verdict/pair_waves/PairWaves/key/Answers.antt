use Rattle.std.proofs.Common.{sym, ◌∙◌}
use Rattle.judge_verdict.proofs.verdict.pair_waves.PairWaves.key.Goals as goal

pub returns : goal.returns
returns c = sym c.at.ensures.rails ∙ c.key_runs.ensures.values c.args.t c.requires.tick
