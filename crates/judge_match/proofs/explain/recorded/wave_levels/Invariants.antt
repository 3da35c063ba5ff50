use Rattle.run_waves.specs.waves.Waves.{wave_at}
use Rattle.judge_match.specs.explain.Asked.{AreLevels}
use Rattle.judge_match.proofs.explain.recorded.wave_levels.Given as goal

abbrev pub invariant-loop-t : goal.invariant-loop-t
invariant-loop-t l = AreLevels l.t (λ t. (wave_at l.wave t).must) l.levels.items
