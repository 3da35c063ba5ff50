use Rattle.run_waves.specs.waves.Waves.{IsWaveOf}
use Rattle.judge_verdict.specs.verdict.PairWavesOf.{pair_history}
use Rattle.judge_verdict.specs.verdict.OneEach.{OneEach}
use Rattle.judge_races.proofs.waves.key_waves.Given as goal

abbrev pub invariant-loop-k : goal.invariant-loop-k
invariant-loop-k l =
    OneEach (λ k wave. IsWaveOf wave l.line.horizon ((pair_history l.waves).key k)) l.k
    l.keys.items
