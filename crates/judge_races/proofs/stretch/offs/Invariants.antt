use Rattle.run_waves.specs.waves.Waves.{wave_at}
use Rattle.judge_verdict.specs.verdict.OneEach.{OneEach}
use Rattle.std.proofs.Common.{length}
use Rattle.judge_races.specs.Stretches.{IsOffFrom}
use Rattle.judge_races.proofs.stretch.offs.Given as goal

abbrev pub invariant-loop-t : goal.invariant-loop-t
invariant-loop-t l =
    OneEach (IsOffFrom (λ t. (wave_at l.wave t).may) (length l.wave)) l.t l.offs.items
