use Rattle.std.proofs.Common.{◌≡◌, map}
use Rattle.std.specs.List.{range_with_len}
use Rattle.judge_match.specs.matching.Waves.{wave_of}
use Rattle.judge_match.proofs.matching.waves.waves.Given as goal

abbrev pub invariant-loop-terminal : goal.invariant-loop-terminal
invariant-loop-terminal l =
    l.waves.items
    ≡ map (wave_of l.line.horizon l.changes l.trip) (range_with_len 0 l.terminal)
