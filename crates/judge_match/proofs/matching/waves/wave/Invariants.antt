use Rattle.std.proofs.Common.{◌≡◌, take}
use Rattle.judge_match.proofs.matching.waves.wave.Given as goal

abbrev pub invariant-loop-level : goal.invariant-loop-level
invariant-loop-level l = l.wave ≡ take l.level-index l.level-items
