use Rattle.std.proofs.Common.{◌≡◌, ◌≤◌, length}
use Rattle.std.specs.Prelude.{min}
use Rattle.judge_match.specs.matching.SetLevels.{IsSetBetween}
use Rattle.judge_match.proofs.matching.waves.set_back.Given as goal

abbrev pub invariant-loop-t : goal.invariant-loop-t
invariant-loop-t l = record {
  inside : l.t ≤ l.end;
  low : min l.from l.end ≤ l.t;
  long : length l.levels.items ≡ length l.initial.levels.items;
  set : IsSetBetween l.initial.levels.items l.levels.items l.level l.t l.end;
}

abbrev pub decreases-loop-t : goal.decreases-loop-t
decreases-loop-t l = l.t
