use Rattle.std.proofs.Common.{◌≡◌, ◌≤◌, length, take, false}
use Rattle.judge_match.specs.matching.Heads.{level_after}
use Rattle.judge_match.proofs.matching.check.level_after.Given as goal

abbrev pub invariant-from_the_last : goal.invariant-from_the_last
invariant-from_the_last l = record {
  within : l.rest ≤ length l.changes;
  same : level_after l.terminal l.trip (take l.rest l.changes) false
      ≡ level_after l.terminal l.trip l.changes false;
}

abbrev pub decreases-from_the_last : goal.decreases-from_the_last
decreases-from_the_last l = l.rest
