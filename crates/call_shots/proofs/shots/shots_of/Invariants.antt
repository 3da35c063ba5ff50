use Rattle.std.proofs.Common.{◌≡◌, ◌++◌, ◌≤◌, drop, length}
use Rattle.call_shots.specs.Shots.{shots_from}
use Rattle.call_shots.proofs.shots.shots_of.Given as goal

abbrev pub invariant-loop-group : goal.invariant-loop-group
invariant-loop-group l = record {
  within : l.start ≤ length l.found;
  left : l.shots.items
      ++ shots_from l.cases.compiled.line.now l.cases.scripts.now
      (drop l.group-index l.cases.groups.now)
      (drop l.start l.found)
      ≡ shots_from l.cases.compiled.line.now l.cases.scripts.now l.cases.groups.now l.found;
}
