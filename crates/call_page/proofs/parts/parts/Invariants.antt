use Rattle.std.proofs.Common.{◌≤◌, ◌-◌, length}
use Rattle.std.specs.List.{All}
use Rattle.call_page.specs.Parts.{Follow, IsPart}
use Rattle.call_page.proofs.parts.parts.Given as goal

abbrev pub invariant-parts : goal.invariant-parts
invariant-parts l = record {
  within : l.start ≤ l.scripts;
  few : length l.parts.items ≤ l.start;
  each : All (IsPart l.groups l.scripts) l.parts.items;
  follow : Follow 0 l.parts.items l.start;
}

abbrev pub decreases-parts : goal.decreases-parts
decreases-parts l = l.scripts - l.start
