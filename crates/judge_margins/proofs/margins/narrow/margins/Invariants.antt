use Rattle.std.proofs.Common.{◌≤◌, ◌-◌, length}
use Rattle.judge_margins.specs.margins.Ends.{AreFound}
use Rattle.judge_margins.proofs.margins.narrow.margins.Given as goal

abbrev pub invariant-next_script : goal.invariant-next_script
invariant-next_script l = record {
  within : l.first ≤ length l.obligations;
  found : AreFound l.compiled.line.now l.scripts l.obligations l.first l.ends.items;
}

abbrev pub decreases-next_script : goal.decreases-next_script
decreases-next_script l = length l.obligations - l.first
