use Rattle.std.proofs.Common.{◌<◌, ◌≤◌, ◌-◌, length}
use Rattle.judge_margins.specs.margins.Groups.{AreOfOneScript}
use Rattle.judge_margins.proofs.margins.narrow.next_script.Given as goal

abbrev pub invariant-same_script : goal.invariant-same_script
invariant-same_script l = record {
  later : l.first < l.next;
  within : l.next ≤ length l.obligations;
  same : AreOfOneScript l.obligations l.first l.next;
}

abbrev pub decreases-same_script : goal.decreases-same_script
decreases-same_script l = length l.obligations - l.next
