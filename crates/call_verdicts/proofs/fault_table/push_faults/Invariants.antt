use Rattle.std.proofs.Common.{◌≡◌, ◌++◌, ◌≤◌, drop, length}
use Rattle.call_verdicts.specs.Faults.{faults_from}
use Rattle.call_verdicts.proofs.fault_table.push_faults.Given as goal

abbrev pub invariant-loop-group : goal.invariant-loop-group
invariant-loop-group l = record {
  within : l.start ≤ length l.found;
  left : l.text.items
      ++ faults_from l.cases.compiled.line.now l.cases.scripts.now
      (drop l.group-index l.cases.groups.now)
      (drop l.start l.found)
      ≡ l.initial.text.items
      ++ faults_from l.cases.compiled.line.now l.cases.scripts.now l.cases.groups.now l.found;
}
