use Rattle.std.proofs.Common.{◌≡◌, ◌++◌}
use Rattle.call_verdicts.specs.Faults.{fault_records}
use Rattle.call_verdicts.proofs.fault_table.push_fault.Given as goal

abbrev pub invariant-loop-k : goal.invariant-loop-k
invariant-loop-k l =
    l.text.items
    ≡ l.initial.text.items
    ++ fault_records l.cases.compiled.line.now l.cases.scripts.now l.group l.found l.k
