use Rattle.std.proofs.Common.{◌≡◌, ◌++◌}
use Rattle.call_shots.specs.Shots.{fault_shots}
use Rattle.call_shots.proofs.shots.push_fault.Given as goal

abbrev pub invariant-loop-k : goal.invariant-loop-k
invariant-loop-k l =
    l.shots.items
    ≡ l.initial.shots.items
    ++ fault_shots l.cases.compiled.line.now l.cases.scripts.now l.found l.k
