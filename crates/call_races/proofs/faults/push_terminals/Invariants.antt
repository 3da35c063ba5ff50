use Rattle.call_races.specs.Races.{Adds, AtTerminals}
use Rattle.call_races.proofs.faults.push_terminals.Given as goal

abbrev pub invariant-loop-k : goal.invariant-loop-k
invariant-loop-k l =
    Adds (AtTerminals l.fault.compiled.line.now l.fault.group.now l.fault.scripts.now l.k)
    l.initial.text.items l.text.items l.trips
