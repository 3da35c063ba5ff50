use Rattle.judge_times.specs.Answers.{exact_of}
use Rattle.call_times.specs.Times.{Adds, AtTerminals}
use Rattle.call_times.proofs.terminals.push_terminals.Given as goal

abbrev pub invariant-loop-k : goal.invariant-loop-k
invariant-loop-k l = Adds (AtTerminals (exact_of l.of) l.fault l.k) l.initial.text.items l.text.items l.found
