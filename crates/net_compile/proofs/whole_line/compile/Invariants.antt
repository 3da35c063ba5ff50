use Rattle.net_compile.proofs.Ends.{HaveEnds}
use Rattle.net_compile.proofs.whole_line.compile.Given as goal

abbrev pub invariant-loop-terminal : goal.invariant-loop-terminal
invariant-loop-terminal l = HaveEnds l.line l.net l.keys.items l.trips.items l.terminal
