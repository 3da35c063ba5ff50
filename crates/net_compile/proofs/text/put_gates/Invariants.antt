use Rattle.std.proofs.Common.{◌≡◌, ◌++◌}
use Rattle.net_compile.specs.NetText.{gate_line, lines_below}
use Rattle.net_compile.proofs.text.put_gates.Given as goal

abbrev pub invariant-loop-i : goal.invariant-loop-i
invariant-loop-i l =
    l.text.items ≡ l.initial.text.items ++ lines_below (gate_line l.compiled.line.now
    l.compiled.net.now.gates) l.i
