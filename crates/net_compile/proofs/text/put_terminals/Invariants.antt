use Rattle.std.proofs.Common.{◌≡◌, ◌++◌}
use Rattle.net_compile.specs.NetText.{terminal_lines, lines_below}
use Rattle.net_compile.proofs.text.put_terminals.Given as goal

abbrev pub invariant-loop-k : goal.invariant-loop-k
invariant-loop-k l =
    l.text.items ≡ l.initial.text.items ++ lines_below (terminal_lines l.compiled.line.now
    l.compiled.net.now) l.k
