use Rattle.std.proofs.Common.{◌≡◌, ◌++◌}
use Rattle.model_history.specs.Each.{each_below}
use Rattle.draw_gates.specs.dump.Variables.{terminal_scope}
use Rattle.draw_gates.proofs.dump.variables.put_terminals.Given as goal

abbrev pub invariant-loop-k : goal.invariant-loop-k
invariant-loop-k l =
    l.text.items ≡ l.initial.text.items
    ++ each_below l.k (terminal_scope l.compiled.line.now l.compiled.net.now)
