use Rattle.std.proofs.Common.{◌≡◌, ◌++◌}
use Rattle.model_history.specs.Each.{each_below}
use Rattle.draw_gates.specs.dump.Variables.{variable_at}
use Rattle.draw_gates.proofs.dump.variables.put_named.Given as goal

abbrev pub invariant-loop-i : goal.invariant-loop-i
invariant-loop-i l =
    l.text.items ≡ l.initial.text.items
    ++ each_below l.i (variable_at l.compiled.line.now l.compiled.net.now.gates l.k)
