use Rattle.std.proofs.Common.{◌≡◌, ◌++◌, take}
use Rattle.model_line.specs.ParamNames.{terminal_names}
use Rattle.model_line.proofs.param_names.push_terminals.Given as goal

abbrev pub invariant-loop-terminal : goal.invariant-loop-terminal
invariant-loop-terminal l =
    l.names.items
    ≡ l.initial.names.items ++ terminal_names l.scheme (take l.terminal-index l.terminals)
