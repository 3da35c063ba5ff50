use Rattle.std.proofs.Common.{◌≡◌, map, take}
use Rattle.call_page.proofs.head.terminal_names.Given as goal

abbrev pub invariant-loop-terminal : goal.invariant-loop-terminal
invariant-loop-terminal l =
    map (λ name. name.items) l.names.items
    ≡ map (λ t. t.name) (take l.terminal-index l.line.terminals.items)
