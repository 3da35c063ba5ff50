use Rattle.std.proofs.Common.{◌≡◌, map, take}
use Rattle.file_study.proofs.study.line.terminal_names.Given as goal

abbrev pub invariant-loop-terminal : goal.invariant-loop-terminal
invariant-loop-terminal l =
    l.names.items ≡ map (λ t. t.name) (take l.terminal-index l.terminals)
