use Rattle.std.proofs.Common.{◌≡◌, ◌++◌, take}
use Rattle.std.specs.List.{flat_map}
use Rattle.model_line.specs.Settings.{terminal_settings}
use Rattle.judge_settle.proofs.corner.settings.push_terminals.Given as goal

abbrev pub invariant-loop-terminal : goal.invariant-loop-terminal
invariant-loop-terminal l =
    l.settings.items
    ≡ l.initial.settings.items
    ++ flat_map (λ t. terminal_settings l.scheme t) (take l.terminal-index l.terminals)
