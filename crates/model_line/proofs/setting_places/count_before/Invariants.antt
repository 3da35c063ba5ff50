use Rattle.std.proofs.Common.{◌≡◌, ◌≤◌, ◌*◌, length, take}
use Rattle.model_line.specs.Settings.{settings_of_terminals}
use Rattle.model_line.proofs.setting_places.count_before.Given as goal

abbrev pub invariant-loop-terminal : goal.invariant-loop-terminal
invariant-loop-terminal l =
    (l.count ≡ length (settings_of_terminals l.scheme 0 (take l.terminal-index l.terminals)))
    × (l.count ≤ 15 * l.terminal-index)
