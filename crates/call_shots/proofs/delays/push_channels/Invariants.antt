use Rattle.std.proofs.Common.{◌≡◌, ◌++◌}
use Rattle.model_history.specs.Each.{each_below}
use Rattle.call_shots.specs.Delays.{channel_rows}
use Rattle.call_shots.proofs.delays.push_channels.Given as goal

abbrev pub invariant-loop-c : goal.invariant-loop-c
invariant-loop-c l =
    l.text.items
    ≡ l.initial.text.items ++ each_below l.c (channel_rows l.line l.name l.number l.timing)
