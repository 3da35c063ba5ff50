use Rattle.std.proofs.Common.{◌≡◌, drop}
use Rattle.model_names.specs.NumbersByName.{has_name}
use Rattle.std.specs.List.{position_from}
use Rattle.model_names.proofs.numbers_by_name.channel_of_name.Given as goal

abbrev pub invariant-loop-c : goal.invariant-loop-c
invariant-loop-c l =
    position_from (has_name l.line.terminals.items l.name) l.c (drop l.c l.line.channels.items)
    ≡ position_from (has_name l.line.terminals.items l.name) 0 l.line.channels.items
