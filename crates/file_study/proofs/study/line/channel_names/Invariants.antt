use Rattle.std.proofs.Common.{◌≡◌, map, take}
use Rattle.model_line.specs.ParamNames.{pair_name}
use Rattle.file_study.proofs.study.line.channel_names.Given as goal

abbrev pub invariant-loop-channel : goal.invariant-loop-channel
invariant-loop-channel l =
    l.names.items ≡ map (pair_name l.terminals) (take l.channel-index l.channel-items)
