use Rattle.std.proofs.Common.{◌≡◌, ◌++◌, take}
use Rattle.model_line.specs.ParamNames.{channel_names}
use Rattle.model_line.proofs.param_names.push_channels.Given as goal

abbrev pub invariant-loop-channel : goal.invariant-loop-channel
invariant-loop-channel l =
    l.names.items
    ≡ l.initial.names.items
    ++ channel_names l.fn.scheme l.terminals (take l.channel-index l.channels)
