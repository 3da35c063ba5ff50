use Rattle.std.proofs.Common.{◌≡◌, ◌++◌, take}
use Rattle.std.specs.List.{flat_map}
use Rattle.model_line.specs.declared.line.Channel.{Channel}
use Rattle.model_line.specs.Settings.{channel_settings}
use Rattle.judge_settle.proofs.corner.settings.push_channels.Given as goal

abbrev pub invariant-loop-channel : goal.invariant-loop-channel
invariant-loop-channel l =
    l.settings.items
    ≡ l.initial.settings.items
    ++ flat_map (λ (_ : Channel). channel_settings l.fn.scheme)
    (take l._channel-index l.channels)
