use Rattle.std.proofs.Common.{arith}
use Rattle.model_line.specs.ChannelLaws.{from_of-get, to_of-get}
use Rattle.model_line.specs.declared.line.Channel.{Channel}
use Rattle.model_line.proofs.param_names.push_channels.Goals as goal

pub channel_name-owner-requires-clause-from : goal.channel_name-owner-requires-clause-from
channel_name-owner-requires-clause-from c =
    let none : Channel = record { from = 0; to = 0 } in
    omega (
      arith,
      c.requires.pairs.from c.loop-channel.channel-index c.loop-channel-test.true,
      from_of-get c.args.channels.now c.loop-channel.channel-index none c.loop-channel-test.true,
    )

pub channel_name-owner-requires-clause-to : goal.channel_name-owner-requires-clause-to
channel_name-owner-requires-clause-to c =
    let none : Channel = record { from = 0; to = 0 } in
    omega (
      arith,
      c.requires.pairs.to c.loop-channel.channel-index c.loop-channel-test.true,
      to_of-get c.args.channels.now c.loop-channel.channel-index none c.loop-channel-test.true,
    )
