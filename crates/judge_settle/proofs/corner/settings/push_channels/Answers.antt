use Rattle.judge_settle.proofs.corner_lemmas.SettingOrder.{one_channel_more}
use Rattle.judge_settle.proofs.corner.settings.push_channels.Goals as goal

pub loop-channel-preserved : goal.loop-channel-preserved
loop-channel-preserved c =
    one_channel_more c.args.scheme c.args.channels.now c.loop-channel._channel-index
    c.loop-channel-test.true _ _ _ _ c.loop-channel.invariant c.in_ok-push_groups.ensures
    c.groups_of_channel.ensures.all
