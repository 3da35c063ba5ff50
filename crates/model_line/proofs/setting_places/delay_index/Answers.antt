use Rattle.model_line.specs.PositionLaws.{delay_number_is}
use Rattle.model_line.proofs.Counts.{channel_within}
use Rattle.model_line.proofs.setting_places.delay_index.Goals as goal

pub returns-clause-number : goal.returns-clause-number
returns-clause-number c =
    delay_number_is c.args.scheme c.args.terminals.now c.args.channels.now c.args.channel _ _
    c.requires.exists c.count_before.ensures.count c.count_of_channel.ensures.count

pub returns-clause-within : goal.returns-clause-within
returns-clause-within c =
    channel_within c.args.scheme c.args.terminals.now c.args.channels.now c.args.channel _ _
    c.requires.exists c.count_before.ensures.count c.count_of_channel.ensures.count
