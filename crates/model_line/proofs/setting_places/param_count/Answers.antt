use Rattle.model_line.proofs.Counts.{setting_count}
use Rattle.model_line.proofs.setting_places.param_count.Goals as goal

pub returns : goal.returns
returns c =
    setting_count c.args.scheme c.args.terminals.now c.args.channels.now _ _
    c.count_before.ensures.count c.count_of_channel.ensures.count
