use Rattle.std.proofs.Common.{◌∙◌, sym, ap}
use Rattle.model_line.specs.ChannelLaws.{ends_if_found, exists_between}
use Rattle.model_line.specs.Channels.{channel_number}
use Rattle.model_line.proofs.line.Line.channel_of.Goals as goal

pub returns-clause-some : goal.returns-clause-some
returns-clause-some c =
    exists_between _ c.args.self.now.channels.items c.args.self.now.pairs_once c.args.from
    c.args.to c.find_channel.result
    (sym (c.find_channel.ensures
    ∙ ap (λ cs. channel_number cs c.args.from c.args.to) c.deref.ensures.value))

pub returns-clause-ends : goal.returns-clause-ends
returns-clause-ends c =
    ends_if_found c.args.self.now.channels.items c.args.from c.args.to c.find_channel.result
    (sym (c.find_channel.ensures
    ∙ ap (λ cs. channel_number cs c.args.from c.args.to) c.deref.ensures.value))
