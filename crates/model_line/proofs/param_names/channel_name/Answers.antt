use Rattle.model_line.specs.ParamNameLaws.{pair_name_is}
use Rattle.model_line.proofs.param_names.channel_name.Goals as goal

pub returns-clause-name : goal.returns-clause-name
returns-clause-name c =
    let name = pair_name_is c.args.terminals.now c.args.channel c.index-terminals-channel.result
    c.index-terminals-channel-2.result c.requires.from c.requires.to
    c.index-terminals-channel.is c.index-terminals-channel-2.is in
    cc
