use Rattle.model_line.specs.ParamNameLaws.{names_made}
use Rattle.model_line.proofs.param_names.param_names.Goals as goal

pub returns : goal.returns
returns c =
    names_made c.args.scheme c.args.terminals.now c.args.channels.now _ _ _
    c.new-names.ensures.items c.in_ok-push_terminals.ensures c.in_ok-push_channels.ensures
