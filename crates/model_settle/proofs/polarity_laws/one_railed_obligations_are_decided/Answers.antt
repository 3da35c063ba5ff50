use Rattle.model_settle.proofs.WorstRules.{decided}
use Rattle.model_settle.proofs.polarity_laws.one_railed_obligations_are_decided.Goals as goal

pub returns : goal.returns
returns c line script cone sides k w early is_w one kn read =
    decided c.history_laws.ensures c.line_laws.ensures c.declared_intervals_are_in_order.ensures line
    script cone sides k w early is_w one kn read
