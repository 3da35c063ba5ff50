use Rattle.model_settle.proofs.WorstRules.{worst_meets}
use Rattle.model_settle.proofs.polarity_laws.the_worst_choice_fails.Goals as goal

pub returns : goal.returns
returns c line script box cone sides k w h ordered d early one kn read is_w is_h =
    worst_meets c.history_laws.ensures c.line_laws.ensures line script box cone sides k w h ordered d
    early one kn read is_w is_h
