use Rattle.model_settle.proofs.Leading.{worse_meets_less}
use Rattle.model_settle.proofs.polarity_laws.a_worse_choice_meets_less.Goals as goal

pub returns : goal.returns
returns c = worse_meets_less c.history_laws.ensures c.line_laws.ensures
