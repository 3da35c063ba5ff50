use Rattle.model_fine.proofs.WorstFine.{whole_decide}
use Rattle.model_fine.proofs.fine_laws.whole_ticks_decide.Goals as goal

pub returns : goal.returns
returns c =
    whole_decide c.history_laws.ensures c.line_laws.ensures c.the_worst_choice_decides.ensures
