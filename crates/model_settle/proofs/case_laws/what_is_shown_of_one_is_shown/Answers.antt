use Rattle.model_settle.proofs.UnderHistories.{shown_of}
use Rattle.model_settle.proofs.case_laws.what_is_shown_of_one_is_shown.Goals as goal

pub returns : goal.returns
returns c = shown_of c.history_laws.ensures c.line_laws.ensures
