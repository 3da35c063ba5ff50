use Rattle.model_logic.proofs.HeldLaws.{held_narrower_line}
use Rattle.model_logic.proofs.interval_laws.what_is_held_is_held_of_narrower_lines.Goals as goal

pub returns : goal.returns
returns c line other script k early kn same within held =
    held_narrower_line c.history_laws.ensures line other same script k early kn within held
