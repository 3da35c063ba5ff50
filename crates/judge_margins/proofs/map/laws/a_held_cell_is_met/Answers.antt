use Rattle.judge_margins.proofs.map_lemmas.HeldCells.{held_cell_met}
use Rattle.judge_margins.proofs.map.laws.a_held_cell_is_met.Goals as goal

pub returns : goal.returns
returns c = held_cell_met c.laws_below.ensures
