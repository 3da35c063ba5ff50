use Rattle.judge_margins.proofs.map_lemmas.PlacedCells.{placed_cell}
use Rattle.judge_margins.proofs.map.laws.a_cell_is_of_the_placed_line.Goals as goal

pub returns : goal.returns
returns c = placed_cell c.laws_below.ensures
