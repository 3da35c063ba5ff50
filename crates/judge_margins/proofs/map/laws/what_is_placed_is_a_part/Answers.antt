use Rattle.judge_margins.proofs.map_lemmas.PlacedLaws.{placed_rest}
use Rattle.judge_margins.proofs.map.laws.what_is_placed_is_a_part.Goals as goal

pub returns : goal.returns
returns c = placed_rest
