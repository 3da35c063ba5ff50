use Rattle.judge_split.proofs.HalfLaws.{own_part, split_part, held_part}
use Rattle.judge_split.proofs.laws.a_part_stands_for_its_box.Goals as goal

pub returns : goal.returns
returns c = record {
  own = own_part c.laws_below.ensures;
  split = split_part c.laws_below.ensures;
  held = held_part c.laws_below.ensures;
}
