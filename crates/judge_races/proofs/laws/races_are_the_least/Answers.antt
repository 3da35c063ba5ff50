use Rattle.judge_races.proofs.SpareLaws.{least_rails, least_choices}
use Rattle.judge_races.proofs.laws.races_are_the_least.Goals as goal

pub returns : goal.returns
returns c = record {
  rails = least_rails;
  choices = least_choices c.a_wider_box_covers.ensures c.each_line_has_a_choice_inside.ensures
      c.trees_name_the_line.ensures c.each_box_has_one_interval_history.ensures;
}
