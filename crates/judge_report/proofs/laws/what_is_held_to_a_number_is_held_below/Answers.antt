use Rattle.judge_report.proofs.MarginLaws.{held_below}
use Rattle.judge_report.proofs.laws.what_is_held_to_a_number_is_held_below.Goals as goal

pub returns : goal.returns
returns c line scripts param u v fit here le all = held_below c.laws_below.ensures line scripts param fit u v le all
