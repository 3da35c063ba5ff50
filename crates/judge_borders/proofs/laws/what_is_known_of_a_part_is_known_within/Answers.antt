use Rattle.judge_borders.proofs.Within.{rule_within, rules_within}
use Rattle.judge_borders.proofs.laws.what_is_known_of_a_part_is_known_within.Goals as goal

pub returns : goal.returns
returns c = record { rules = rules_within; rule = rule_within }
