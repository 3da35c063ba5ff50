use Rattle.model_logic.proofs.RuleLaws.{held_rule_met, broken_rule_failed}
use Rattle.model_logic.proofs.laws.the_rule_speaks_for_what_is_covered.Goals as goal

pub returns : goal.returns
returns c = record { held = held_rule_met c.history_laws.ensures; broken = broken_rule_failed c.history_laws.ensures }
