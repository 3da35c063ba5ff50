use Rattle.model_logic.proofs.RuleLaws.{rule_held, held_rule, rule_broken, broken_rule}
use Rattle.model_logic.proofs.RuleLaws.{rule_unknown}
use Rattle.model_logic.proofs.RuleLaws.{unknown_rule}
use Rattle.model_logic.proofs.laws.the_rule_is_exact.Goals as goal

pub returns : goal.returns
returns c = record {
  held = λ line script trip. (
    rule_held c.history_laws.ensures script.kind script.deadline line.horizon trip,
    held_rule c.history_laws.ensures script.kind script.deadline line.horizon trip,
  );
  broken = λ line script trip. (
    rule_broken c.history_laws.ensures script.kind script.deadline line.horizon trip,
    λ h. broken_rule c.history_laws.ensures script.kind script.deadline line.horizon trip h.0 h.1,
  );
  unknown = λ line script trip. (
    rule_unknown c.history_laws.ensures script.kind script.deadline line.horizon trip,
    λ h. unknown_rule c.history_laws.ensures script.kind script.deadline line.horizon trip h.0 h.1,
  );
}
