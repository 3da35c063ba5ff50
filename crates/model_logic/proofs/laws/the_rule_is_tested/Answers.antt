use Rattle.model_logic.proofs.RuleLaws.{Decides-held, Decides-broken}
use Rattle.model_logic.proofs.laws.the_rule_is_tested.Goals as goal

pub returns : goal.returns
returns c = record { held = Decides-held c.history_laws.ensures; broken = Decides-broken c.history_laws.ensures }
