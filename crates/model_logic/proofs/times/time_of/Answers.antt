use Rattle.std.proofs.Common.{ℕ, ◌<◌, ◌∙◌, ap, subst, sym}
use Rattle.std.specs.Prelude.{unwrap_or}
use Rattle.model_line.specs.Parameters.{param_count}
use Rattle.model_logic.proofs.OwnNames.{param_there}
use Rattle.model_logic.proofs.times.time_of.Goals as goal

pub returns-clause-has : goal.returns-clause-has
returns-clause-has c =
    subst (λ (n : ℕ). n < param_count c.args.line.now)
    (sym (c.unwrap_or.ensures ∙ ap (λ o. unwrap_or o 0) c.param_of.ensures))
    (param_there c.parameters_are_numbered.ensures c.args.line.now c.args.owner c.args.setting)
