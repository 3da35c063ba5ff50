use Rattle.std.proofs.Common.{◌<◌, ◌∙◌, ap, subst, sym}
use Rattle.std.specs.Prelude.{ℕ, unwrap_or}
use Rattle.model_line.specs.{Parameters.param_count, DelayLaws.delay_within}
use Rattle.model_line.proofs.line.Line.delay_of.Goals as goal

pub returns-clause-within : goal.returns-clause-within
returns-clause-within c =
    subst (λ (n : ℕ). n < param_count c.args.self.now)
    (sym (c.unwrap_or.ensures ∙ ap (λ o. unwrap_or o 0) c.param_of.ensures))
    (delay_within c.args.self.now c.args.channel c.requires)
