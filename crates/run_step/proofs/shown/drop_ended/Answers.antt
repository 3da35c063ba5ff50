use Rattle.std.proofs.Common.{rules, tests}
use Rattle.std.proofs.lemmas.Fn.{filter_same}
use Rattle.std.specs.Prelude.{nat_lt}
use Rattle.run_step.proofs.shown.drop_ended.Goals as goal

pub returns-clause-items : goal.returns-clause-items
returns-clause-items c =
    filter_same _ (λ s. nat_lt c.args.t s.to) _ (λ x b f' k. search (rules, tests)) _ _
    c.retain.ensures.filtered
