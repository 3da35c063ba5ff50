use Rattle.std.proofs.Common.{rules, tests, ◌∙◌, ◌++◌, ap}
use Rattle.std.proofs.lemmas.Fn.{filter_same}
use Rattle.run_ticks.specs.cases.Given.{holds, spans_at}
use Rattle.run_ticks.proofs.cases.present.show_at.Goals as goal

pub returns-clause-shown : goal.returns-clause-shown
returns-clause-shown c =
    filter_same _ (holds c.args.t) _ (λ x b f' k. search (rules, tests)) _ _
    c.retain.ensures.filtered
    ∙ ap (spans_at c.args.t) (c.extend_within.ensures.items
    ∙ ap (λ l. l ++ c.args.spans.now) c.clear.ensures.items)
