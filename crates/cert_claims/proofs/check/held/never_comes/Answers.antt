use Rattle.std.proofs.Common.{sym, ◌∙◌}
use Rattle.cert_claims.proofs.check_lemmas.HeldRules.{none_told}
use Rattle.cert_claims.proofs.check.held.never_comes.Goals as goal

pub returns : goal.returns
returns c = λ u n is.
    let none = c.the_first_tick_is_the_least.ensures.none u n in
    let told = none_told c.args.first c.is_none.result c.is_none.ensures in (
      λ yes. none.0 (sym is ∙ told.0 yes),
      λ never. told.1 (is ∙ none.1 never),
    )
