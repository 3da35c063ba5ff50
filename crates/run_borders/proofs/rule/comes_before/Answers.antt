use Rattle.std.proofs.Common.{sym, ◌∙◌, arith, ⊎_elim}
use Rattle.std.proofs.lemmas.Bool.{cases_lt}
use Rattle.std.proofs.lemmas.Bool.Decides.{Decides-ltb}
use Rattle.model_history.specs.TruthLaws.{not_both}
use Rattle.run_borders.proofs.rule.comes_before.Goals as goal

pub returns-in-Some-clause-comes : goal.returns-in-Some-clause-comes
returns-in-Some-clause-comes c = λ u n is on.
    let here = (c.the_first_tick_is_the_least.ensures.some u n c.in-Some.t).0 (sym is ∙ c.in-Some.is) in
    (c.in-Some.t, (Decides-ltb c.in-Some.t c.args.end).0 on, here.1)

pub returns-in-Some-clause-never : goal.returns-in-Some-clause-never
returns-in-Some-clause-never c = λ u n few is off r early.
    let here = (c.the_first_tick_is_the_least.ensures.some u n c.in-Some.t).0 (sym is ∙ c.in-Some.is) in
    ⊎_elim
    (λ within. absurd (not_both _ off ((Decides-ltb c.in-Some.t c.args.end).1 within)))
    (λ past. here.2 r (omega arith)) (cases_lt c.in-Some.t c.args.end)
