use Rattle.std.proofs.Common.{sym, ◌∙◌, arith, ⊎_elim}
use Rattle.std.proofs.lemmas.Bool.{cases_lt}
use Rattle.model_history.specs.TruthLaws.{Decides-le}
use Rattle.model_history.specs.TruthLaws.{not_both}
use Rattle.run_borders.proofs.rule.comes_by.Goals as goal

pub returns-in-Some-clause-comes : goal.returns-in-Some-clause-comes
returns-in-Some-clause-comes c = λ u n is on.
    let here = (c.the_first_tick_is_the_least.ensures.some u n c.in-Some.t).0 (sym is ∙ c.in-Some.is) in
    (c.in-Some.t, (Decides-le c.in-Some.t c.args.deadline).0 on, here.1)

pub returns-in-Some-clause-never : goal.returns-in-Some-clause-never
returns-in-Some-clause-never c = λ u n few is off r early.
    let here = (c.the_first_tick_is_the_least.ensures.some u n c.in-Some.t).0 (sym is ∙ c.in-Some.is) in
    ⊎_elim
    (λ past. here.2 r (omega arith))
    (λ within. absurd (not_both _ off ((Decides-le c.in-Some.t c.args.deadline).1 within)))
    (cases_lt c.args.deadline c.in-Some.t)
