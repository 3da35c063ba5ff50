use Rattle.std.proofs.Common.{refl, []}
use Rattle.model_logic.specs.{Names.Names, Tree.Seen, Tree.Timer}
use Rattle.model_plain.specs.FormulaLaws.{named_as}
use Rattle.model_plain.proofs.seen_elements.element_formula.Goals as goal

pub returns-in-Some-clause-named : goal.returns-in-Some-clause-named
unfolding Names
returns-in-Some-clause-named c =
    named_as c.args.line.now
    (Timer (Seen (record { element = c.args.element; terminal = c.args.k })) c.time_of-pickup.result
    c.time_of-dropout.result)
    c.timer.result
    (c.requires, (c.time_of-pickup.ensures.has, c.time_of-dropout.ensures.has))
    (c.timer.ensures [] _ refl)
