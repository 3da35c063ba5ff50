use Rattle.model_plain.proofs.logic.trip.Goals as goal

pub returns : goal.returns
returns c parts t given =
    c.seal.ensures parts _ _ (c.set-set.ensures parts t given) (c.element_formula.ensures.is parts)
