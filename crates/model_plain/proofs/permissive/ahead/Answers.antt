use Rattle.model_plain.proofs.permissive.ahead.Goals as goal

pub returns : goal.returns
returns c parts =
    c.and.ensures parts _ _ (c.element_formula-zone2.ensures.is parts)
    (c.not.ensures parts _ (c.guard_formula.ensures.is parts))
