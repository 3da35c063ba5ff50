use Rattle.model_plain.proofs.permissive.permitted.Goals as goal

pub returns : goal.returns
returns c parts t given =
    c.and.ensures parts _ _
    (c.and-permitted.ensures parts _ _ (c.element_formula-zone2.ensures.is parts) given)
    (c.not.ensures parts _ (c.guard_formula.ensures.is parts))
