use Rattle.std.proofs.Common.{◌≡◌, Bool, IfOk, subst, sym}
use Rattle.std.specs.Prelude.{if◌then◌else◌}
use Rattle.model_logic.specs.Elements.{zone1}
use Rattle.model_logic.specs.Tree.{Or}
use Rattle.model_plain.specs.Formulas.{tree_of}
use Rattle.model_plain.proofs.logic.set.Goals as goal

pub returns-then-line : goal.returns-then-line
returns-then-line c parts t given =
    subst
    (λ (b : Bool). IfOk c.or.result (λ f. tree_of parts f
    ≡ if b then Or t (zone1 c.args.line.now c.args.k) else t))
    (sym c.if-line.true) (c.or.ensures parts _ _ given (c.element_formula.ensures.is parts))
