use Rattle.std.proofs.Common.{◌≡◌, subst}
use Rattle.std.specs.Prelude.{IfOk}
use Rattle.model_plain.specs.Formulas.{own_tree}
use Rattle.model_plain.specs.Roles.{AreNamedParts, role_tree}
use Rattle.model_plain.proofs.NamedLaws.{named_push}
use Rattle.model_plain.proofs.named.with_named.Goals as goal

pub returns : goal.returns
returns c line roles all is =
    rw c.in_ok-push.ensures.items (named_push line roles c.args.role c.in_ok-parts.parts.items
    c.in_ok-formula.formula
    (subst (λ r. IfOk r (λ ps. AreNamedParts line roles ps.items)) c.in_ok-parts.was all)
    (subst (λ r. IfOk r (λ f. own_tree f ≡ role_tree line c.args.role)) c.in_ok-formula.was is))
