use Rattle.std.proofs.Common.{subst}
use Rattle.std.specs.Prelude.{IfOk}
use Rattle.model_logic.specs.Names.{Names}
use Rattle.model_plain.specs.Formulas.{own_tree}
use Rattle.model_plain.specs.Parts.{AreProgramParts, StandsOver}
use Rattle.model_plain.proofs.ProgramLaws.{parts_push}
use Rattle.model_plain.proofs.parts.with_part.Goals as goal

pub returns : goal.returns
returns c line trees tree m n all last named =
    rw c.in_ok-push.ensures.items (parts_push line trees tree m n c.in_ok-parts.parts.items
    c.in_ok-part.field-0
    (subst (λ r. IfOk r (λ ps. AreProgramParts line trees m ps.items)) c.in_ok-parts.was all)
    (subst (λ r. IfOk r (StandsOver trees tree n)) c.in_ok-part.was last)
    (subst (λ r. IfOk r (λ f. Names line (own_tree f))) c.in_ok-part.was named))
