use Rattle.std.proofs.Common.{◌++◌, ◌∷◌, [], subst}
use Rattle.std.specs.Prelude.{IfOk}
use Rattle.model_plain.specs.declared.role.Role.TheVariants.{Coordination, AnyReceived}
use Rattle.model_plain.specs.Roles.{AreNamedParts, role_tree}
use Rattle.model_plain.proofs.NamedLaws.{one_more}
use Rattle.model_plain.proofs.named.with_coordination.Goals as goal

pub returns : goal.returns
unfolding role_tree
returns c roles all =
    let line = c.args.line.now in
    let k = c.args.k in
    subst (λ rs. IfOk c.with_any.result (λ ps. AreNamedParts line rs ps.items))
    (one_more roles (Coordination k) (AnyReceived k ∷ []))
    (c.with_any.ensures (roles ++ Coordination k ∷ [])
    (c.with_named-waited.ensures line roles all (c.coordinated.ensures [])))
