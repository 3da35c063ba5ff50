use Rattle.std.proofs.Common.{◌++◌, ◌∷◌, [], subst}
use Rattle.std.specs.Prelude.{IfOk}
use Rattle.model_plain.specs.declared.role.Role.TheVariants.{Window, Lockout}
use Rattle.model_plain.specs.Roles.{AreNamedParts, role_tree}
use Rattle.model_plain.proofs.NamedLaws.{one_more}
use Rattle.model_plain.proofs.named.with_open.Goals as goal

pub returns : goal.returns
unfolding role_tree
returns c roles all =
    let line = c.args.line.now in
    let n = c.args.c in
    subst (λ rs. IfOk c.with_named.result (λ ps. AreNamedParts line rs ps.items))
    (one_more roles (Window n) (Lockout n ∷ []))
    (c.with_named.ensures line (roles ++ Window n ∷ [])
    (c.with_named-window.ensures line roles all
    (rw c.receiver-to.ensures at rw c.sender-from.ensures at (c.unblocked.ensures [])))
    (rw c.receiver-to.ensures at rw c.sender-from.ensures at (c.locked_out.ensures [])))
