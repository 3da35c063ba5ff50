use Rattle.std.proofs.Common.{◌++◌, ◌∷◌, [], List, subst, ap, ◌∙◌}
use Rattle.std.proofs.lemmas.List.{append_assoc}
use Rattle.std.specs.Prelude.{IfOk}
use Rattle.model_logic.specs.Elements.{is_guarded, is_weak}
use Rattle.model_plain.specs.declared.role.Role.{Role}
use Rattle.model_plain.specs.declared.role.Role.TheVariants.{Guard, Echo, Permission}
use Rattle.model_plain.specs.Roles.{AreNamedParts, role_tree, if_so}
use Rattle.model_plain.proofs.named.with_permission.Goals as goal

pub returns : goal.returns
unfolding role_tree
returns c roles all =
    let line = c.args.line.now in
    let k = c.args.k in
    let guard : List Role = if_so (is_guarded line k) (Guard k) in
    let echo : List Role = if_so (is_weak line k) (Echo k) in
    let last : List Role = Permission k ∷ [] in
    subst (λ rs. IfOk c.with_named.result (λ ps. AreNamedParts line rs ps.items))
    (ap (λ rs. rs ++ last) (append_assoc roles guard echo)
    ∙ append_assoc roles (guard ++ echo) last)
    (c.with_named.ensures line (roles ++ guard ++ echo)
    (c.with_echo-echo.ensures (roles ++ guard) (c.with_guard-guard.ensures roles all))
    (c.permission.ensures []))
