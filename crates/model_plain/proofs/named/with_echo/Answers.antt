use Rattle.std.proofs.Common.{◌++◌, [], sym, ◌∙◌, subst}
use Rattle.std.proofs.lemmas.List.{append-nil}
use Rattle.std.specs.Prelude.{IfOk}
use Rattle.model_plain.specs.declared.role.Role.TheVariants.{Echo}
use Rattle.model_plain.specs.Roles.{AreNamedParts, role_tree, if_so}
use Rattle.model_plain.proofs.named.with_echo.Goals as goal

pub returns-then-is_terminal_weak : goal.returns-then-is_terminal_weak
unfolding role_tree
returns-then-is_terminal_weak c roles all =
    let line = c.args.line.now in
    subst (λ b. IfOk c.with_named.result
    (λ ps. AreNamedParts line (roles ++ if_so b (Echo c.args.k)) ps.items))
    (sym c.if-is_terminal_weak.true ∙ c.is_terminal_weak.ensures)
    (c.with_named.ensures line roles all (c.echo.ensures []))

pub returns-else-is_terminal_weak : goal.returns-else-is_terminal_weak
returns-else-is_terminal_weak c roles all =
    let line = c.args.line.now in
    subst (λ b. IfOk c.args.parts
    (λ ps. AreNamedParts line (roles ++ if_so b (Echo c.args.k)) ps.items))
    (sym c.if-is_terminal_weak.false ∙ c.is_terminal_weak.ensures)
    (subst (λ rs. IfOk c.args.parts (λ ps. AreNamedParts line rs ps.items))
    (sym (append-nil roles)) all)
