use Rattle.std.proofs.Common.{◌++◌, [], sym, ◌∙◌, subst}
use Rattle.std.proofs.lemmas.List.{append-nil}
use Rattle.std.specs.Prelude.{IfOk}
use Rattle.model_plain.specs.declared.role.Role.TheVariants.{Guard}
use Rattle.model_plain.specs.Roles.{AreNamedParts, role_tree, if_so}
use Rattle.model_plain.proofs.named.with_guard.Goals as goal

pub returns-then-is_terminal_guarded : goal.returns-then-is_terminal_guarded
unfolding role_tree
returns-then-is_terminal_guarded c roles all =
    let line = c.args.line.now in
    subst (λ b. IfOk c.with_named.result
    (λ ps. AreNamedParts line (roles ++ if_so b (Guard c.args.k)) ps.items))
    (sym c.if-is_terminal_guarded.true ∙ c.is_terminal_guarded.ensures)
    (c.with_named.ensures line roles all (c.guard_formula.ensures.is []))

pub returns-else-is_terminal_guarded : goal.returns-else-is_terminal_guarded
returns-else-is_terminal_guarded c roles all =
    let line = c.args.line.now in
    subst (λ b. IfOk c.args.parts
    (λ ps. AreNamedParts line (roles ++ if_so b (Guard c.args.k)) ps.items))
    (sym c.if-is_terminal_guarded.false ∙ c.is_terminal_guarded.ensures)
    (subst (λ rs. IfOk c.args.parts (λ ps. AreNamedParts line rs ps.items))
    (sym (append-nil roles)) all)
