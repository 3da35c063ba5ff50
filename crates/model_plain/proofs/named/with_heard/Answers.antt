use Rattle.std.proofs.Common.{◌++◌, ◌∷◌, [], List, refl, subst, ◌∙◌}
use Rattle.std.specs.Prelude.{IfOk}
use Rattle.model_plain.specs.declared.role.Role.{Role}
use Rattle.model_plain.specs.declared.role.Role.TheVariants.{Lost, Raw, Received}
use Rattle.model_plain.specs.Roles.{AreNamedParts, role_tree, window_roles}
use Rattle.model_plain.proofs.{NamedLaws.one_more, ProgramLaws.closed_over}
use Rattle.model_plain.proofs.named.with_heard.Goals as goal

pub returns : goal.returns
unfolding role_tree
returns c roles all =
    let line = c.args.line.now in
    let n = c.args.c in
    let end : List Role = window_roles line.scheme n in
    let lost : List Role = roles ++ Lost n ∷ [] in
    let raw : List Role = lost ++ Raw n ∷ [] in
    subst (λ rs. IfOk c.with_window.result (λ ps. AreNamedParts line rs ps.items))
    (one_more raw (Received n) end ∙ one_more lost (Raw n) (Received n ∷ end)
    ∙ one_more roles (Lost n) (Raw n ∷ (Received n ∷ end)))
    (c.with_window.ensures (raw ++ Received n ∷ [])
    (c.with_named-heard.ensures line raw
    (c.with_named-raw.ensures line lost
    (c.with_named-lost.ensures line roles all refl) refl)
    (rw c.receiver.ensures at rw c.sender.ensures at
    (closed_over _ c.received-signal.result c.received-signal.ensures []))))
