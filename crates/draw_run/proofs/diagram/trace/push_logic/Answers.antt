use Rattle.std.proofs.Common.{◌≡◌, ◌++◌, ◌∙◌, ap, subst}
use Rattle.std.specs.Prelude.{OnOk}
use Rattle.std.specs.List.{flat_map}
use Rattle.model_plain.specs.Roles.{roles_at}
use Rattle.draw_run.specs.diagram.Traces.{logic_of_part}
use Rattle.draw_run.proofs.diagram_lemmas.TraceLaws.{rows_of_parts}
use Rattle.draw_run.proofs.diagram.trace.push_logic.Goals as goal

pub returns : goal.returns
returns c =
    let line = c.args.compiled.now.line.now in
    let gates = c.args.compiled.now.net.now.gates in
    subst
    (λ rows. OnOk c.push_parts.result
    (c.push_parts.new.all.items ≡ c.args.all.now.items ++ rows))
    (ap (flat_map (logic_of_part line gates)) c.as_slice.ensures.value
    ∙ rows_of_parts line gates (roles_at line c.args.k) c.in_ok-parts.parts.items
    c.in_ok-parts.ensures)
    c.push_parts.ensures
