use Rattle.std.proofs.Common.{◌∙◌, ap}
use Rattle.model_plain.specs.Roles.{roles_at}
use Rattle.draw_gates.specs.roles.Lookup.{role_by}
use Rattle.call_why.proofs.PartLaws.{by_roles}
use Rattle.call_why.proofs.parts.role_at.Goals as goal

pub returns : goal.returns
returns c =
    let line = c.args.compiled.now.line.now in
    let gates = c.args.compiled.now.net.now.gates in
    c.role_of_gate.ensures ∙ ap (role_by gates c.args.i) c.as_slice.ensures.value
    ∙ by_roles line gates c.args.i (roles_at line c.args.k) c.in_ok-parts.parts.items
    c.in_ok-parts.ensures
