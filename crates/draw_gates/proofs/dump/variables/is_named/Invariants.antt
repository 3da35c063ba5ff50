use Rattle.std.proofs.Common.{◌≡◌}
use Rattle.std.specs.Prelude.{is_some}
use Rattle.model_history.specs.Elements.{some_below}
use Rattle.model_plain.specs.Roles.{roles_at}
use Rattle.draw_gates.specs.roles.Lookup.{role_among}
use Rattle.draw_gates.proofs.dump.variables.is_named.Given as goal

abbrev pub invariant-loop-k : goal.invariant-loop-k
invariant-loop-k l =
    l.named
    ≡ some_below (λ k. is_some
    (role_among l.compiled.line.now l.compiled.net.now.gates l.i (roles_at l.compiled.line.now k)))
    l.k
