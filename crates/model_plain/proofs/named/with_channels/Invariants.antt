use Rattle.std.proofs.Common.{◌++◌, List}
use Rattle.std.specs.Prelude.{IfOk}
use Rattle.model_history.specs.Each.{each_below}
use Rattle.model_plain.specs.declared.role.Role.{Role}
use Rattle.model_plain.specs.Roles.{AreNamedParts, channel_roles}
use Rattle.model_plain.proofs.named.with_channels.Given as goal

abbrev pub invariant-loop-c : goal.invariant-loop-c
invariant-loop-c l =
    (roles : List Role) → IfOk l.initial.all (λ ps. AreNamedParts l.line roles ps.items)
    → IfOk l.all (λ ps. AreNamedParts l.line (roles ++ each_below l.c (channel_roles l.line l.k))
    ps.items)
