use Rattle.std.proofs.Common.{[]}
use Rattle.model_plain.specs.Roles.{role_tree}
use Rattle.model_plain.proofs.named.with_any.Goals as goal

pub returns : goal.returns
unfolding role_tree
returns c roles all =
    c.with_named.ensures c.args.line.now roles all (c.any_received.ensures [])
